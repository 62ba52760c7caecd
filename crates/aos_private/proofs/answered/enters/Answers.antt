use Rattle.std.proofs.Common.{◌≡◌, ◌+◌, ◌-◌, ◌^◌, List, ◌∷◌, length, min, sym, ap, ◌∙◌, take, reverse}
use Rattle.std.specs.Prelude.{not}
use Rattle.std.specs.Option.{option_map}
use Rattle.aos_code.specs.declared.instr.Cell.{Cell}
use Rattle.aos_code.specs.Machine.{arguments_of, rooted}
use Rattle.aos_store.specs.Store.{list_in, memory_in, rooted_in, deep}
use Rattle.aos_silent_steps.specs.Acts.{behind_value, with_object, passed}
use Rattle.aos_cpu.specs.Calls.{Gift, gifts, all_copied}
use Rattle.aos_cpu.proofs.Calling.{none_of, some_of, deep_same}
use Rattle.aos_cpu.proofs.Passing.{no_gifts, same_gifts}
use Rattle.aos_private.proofs.Gone.{call_lost, call_gone}
use Rattle.aos_private.proofs.answered.enters.Goals as goal

pub returns-in-None : goal.returns-in-None
returns-in-None c f fs is following p at k s =
    let shape = c.args.shape.now in
    let mem = memory_in c.args.store.now in
    let x = rooted_in c.args.frames.now c.args.store.now in
    let all = c.behind_value-all.result.now in
    let args = c.arguments_of-args.result.now in
    let g = λ (gs : List Gift). min (length (all_copied gs)) (2 ^ 64 - 1) in
    let none = none_of g (gifts x shape.params.items args) (c.in-None.ensures ∙ ap (λ ps. option_map g (gifts x ps args)) c.deref.ensures.value) in
    let over : all ≡ behind_value c.args.way (reverse (take c.args.count f.stack)) = c.behind_value-all.ensures ∙ ap (behind_value c.args.way) (c.arguments.ensures f fs is) in
    call_lost following at k s f fs mem shape p (passed c.args.way (reverse (take c.args.count f.stack)))
    ((λ i. gifts (rooted (sym is i) mem) shape.params.items (arguments_of shape.method (with_object c.args.way (sym over i))))
    ∙ no_gifts x shape.params.items c.args.way shape.method all (ap (gifts x shape.params.items) (sym c.arguments_of-args.ensures) ∙ none))

pub returns-in-Some : goal.returns-in-Some
returns-in-Some c f fs is following p at k s =
    let shape = c.args.shape.now in
    let mem = memory_in c.args.store.now in
    let x = rooted_in c.args.frames.now c.args.store.now in
    let all = c.behind_value-all.result.now in
    let args = c.arguments_of-args.result.now in
    let g = λ (gs : List Gift). min (length (all_copied gs)) (2 ^ 64 - 1) in
    let some = some_of g (gifts x shape.params.items args) c.in-Some.copied (c.in-Some.ensures ∙ ap (λ ps. option_map g (gifts x ps args)) c.deref.ensures.value) in
    let n = length (all_copied some.0) in
    let same = deep_same shape.counted n c.in-Some.copied c.count_with.result some.2 c.count_with.ensures (list_in c.args.frames.now.list.items) in
    let over : all ≡ behind_value c.args.way (reverse (take c.args.count f.stack)) = c.behind_value-all.ensures ∙ ap (behind_value c.args.way) (c.arguments.ensures f fs is) in
    let hs = same_gifts x shape.params.items c.args.way shape.method all some.0 (ap (gifts x shape.params.items) (sym c.arguments_of-args.ensures) ∙ some.1) in
    call_gone following at k s f fs mem shape p (passed c.args.way (reverse (take c.args.count f.stack))) hs.0 _
    ((λ i. gifts (rooted (sym is i) mem) shape.params.items (arguments_of shape.method (with_object c.args.way (sym over i)))) ∙ hs.1)
    (ap not (c.is_deep.ensures ∙ same ∙ ap (deep (shape.counted + n)) is ∙ ap (λ (cs : List Cell). deep (shape.counted + length cs) (f ∷ fs)) hs.2))
