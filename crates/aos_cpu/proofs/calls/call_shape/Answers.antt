use Rattle.std.proofs.Common.{◌≡◌, ◌-◌, ◌^◌, List, length, min, sym, ap, ◌∙◌, subst}
use Rattle.std.specs.Prelude.{Option, Some, None}
use Rattle.std.specs.Option.{option_map}
use Rattle.aos_store.specs.Store.{list_in, frame_in, memory_in, rooted_in}
use Rattle.aos_silent_steps.specs.Acts.{behind_value}
use Rattle.aos_cpu.specs.Calls.{Gift, gifts, all_copied, called, called_cells}
use Rattle.aos_cpu.proofs.Calling.{none_of, some_of, deep_same, counted_all, call_lost, call_deep, call_made}
use Rattle.aos_store.proofs.Rooms.{shallow}
use Rattle.aos_cpu.proofs.calls.call_shape.Goals as goal

pub returns-in-None-clause-ok : goal.returns-in-None-clause-ok
returns-in-None-clause-ok c out =
    let old = c.args.frames.now in
    let shape = c.args.shape.now in
    let mem = memory_in c.args.store.now in
    let x = rooted_in old c.args.store.now in
    let all = c.behind_value-all.result.now in
    let args = c.arguments_of-args.result.now in
    let taken = λ (o : Option (List Gift)). subst (λ vs. gifts x shape.params.items vs ≡ o) c.arguments_of-args.ensures in
    let f = λ (gs : List Gift). min (length (all_copied gs)) (2 ^ 64 - 1) in
    call_lost shape c.args.procedure c.args.way (sym c.may_pass.ensures ∙ c.if-not-may_pass.false) c.args.count c.args.at old mem out all (λ f fs is. c.behind_value-all.ensures ∙ ap (behind_value c.args.way) (c.arguments.ensures f fs is))
    (taken None (none_of f (gifts x shape.params.items args) (c.in-None.ensures ∙ ap (λ ps. option_map f (gifts x ps args)) c.deref.ensures.value)))

pub returns-then-is_deep-clause-ok : goal.returns-then-is_deep-clause-ok
returns-then-is_deep-clause-ok c out =
    let old = c.args.frames.now in
    let shape = c.args.shape.now in
    let mem = memory_in c.args.store.now in
    let x = rooted_in old c.args.store.now in
    let all = c.behind_value-all.result.now in
    let args = c.arguments_of-args.result.now in
    let taken = λ (o : Option (List Gift)). subst (λ vs. gifts x shape.params.items vs ≡ o) c.arguments_of-args.ensures in
    let f = λ (gs : List Gift). min (length (all_copied gs)) (2 ^ 64 - 1) in
    let s = some_of f (gifts x shape.params.items args) c.in-Some.copied (c.in-Some.ensures ∙ ap (λ ps. option_map f (gifts x ps args)) c.deref.ensures.value) in
    let n = length (all_copied s.0) in
    let fs = list_in old.list.items in
    let same = deep_same shape.counted n c.in-Some.copied c.count_with-counted.result s.2 c.count_with-counted.ensures fs in
    call_deep shape c.args.procedure c.args.way (sym c.may_pass.ensures ∙ c.if-not-may_pass.false) c.args.count c.args.at old mem out all (λ f fs is. c.behind_value-all.ensures ∙ ap (behind_value c.args.way) (c.arguments.ensures f fs is)) s.0 (taken (Some s.0) s.1) (sym same ∙ sym c.if-is_deep.ensures)

pub returns-in_ok-enter-in-Some-clause-ok : goal.returns-in_ok-enter-in-Some-clause-ok
returns-in_ok-enter-in-Some-clause-ok c out =
    let old = c.args.frames.now in
    let shape = c.args.shape.now in
    let mem = memory_in c.args.store.now in
    let x = rooted_in old c.args.store.now in
    let all = c.behind_value-all.result.now in
    let args = c.arguments_of-args.result.now in
    let taken = λ (o : Option (List Gift)). subst (λ vs. gifts x shape.params.items vs ≡ o) c.arguments_of-args.ensures in
    let f = λ (gs : List Gift). min (length (all_copied gs)) (2 ^ 64 - 1) in
    let s = some_of f (gifts x shape.params.items args) c.in-Some.copied (c.in-Some.ensures ∙ ap (λ ps. option_map f (gifts x ps args)) c.deref.ensures.value) in
    let n = length (all_copied s.0) in
    let fs = list_in old.list.items in
    let same = deep_same shape.counted n c.in-Some.copied c.count_with-counted.result s.2 c.count_with-counted.ensures fs in
    let count = counted_all shape.counted n c.in-Some.copied c.count_with-counted.result s.2 c.count_with-counted.ensures fs (sym c.if-is_deep.ensures) in
    let frame = c.in_ok-frame-in-Some.ensures.frame s.0 s.1 ∙ (λ i. called c.args.procedure (c.object_of-object.ensures i) (count i) (called_cells (length fs) shape.kinds.items s.0)) in
    call_made shape c.args.procedure c.args.way (sym c.may_pass.ensures ∙ c.if-not-may_pass.false) c.args.count c.args.at old mem out all (λ f fs is. c.behind_value-all.ensures ∙ ap (behind_value c.args.way) (c.arguments.ensures f fs is)) s.0 c.enter.new.frames (frame_in c.in_ok-frame-in-Some.frame) (taken (Some s.0) s.1) (sym same ∙ sym c.if-is_deep.ensures) frame c.in_ok-enter-in-Some.ensures.ok

pub returns-in_err-enter-in-Some-clause-room : goal.returns-in_err-enter-in-Some-clause-room
returns-in_err-enter-in-Some-clause-room c depths keeps le many roomy =
    c.enter.ensures.room depths keeps (c.in_ok-frame-in-Some.ensures.room depths keeps le many) (shallow c.count_with-counted.result c.args.frames.now.list.items (sym c.if-is_deep.ensures)) roomy

pub returns-in_ok-enter-in-Some-clause-room : goal.returns-in_ok-enter-in-Some-clause-room
returns-in_ok-enter-in-Some-clause-room c depths keeps le many roomy =
    c.enter.ensures.room depths keeps (c.in_ok-frame-in-Some.ensures.room depths keeps le many) (shallow c.count_with-counted.result c.args.frames.now.list.items (sym c.if-is_deep.ensures)) roomy
