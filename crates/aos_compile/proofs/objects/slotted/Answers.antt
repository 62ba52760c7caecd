-- One method more.
use Rattle.std.proofs.Common.{◌≡◌, ◌+◌, [], ◌∷◌, ◌++◌, length, map, length-append, arith, ap, sym, ◌∙◌}
use Rattle.std.proofs.lemmas.List.{length-map, map-append}
use Rattle.aos_typed.specs.declared.tree.TMethod.{TMethod}
use Rattle.aos_typed.specs.Seen.{seen_method, seen_procedure}
use Rattle.aos_symbols.specs.Home.{slot_at}
use Rattle.aos_compile.specs.Modules as judge
use Rattle.aos_compile.proofs.Passes.{slotted_more}
use Rattle.aos_compile.proofs.objects.slotted.Goals as goal

pub loop-procedure-preserved : goal.loop-procedure-preserved
loop-procedure-preserved c =
    let h = c.args.home.now in
    let o = c.args.object in
    let ps = c.loop-procedure.yielded in
    let p = c.in-Some.procedure in
    let m : TMethod = record { slot = c.slot-slot.result; procedure = p } in
    let done = judge.slotted h o 0 (map seen_procedure ps) in
    let count = c.loop-procedure.invariant.count in
    let long = length-map ps seen_procedure in
    let number : c.loop-procedure.number ≡ 0 + length (map seen_procedure ps) = omega (arith, count, long) in
    let slot : c.slot-slot.result ≡ slot_at h o (0 + length (map seen_procedure ps)) = c.slot-slot.ensures ∙ ap (slot_at h o) number in
    record {
      told =
          ap (map seen_method) c.in_ok-push.ensures.items
          ∙ map-append seen_method c.loop-procedure.all.items (m ∷ [])
          ∙ ap (λ l. l ++ seen_method m ∷ []) c.loop-procedure.invariant.told
          ∙ ap (λ n. done ++ record { slot = n; procedure = seen_procedure p } ∷ []) slot
          ∙ sym (slotted_more h o 0 (map seen_procedure ps) (seen_procedure p))
          ∙ ap (judge.slotted h o 0) (sym (map-append seen_procedure ps (p ∷ [])));
      count = let more = length-append ps (p ∷ []) in let next = c.in_ok-number.ensures in omega (arith, count, more, next);
    }
