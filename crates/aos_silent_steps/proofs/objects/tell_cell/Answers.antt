use Rattle.std.proofs.Common.{◌≡◌, List, ◌∷◌, [], reverse, refl, subst, arith}
use Rattle.std.specs.Prelude.{Some, slice_get}
use Rattle.aos_base.specs.declared.root.Root.TheVariants.{Object as ObjectRoot}
use Rattle.aos_code.specs.declared.instr.Cell.{Cell}
use Rattle.aos_code.specs.declared.instr.Cell.TheVariants.{Place}
use Rattle.aos_code.specs.Silent.{AtCell, Stops, Fails}
use Rattle.aos_silent_steps.specs.Acts.{object_in}
use Rattle.aos_silent_steps.proofs.Telling.{told_one}
use Rattle.aos_silent_steps.proofs.objects.tell_cell.Goals as goal

pub returns-in-Some-get-clause-told : goal.returns-in-Some-get-clause-told
returns-in-Some-get-clause-told c shapes types =
    let s = reverse c.args.stack.now.items in
    let n = c.in-Some.number in
    let top : Some n ≡ object_in (slice_get s 0) = subst (λ (xs : List Cell). Some n ≡ object_in (slice_get (reverse xs) 0)) c.deref.ensures.value c.in-Some.ensures in
    told_one shapes types c.args.heap.now (AtCell c.args.cell) s (reverse c.replace.new.stack.items) (λ r. Stops (Fails 1 0)) n (omega arith) top c.in-Some-get.object.now
    (Place (ObjectRoot n) c.args.cell c.in-Some-get.object.now.made_of ∷ []) c.in-Some-get.ensures refl c.replace.ensures.operands
