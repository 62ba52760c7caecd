use Rattle.std.proofs.Common.{◌∷◌, [], reverse, sym, ap, arith}
use Rattle.std.specs.Prelude.{if◌then◌else◌}
use Rattle.aos_code.specs.declared.instr.Cell.TheVariants.{Ref}
use Rattle.aos_code.specs.Silent.{AsType, Stops, Fails, Tells, Refuses}
use Rattle.aos_silent_steps.proofs.Stepped.{object_top}
use Rattle.aos_silent_steps.proofs.Telling.{told_one, told_refused}
use Rattle.aos_silent_steps.proofs.objects.tell_as.Goals as goal

pub returns-then-extends-clause-told : goal.returns-then-extends-clause-told
returns-then-extends-clause-told c shapes =
    let s = reverse c.args.stack.now in
    let n = c.in-Some.number in
    told_one shapes c.args.types.now c.args.heap.now (AsType c.args.other) s s (λ r. Stops (Fails 3 0)) n (omega arith) c.in-Some.ensures c.in-Some-get.object.now (Ref n ∷ []) c.in-Some-get.ensures
    (ap (λ b. if b then Tells (Ref n ∷ []) else Refuses 3) (sym c.if-extends.ensures)) (object_top n s c.in-Some.ensures)

pub returns-else-extends-clause-told : goal.returns-else-extends-clause-told
returns-else-extends-clause-told c shapes =
    let s = reverse c.args.stack.now in
    let n = c.in-Some.number in
    told_refused shapes c.args.types.now c.args.heap.now (AsType c.args.other) s s (λ r. Stops (Fails 3 0)) n (omega arith) c.in-Some.ensures c.in-Some-get.object.now 3 c.in-Some-get.ensures
    (ap (λ b. if b then Tells (Ref n ∷ []) else Refuses 3) (sym c.if-extends.ensures))
