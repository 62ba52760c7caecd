use Rattle.std.proofs.Common.{◌≡◌, List, ◌∷◌, [], reverse, sym, ap, subst, arith}
use Rattle.std.specs.Prelude.{Some, slice_get}
use Rattle.aos_code.specs.declared.instr.Cell.{Cell}
use Rattle.aos_code.specs.declared.instr.Cell.TheVariants.{Call as CallCell}
use Rattle.aos_code.specs.Silent.{AsMethod, Stops, Fails, bound}
use Rattle.aos_silent_steps.specs.Acts.{object_in}
use Rattle.aos_silent_steps.proofs.Telling.{told_one, told_few}
use Rattle.aos_silent_steps.proofs.methods.tell_bound.Goals as goal

pub returns-in-Some-method_at-clause-told : goal.returns-in-Some-method_at-clause-told
returns-in-Some-method_at-clause-told c shapes =
    let s = reverse c.args.stack.now.items in
    let n = c.in-Some.number in
    let q = c.in-Some-method_at.method in
    let top : Some n ≡ object_in (slice_get s 0) = subst (λ (xs : List Cell). Some n ≡ object_in (slice_get (reverse xs) 0)) c.deref.ensures.value c.in-Some.ensures in
    told_one shapes c.args.types.now c.args.heap.now (AsMethod c.args.slot) s (reverse c.replace.new.stack.items) (λ r. Stops (Fails 1 0)) n (omega arith) top c.in-Some-get.object.now
    (CallCell q n ∷ []) c.in-Some-get.ensures (ap (λ m. bound m n) (sym c.in-Some-method_at.ensures)) c.replace.ensures.operands

pub returns-in-None-method_at-clause-told : goal.returns-in-None-method_at-clause-told
returns-in-None-method_at-clause-told c shapes =
    let s = reverse c.args.stack.now.items in
    let n = c.in-Some.number in
    let top : Some n ≡ object_in (slice_get s 0) = subst (λ (xs : List Cell). Some n ≡ object_in (slice_get (reverse xs) 0)) c.deref.ensures.value c.in-Some.ensures in
    told_few shapes c.args.types.now c.args.heap.now (AsMethod c.args.slot) s s (λ r. Stops (Fails 1 0)) n (omega arith) top c.in-Some-get.object.now c.in-Some-get.ensures (ap (λ m. bound m n) (sym c.in-None-method_at.ensures))
