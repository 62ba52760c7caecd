use Rattle.std.proofs.Common.{rules, w64, ◌≡◌, List, ◌∷◌, [], reverse, drop, refl, ap, ◌∙◌, subst, arith}
use Rattle.std.specs.Prelude.{Some, slice_get, pos}
use mir.Val.{to_z, of_z}
use Rattle.aos_base.specs.Operators.{flag}
use Rattle.aos_code.specs.declared.instr.Cell.{Cell}
use Rattle.aos_code.specs.declared.instr.Cell.TheVariants.{Num}
use Rattle.aos_code.specs.Silent.{IsType, gives, extends}
use Rattle.aos_silent_steps.specs.Acts.{object_in}
use Rattle.aos_silent_steps.proofs.Telling.{told_one}
use Rattle.aos_silent_steps.proofs.objects.tell_is.Goals as goal

pub returns-in-Some-get-clause-told : goal.returns-in-Some-get-clause-told
returns-in-Some-get-clause-told c shapes =
    let s = reverse c.args.stack.now.items in
    let n = c.in-Some.number in
    let does = extends c.args.types.now c.in-Some-get.object.now.made_of c.args.other in
    let top : Some n ≡ object_in (slice_get s 0) = subst (λ (xs : List Cell). Some n ≡ object_in (slice_get (reverse xs) 0)) c.deref.ensures.value c.in-Some.ensures in
    let same : to_z w64 (of_z w64 c.truth.result) ≡ c.truth.result = search rules in
    told_one shapes c.args.types.now c.args.heap.now (IsType c.args.other) s (reverse c.replace-in-Some-get.new.stack.items) (λ r. gives (Num (pos 0)) r) n (omega arith) top c.in-Some-get.object.now
    (Num (flag does) ∷ []) c.in-Some-get.ensures refl (c.replace-in-Some-get.ensures.operands ∙ ap (λ z. Num z ∷ drop 1 s) (same ∙ c.truth.ensures ∙ ap flag c.extends-does.ensures))
