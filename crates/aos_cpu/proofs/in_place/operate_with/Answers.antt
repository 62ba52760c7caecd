use Rattle.std.proofs.Common.{rules, w64, ◌≡◌, ◌<◌, ◌+◌, ◌∷◌, List, drop, length, reverse, sym, ap, ◌∙◌, subst, arith}
use Rattle.std.specs.Prelude.{Some, slice_get}
use mir.Val.{to_z, of_z}
use Rattle.std.proofs.lemmas.List.{length-reverse}
use Rattle.aos_base.specs.declared.operator.Given.TheVariants.{Number}
use Rattle.aos_base.specs.Operators.{binary}
use Rattle.aos_code.specs.declared.instr.Cell.{Cell}
use Rattle.aos_code.specs.declared.instr.Cell.TheVariants.{Num as NumCell}
use Rattle.aos_code.specs.Silent.{Stack}
use Rattle.aos_store.specs.Store.{frame_in}
use Rattle.aos_silent_steps.specs.Acts.{number_in}
use Rattle.aos_cpu.specs.InPlace.{HasWorked}
use Rattle.aos_cpu.proofs.InPlace.{some_number, applied_behind}
use Rattle.aos_cpu.proofs.in_place.operate_with.Goals as goal

pub replace-requires : goal.replace-requires
replace-requires c =
    let xs = c.deref.result.now in
    let some : 0 < length (reverse xs) = some_number (reverse xs) c.in-Some.a (sym c.in-Some.ensures) in
    omega (arith, length-reverse xs)

pub returns-clause-done : goal.returns-clause-done
returns-clause-done c image here mem code_is at_is is =
    let f = frame_in c.args.frame.now in
    let op = c.args.operator in
    let a = c.in-Some.a in
    let n = c.args.n in
    let value = c.in-Number.value in
    let number : number_in (slice_get f.stack 0) ≡ Some a = subst (λ (xs : List Cell). number_in (slice_get (reverse xs) 0) ≡ Some a) c.deref.ensures.value (sym c.in-Some.ensures) in
    let first : to_z w64 (of_z w64 a) ≡ a = search rules in
    let second : to_z w64 (of_z w64 n) ≡ n = search rules in
    let third : to_z w64 (of_z w64 value) ≡ value = search rules in
    let gives_so : binary op a n ≡ Number value = (λ j. binary op (sym first j) (sym second j)) ∙ sym c.in-Number.ensures in
    subst (λ (s : Stack). HasWorked image here mem mem f (record f { next = c.args.at + 2; stack = s })) (sym (c.replace.ensures.operands ∙ ap (λ z. NumCell z ∷ drop 1 f.stack) third))
    (applied_behind image here mem f c.args.code.now c.args.at op a n value code_is at_is c.requires.within (omega arith) is c.requires.next number gives_so)
