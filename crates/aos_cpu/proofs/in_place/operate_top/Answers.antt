use Rattle.std.proofs.Common.{rules, w64, ◌≡◌, ◌<◌, ◌+◌, ◌-◌, ◌∷◌, List, length, reverse, drop, min, ◌^◌, get_or, refl, sym, ap, ◌∙◌, subst, arith}
use Rattle.std.specs.Prelude.{pos}
use mir.Val.{to_z, of_z}
use Rattle.std.proofs.lemmas.List.{length-reverse}
use Rattle.aos_silent_steps.specs.Silent.{here_at}
use Rattle.aos_base.specs.declared.operator.Given.{Given}
use Rattle.aos_base.specs.Operators.{binary}
use Rattle.aos_code.specs.declared.instr.Cell.{Cell}
use Rattle.aos_code.specs.declared.instr.Cell.TheVariants.{Num as NumCell}
use Rattle.aos_code.specs.declared.instr.Instr.{Instr}
use Rattle.aos_code.specs.declared.instr.Instr.TheVariants.{Num}
use Rattle.aos_code.specs.Silent.{Stack, Goes, act, given, on_numbers}
use Rattle.aos_store.specs.Store.{frame_in}
use Rattle.aos_silent_steps.specs.declared.act.Act.TheVariants.{Goes as GoesOn}
use Rattle.aos_code.specs.Machine.{made_in}
use Rattle.aos_silent_steps.proofs.Stepped.{stepped_of}
use Rattle.aos_cpu.specs.InPlace.{HasWorked}
use Rattle.aos_cpu.proofs.InPlace.{not_empty, silent_top}
use Rattle.aos_cpu.proofs.in_place.operate_top.Goals as goal

pub replace-requires : goal.replace-requires
replace-requires c =
    let xs = c.deref.result.now in
    let some : 0 < length (reverse xs) = not_empty (reverse xs) (drop 2 (reverse xs)) (c.in-Some.ensures (λ a b s. Goes 0 s)) in
    omega (arith, length-reverse xs)

pub returns-clause-done : goal.returns-clause-done
returns-clause-done c image here mem code_is at_is here_is =
    let f = frame_in c.args.frame.now in
    let code = c.args.code.now in
    let at = c.args.at in
    let operator = c.args.operator in
    let value = c.in-Number.value in
    let s : Stack = NumCell value ∷ drop 2 f.stack in
    let two : on_numbers (λ a b u. given (binary operator a b) u) f.stack ≡ given (binary operator c.in-Some.a c.in-Some.b) (drop 2 f.stack) =
    subst (λ (xs : List Cell). on_numbers (λ a b u. given (binary operator a b) u) (reverse xs) ≡ given (binary operator c.in-Some.a c.in-Some.b) (drop 2 (reverse xs))) c.deref.ensures.value
    (c.in-Some.ensures (λ a b u. given (binary operator a b) u)) in
    let first : to_z w64 (of_z w64 c.in-Some.a) ≡ c.in-Some.a = search rules in
    let second : to_z w64 (of_z w64 c.in-Some.b) ≡ c.in-Some.b = search rules in
    let third : to_z w64 (of_z w64 value) ≡ value = search rules in
    let goes : act image.shapes.items image.types.items f.procedure (here_at here f) (get_or code at (Num (pos 0))) code at f.stack ≡ Goes 0 s =
    ap (λ (i : Instr). act image.shapes.items image.types.items f.procedure (here_at here f) i code at f.stack) here_is ∙ two
    ∙ (λ j. given (binary operator (sym first j) (sym second j)) (drop 2 f.stack)) ∙ ap (λ (g : Given). given g (drop 2 f.stack)) (sym c.in-Number.ensures) in
    let next : at + 1 ≡ min (at + 1 + 0) (2 ^ 64 - 1) = omega arith in
    subst (λ (x : Stack). HasWorked image here mem mem f (record f { next = at + 1; stack = x })) (sym (c.replace.ensures.operands ∙ ap (λ z. NumCell z ∷ drop 2 f.stack) third))
    (silent_top image here mem f (record f { stack = s }) code at (GoesOn 0) code_is at_is c.requires.within (stepped_of image.shapes.items image.types.items (made_in image mem) (GoesOn 0) _ f s (sym goes)) 0 (at + 1) refl next (omega arith))
