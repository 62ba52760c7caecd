use Rattle.std.proofs.Common.{rules, ◌≡◌, ◌+◌, ℤ, pos, List, [], ◌∷◌, ◌++◌, take, get_or, w64, sym, ap, ◌∙◌, subst, arith}
use Rattle.std.proofs.lemmas.List.{take_more}
use mir.Val.{to_z, of_z}
use Rattle.aos_code.specs.declared.instr.Cell.{Cell}
use Rattle.aos_code.specs.declared.instr.Cell.TheVariants.{Num}
use Rattle.aos_cpu.specs.Makes.{AreLengths}
use Rattle.aos_cpu.proofs.Making.{number_is, not_numbers}
use Rattle.aos_cpu.proofs.makes.lengths_in.Goals as goal

pub returns-in-None : goal.returns-in-None
returns-in-None c = not_numbers c.args.operands.now c.loop-operand.operand-index (omega (arith, c.loop-operand-test.true)) c.in-None.ensures

pub loop-operand-preserved : goal.loop-operand-preserved
loop-operand-preserved c =
    let vs = c.args.operands.now in
    let i = c.loop-operand.operand-index in
    let z = c.in-Some.number in
    let found = c.in_ok-found-in-Some.found in
    let same : to_z w64 (of_z w64 z) ≡ z = search rules in
    let here : take i vs ++ Num z ∷ [] ≡ take (i + 1) vs =
    ap (λ (v : Cell). take i vs ++ v ∷ []) (sym (number_is (get_or vs i (Num (pos 0))) z c.in-Some.ensures)) ∙ sym (take_more vs i (Num (pos 0)) (omega (arith, c.loop-operand-test.true))) in
    subst (λ (ws : List Cell). AreLengths ws found) here (subst (λ (y : ℤ). AreLengths (take i vs ++ Num y ∷ []) found) same (c.in_ok-found-in-Some.ensures (take i vs) c.loop-operand.invariant))
