use Rattle.std.proofs.Common.{◌≡◌, ℕ, ◌+◌, Bool, List, [], ◌∷◌, ◌++◌, length, sym, ap, ◌∙◌}
use Rattle.aos_typed.specs.Seen.{seen_stats}
use Rattle.aos_code.specs.declared.instr.Instr.{Instr}
use Rattle.aos_code.specs.declared.instr.Instr.TheVariants.{Enter}
use Rattle.aos_sim.specs.Code.{stats_code}
use Rattle.aos_emit_expr.specs.Scope.{Inside, program_of, own_of, in_region}
use Rattle.aos_emit_stat.specs.Ways.{seen_within, left_to}
use Rattle.aos_emit.proofs.Whole.{whole, region_whole, plain_whole}
use Rattle.aos_emit.proofs.bodies.statements_of.Goals as goal

pub returns-then-exclusive : goal.returns-then-exclusive
returns-then-exclusive c =
    let s = c.args.scope.now in
    let ss = seen_stats c.args.statements.now in
    let all : Bool → ℕ → List Instr = whole (program_of s) (own_of s) ss in
    let c1 = c.put.new.code.items in
    let c2 = c.emit_left.new.code.items in
    let at = length c1 in
    let body : Inside → ℕ → List Instr = λ i n. stats_code (program_of i) (own_of i) ss at (left_to i n) 0 in
    let all_left : Inside → List Instr = λ i. c1 ++ body i (at + length (body i 0) + 1) in
    let first : c1 ≡ Enter ∷ [] = c.in_ok-put.ensures ∙ ap (λ (l : List Instr). l ++ Enter ∷ []) c.new-code.ensures.items in
    let left : c2 ≡ all_left (in_region s) = c.in_ok-emit_left.ensures ∙ ap all_left c.in_region-inside.ensures in
    region_whole (program_of s) (own_of s) ss c1 c2 c.put-then-exclusive.new.code.items first left c.in_ok-put-2.ensures
    ∙ ap (λ b. all b (length (all b 0))) (sym c.if-exclusive.true)

pub returns : goal.returns
returns c =
    let s = c.args.scope.now in
    let ss = seen_stats c.args.statements.now in
    let all : Bool → ℕ → List Instr = whole (program_of s) (own_of s) ss in
    plain_whole (program_of s) (own_of s) ss (seen_within s.within) c.new-code.result.items _
    (ap seen_within c.requires.outside) c.new-code.ensures.items c.in_ok-emit_left-2.ensures
    ∙ ap (λ b. all b (length (all b 0))) (sym c.if-exclusive.false)
