use Rattle.std.proofs.Common.{◌≡◌, ℕ, ℤ, ◌+◌, List, [], ◌∷◌, ◌++◌, length, ap, ◌∙◌, append_assoc}
use Rattle.std.proofs.lemmas.Result.{on_ok_weaker}
use Rattle.aos_base.specs.declared.number.Relation.{Relation}
use Rattle.aos_base.specs.declared.number.Relation.TheVariants.{LessEqual, GreaterEqual}
use Rattle.aos_base.specs.declared.operator.Binary.TheVariants.{Cmp}
use Rattle.aos_code.specs.declared.instr.Instr.{Instr}
use Rattle.aos_code.specs.declared.instr.Instr.TheVariants as i
use Rattle.aos_code.specs.declared.instr.Kind.TheVariants.{N}
use Rattle.aos_emit_stat.proofs.search.put_range.Goals as goal

pub returns : goal.returns
returns c =
    let base = c.args.code.now.items in
    let r = c.args.range.now in
    let bound : Relation → ℤ → ℕ → List Instr = λ to n past. i.Kept c.args.level N ∷ i.Num n ∷ i.Binary (Cmp to) ∷ i.JumpFalse past ∷ [] in
    let low : ℕ → List Instr = λ n. bound GreaterEqual r.low n in
    let high : ℕ → List Instr = λ n. bound LessEqual r.high n in
    let past = c.in_ok-past.past in
    let there : past ≡ length base + 9 = c.in_ok-past.ensures.is ∙ ap (λ n. n + 9) (c.len.ensures ∙ c.args.code.now.ok.0) in
    let both : c.put_bound-2.new.code.items ≡ base ++ (low past ++ high past) = c.in_ok-put_bound-2.ensures ∙ ap (λ l. l ++ high past) c.in_ok-put_bound.ensures ∙ append_assoc base (low past) (high past) in
    on_ok_weaker c.put.result (λ e. e ∙ ap (λ l. l ++ i.Jump c.args.hit ∷ []) both ∙ append_assoc base (low past ++ high past) (i.Jump c.args.hit ∷ [])
    ∙ ap (λ n. base ++ ((low n ++ high n) ++ i.Jump c.args.hit ∷ [])) there) c.put.ensures
