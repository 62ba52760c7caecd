use Rattle.std.proofs.Common.{◌≡◌, ℕ, ◌+◌, List, [], ◌∷◌, ◌++◌, length, ap, ◌∙◌, append_assoc}
use Rattle.std.proofs.lemmas.Result.{on_ok_weaker}
use Rattle.aos_base.specs.declared.number.Relation.TheVariants.{Equal}
use Rattle.aos_base.specs.declared.operator.Binary.TheVariants.{Cmp}
use Rattle.aos_code.specs.declared.instr.Instr.{Instr}
use Rattle.aos_code.specs.declared.instr.Instr.TheVariants as i
use Rattle.aos_code.specs.declared.instr.Kind.TheVariants.{N}
use Rattle.aos_emit_stat.proofs.search.put_one.Goals as goal

pub returns : goal.returns
returns c =
    let base = c.args.code.now.items in
    let test : ℕ → List Instr = λ n. i.Kept c.args.level N ∷ i.Num c.args.value.now ∷ i.Binary (Cmp Equal) ∷ i.JumpFalse n ∷ [] in
    let past = c.in_ok-past.past in
    let there : past ≡ length base + 5 = c.in_ok-past.ensures.is ∙ ap (λ n. n + 5) (c.len.ensures ∙ c.args.code.now.ok.0) in
    on_ok_weaker c.put.result (λ e. e ∙ ap (λ l. l ++ i.Jump c.args.hit ∷ []) c.in_ok-put_bound.ensures ∙ append_assoc base (test past) (i.Jump c.args.hit ∷ [])
    ∙ ap (λ n. base ++ (test n ++ i.Jump c.args.hit ∷ [])) there) c.put.ensures
