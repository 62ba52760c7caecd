use Rattle.std.proofs.Common.{rules, ◌≡◌, sym, ap, ◌∙◌, subst, w64, ℤ, pos, []}
use Rattle.std.specs.Prelude.{Some, None}
use mir.Val.{to_z, of_z}
use Rattle.aos_base.specs.declared.kernel.Verdict.TheVariants.{Traps}
use Rattle.aos_base.specs.Number.{holds}
use Rattle.aos_base.specs.Operators.{flag}
use Rattle.aos_code.specs.declared.instr.Cell.TheVariants.{Num}
use Rattle.aos_code.specs.Machine.{text_at}
use Rattle.aos_store.specs.Store.{rooted_in}
use Rattle.aos_silent_steps.specs.declared.act.Question.{Question as KeptQuestion}
use Rattle.aos_silent_steps.specs.Acts.{addr_in}
use Rattle.aos_cpu.specs.Answers.{ordered}
use Rattle.aos_cpu.specs.Verdicts.{HasGoneOn, IsJudged}
use Rattle.aos_cpu.proofs.Judging.{reads_none, reads_other, reads_on, compares_none, compares_on, asks_other}
use Rattle.aos_cpu.proofs.condition.judge.Goals as goal

pub returns-in-None-clause-judged : goal.returns-in-None-clause-judged
returns-in-None-clause-judged c f top =
    let x = rooted_in c.args.frames.now c.args.store.now in
    let old = c.args.frames.now.list.items in
    subst (λ (q : KeptQuestion). IsJudged x q c.args.at f old old (Some (Traps 16))) (sym c.in-Reads.is)
    (reads_none x c.args.at f old c.in-Reads.kind c.in-Reads.address (sym c.load_at.ensures ∙ c.in-None.is))

pub returns-then-not-is_of-clause-judged : goal.returns-then-not-is_of-clause-judged
returns-then-not-is_of-clause-judged c f top =
    let x = rooted_in c.args.frames.now c.args.store.now in
    let old = c.args.frames.now.list.items in
    subst (λ (q : KeptQuestion). IsJudged x q c.args.at f old old (Some (Traps 16))) (sym c.in-Reads.is)
    (reads_other x c.args.at f old c.in-Reads.kind c.in-Reads.address c.in-Some.value (sym c.load_at.ensures ∙ c.in-Some.is) (sym c.is_of.ensures ∙ c.if-not-is_of.true))

pub returns-else-not-is_of-clause-judged : goal.returns-else-not-is_of-clause-judged
returns-else-not-is_of-clause-judged c f top =
    let x = rooted_in c.args.frames.now c.args.store.now in
    let old = c.args.frames.now.list.items in
    subst (λ (q : KeptQuestion). IsJudged x q c.args.at f old c.put_top.new.frames.list.items None) (sym c.in-Reads.is)
    (reads_on x c.args.at f old c.in-Reads.kind c.in-Reads.address c.in-Some.value c.put_top.new.frames.list.items (sym c.load_at.ensures ∙ c.in-Some.is) (sym c.is_of.ensures ∙ c.if-not-is_of.false) (c.put_top.ensures.put f top))

pub returns-in_default-clause-judged : goal.returns-in_default-clause-judged
returns-in_default-clause-judged c f top = asks_other (rooted_in c.args.frames.now c.args.store.now) c.args.at f c.args.frames.now.list.items c.args.question c.in_default.not-Reads c.in_default.not-ComparesTexts

pub returns-in-None-compare_at-clause-judged : goal.returns-in-None-compare_at-clause-judged
returns-in-None-compare_at-clause-judged c f top =
    let in' = c.in-ComparesTexts in
    let x = rooted_in c.args.frames.now c.args.store.now in
    let old = c.args.frames.now.list.items in
    let first : to_z w64 (of_z w64 in'.n) ≡ in'.n = search rules in
    let second : to_z w64 (of_z w64 in'.m) ≡ in'.m = search rules in
    subst (λ (q : KeptQuestion). IsJudged x q c.args.at f old old (Some (Traps 16))) (sym in'.is)
    (compares_none x c.args.at f old in'.relation in'.a in'.n in'.b in'.m
    (subst (λ (z : ℤ × ℤ). ordered (text_at [] (addr_in in'.a) (Num z.0) x) (text_at [] (addr_in in'.b) (Num z.1) x) ≡ None) (λ i. (first i, second i)) (sym c.compare_at.ensures ∙ c.in-None-compare_at.is)))

pub returns-in-Some-compare_at-clause-judged : goal.returns-in-Some-compare_at-clause-judged
returns-in-Some-compare_at-clause-judged c f top =
    let in' = c.in-ComparesTexts in
    let x = rooted_in c.args.frames.now c.args.store.now in
    let old = c.args.frames.now.list.items in
    let new = c.put_top-in-Some-compare_at.new.frames.list.items in
    let z = c.in-Some-compare_at.order in
    let first : to_z w64 (of_z w64 in'.n) ≡ in'.n = search rules in
    let second : to_z w64 (of_z w64 in'.m) ≡ in'.m = search rules in
    let third : to_z w64 (of_z w64 z) ≡ z = search rules in
    let last : to_z w64 (of_z w64 c.truth.result) ≡ c.truth.result = search rules in
    let related : c.related.result ≡ holds in'.relation z (pos 0) = c.related.ensures ∙ ap (λ y. holds in'.relation y (pos 0)) third in
    let gone = subst (λ (v : ℤ). HasGoneOn f c.args.at 4 (Num v) old new) (last ∙ c.truth.ensures ∙ ap flag related) (c.put_top-in-Some-compare_at.ensures.put f top) in
    subst (λ (q : KeptQuestion). IsJudged x q c.args.at f old new None) (sym in'.is)
    (compares_on x c.args.at f old in'.relation in'.a in'.n in'.b in'.m z new
    (subst (λ (y : ℤ × ℤ). ordered (text_at [] (addr_in in'.a) (Num y.0) x) (text_at [] (addr_in in'.b) (Num y.1) x) ≡ Some z) (λ i. (first i, second i)) (sym c.compare_at.ensures ∙ c.in-Some-compare_at.is)) gone)
