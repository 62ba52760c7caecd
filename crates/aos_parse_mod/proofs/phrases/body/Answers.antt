use Rattle.std.proofs.Common.{◌≡◌, ◌∷◌, [], rules, sym, ◌∙◌, ap}
use denote.Enum.Bare.{same_true, same_false}
use Rattle.aos_scan.specs.contracts.token.TokenKind.{the_type}
use Rattle.aos_scan.specs.declared.token.TokenKind.TheVariants as kind
use Rattle.aos_tree.specs.Nesting.{shallow}
use Rattle.aos_tree.specs.Words as g
use Rattle.aos_tree.specs.DeclGrammar as declared
use Rattle.aos_parse_expr.proofs.Steps as by
use Rattle.aos_parse_stat.specs.Symbols as s
use Rattle.aos_parse_mod.specs.Symbols as m
use Rattle.aos_parse_mod.proofs.ModSteps as q
use Rattle.aos_parse_mod.proofs.phrases.body.Goals as goal

pub returns-then-eq-clause-moves : goal.returns-then-eq-clause-moves
returns-then-eq-clause-moves c =
    λ k. by.shifts m.table shallow c.split.ensures.whole (m.body c.args.depth) c.args.depth ([]) (ap (m.after (m.body c.args.depth)) (let is : c.split.result.0.now.kind ≡ kind.KwEnd = same_true the_type (search rules) _ _ (sym c.eq.ensures ∙ c.if-eq.true) in is)) (by.fits_shallow _ c.requires.nested) k

pub returns-then-eq-clause-tree : goal.returns-then-eq-clause-tree
returns-then-eq-clause-tree c =
    rw c.split.ensures.whole (declared.no_block (g.word (let is : c.split.result.0.now.kind ≡ kind.KwEnd = same_true the_type (search rules) _ _ (sym c.eq.ensures ∙ c.if-eq.true) in is) (by.fits_shallow _ c.requires.nested)))

pub returns-in_err-all-clause-moves : goal.returns-in_err-all-clause-moves
returns-in_err-all-clause-moves c =
    by.exits (λ r. r.1.now) c.from_residual.result (m.body c.args.depth ∷ []) c.from_residual.ensures.1 (by.pass_on ([]) c.in_err-all.ensures.moves (λ k. by.becomes m.table shallow c.split.ensures.whole (m.body c.args.depth) (m.of_stat (s.block c.args.depth)) ([]) (λ j. q.body_at c.args.depth _ (same_false the_type _ _ (sym c.eq.ensures ∙ c.if-eq.false)) j) k))

pub returns-clause-moves : goal.returns-clause-moves
returns-clause-moves c =
    λ k. by.becomes m.table shallow c.split.ensures.whole (m.body c.args.depth) (m.of_stat (s.block c.args.depth)) ([]) (λ j. q.body_at c.args.depth _ (same_false the_type _ _ (sym c.eq.ensures ∙ c.if-eq.false)) j) k ∙ c.in_ok-all.ensures.moves (k)

pub returns-clause-tree : goal.returns-clause-tree
returns-clause-tree c =
    rw c.in_ok-boxed.ensures (declared.block c.in_ok-all.ensures.tree)
