use Rattle.std.proofs.Common.{◌∷◌, [], rules, sym, ◌∙◌, refl}
use denote.Enum.Bare.{same_true, same_false}
use Rattle.aos_scan.specs.contracts.token.TokenKind.{the_type}
use Rattle.aos_tree.specs.StatGrammar as g
use Rattle.aos_tree.specs.Nesting.{shallow}
use Rattle.aos_parse_expr.proofs.Steps as by
use Rattle.aos_parse_stat.specs.Symbols as m
use Rattle.aos_parse_stat.proofs.StatProductions as q
use Rattle.aos_parse_stat.proofs.Trees as trees
use Rattle.aos_parse_expr.proofs.Sight as sight
use Rattle.aos_parse_stat.proofs.phrases.option.Goals as goal

pub returns-in_err-value-clause-moves : goal.returns-in_err-value-clause-moves
returns-in_err-value-clause-moves c =
    by.exits (λ r. r.1.now) c.from_residual.result (m.option c.args.depth c.args.kind ∷ []) c.from_residual.ensures.1 (by.pass_on ([]) c.in_err-value.ensures.moves (λ k. by.shifts m.table shallow c.split.ensures.whole (m.option c.args.depth c.args.kind) c.args.depth (m.expr c.args.depth ∷ []) (q.word_expr_is _ _ _ (same_true the_type (search rules) _ _ (sym c.eq.ensures ∙ c.if-eq.true))) (by.fits_shallow _ c.requires.nested) k))

pub returns-in_ok-value-clause-moves : goal.returns-in_ok-value-clause-moves
returns-in_ok-value-clause-moves c =
    λ k. by.shifts m.table shallow c.split.ensures.whole (m.option c.args.depth c.args.kind) c.args.depth (m.expr c.args.depth ∷ []) (q.word_expr_is _ _ _ (same_true the_type (search rules) _ _ (sym c.eq.ensures ∙ c.if-eq.true))) (by.fits_shallow _ c.requires.nested) k ∙ c.in_ok-value.ensures.moves k

pub returns-in_ok-value-clause-tree : goal.returns-in_ok-value-clause-tree
returns-in_ok-value-clause-tree c =
    g.option (trees.word_at c.args.depth c.split.ensures.whole (same_true the_type (search rules) _ _ (sym c.eq.ensures ∙ c.if-eq.true)) c.requires.nested) c.in_ok-value.ensures.tree

pub returns-else-eq-clause-moves : goal.returns-else-eq-clause-moves
returns-else-eq-clause-moves c =
    λ k. by.skips m.table shallow c.split.ensures.whole (m.option c.args.depth c.args.kind) (q.word_expr_not _ _ _ (same_false the_type _ _ (sym c.eq.ensures ∙ c.if-eq.false))) refl k

pub returns-else-eq-clause-tree : goal.returns-else-eq-clause-tree
returns-else-eq-clause-tree c =
    g.no_option

pub expression-requires-clause-ended : goal.expression-requires-clause-ended
expression-requires-clause-ended c =
    sight.behind_of c.args.kind c.split.ensures.whole (same_true the_type (search rules) _ _ (sym c.eq.ensures ∙ c.if-eq.true)) c.requires.inner c.split.ensures.ended

pub expression-requires-clause-nested : goal.expression-requires-clause-nested
expression-requires-clause-nested c =
    c.requires.nested

pub returns-in_err-value-clause-tree : goal.returns-in_err-value-clause-tree
returns-in_err-value-clause-tree c =
    by.exit_ok _ c.from_residual.result _ c.from_residual.ensures.1

pub returns-in_err-value-clause-rest : goal.returns-in_err-value-clause-rest
returns-in_err-value-clause-rest c =
    by.exit_ok _ c.from_residual.result _ c.from_residual.ensures.1

pub returns-in_ok-value-clause-rest : goal.returns-in_ok-value-clause-rest
returns-in_ok-value-clause-rest c =
    sight.at_most _ _ (sight.past _ c.split.ensures.whole c.in_ok-value.ensures.rest)

pub returns-else-eq-clause-rest : goal.returns-else-eq-clause-rest
returns-else-eq-clause-rest c =
    sight.all_left _ c.requires.ended
