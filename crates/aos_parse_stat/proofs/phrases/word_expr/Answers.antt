use Rattle.std.proofs.Common.{◌∷◌, [], rules, sym, ◌∙◌, refl}
use denote.Enum.Bare.{same_true, same_false}
use Rattle.aos_scan.specs.contracts.token.TokenKind.{the_type}
use Rattle.aos_tree.specs.Nesting.{shallow}
use Rattle.aos_parse_expr.proofs.Steps as by
use Rattle.aos_parse_stat.specs.Symbols as m
use Rattle.aos_parse_stat.proofs.Moving as moving
use Rattle.aos_parse_stat.proofs.StatProductions as q
use Rattle.aos_parse_stat.proofs.Trees as trees
use Rattle.aos_parse_expr.proofs.Sight as sight
use Rattle.aos_parse_stat.proofs.phrases.word_expr.Goals as goal

pub returns-then-eq-clause-tree : goal.returns-then-eq-clause-tree
returns-then-eq-clause-tree c =
    trees.word_then (λ r. r.0) (λ r. r.1.now) c.expression.result (trees.word_at c.args.depth c.split.ensures.whole (same_true the_type (search rules) _ _ (sym c.eq.ensures ∙ c.if-eq.true)) c.requires.nested) c.expression.ensures.tree

pub returns-then-eq-clause-moves : goal.returns-then-eq-clause-moves
returns-then-eq-clause-moves c =
    moving.hands_on m.table (λ r. r.1.now) c.expression.result (m.expr c.args.depth ∷ []) (m.word_expr c.args.depth c.args.kind ∷ []) _ _ c.expression.ensures.moves (λ k. by.shifts m.table shallow c.split.ensures.whole (m.word_expr c.args.depth c.args.kind) c.args.depth (m.expr c.args.depth ∷ []) (q.word_expr_is _ _ _ (same_true the_type (search rules) _ _ (sym c.eq.ensures ∙ c.if-eq.true))) (by.fits_shallow _ c.requires.nested) k)

pub returns-else-eq-clause-moves : goal.returns-else-eq-clause-moves
returns-else-eq-clause-moves c =
    record { refused = (_, by.refuses m.table shallow c.split.ensures.whole (m.word_expr c.args.depth c.args.kind) c.args.depth (q.word_expr_not _ _ _ (same_false the_type _ _ (sym c.eq.ensures ∙ c.if-eq.false))) refl (by.fits_shallow _ c.requires.nested)) }

pub expression-requires-clause-ended : goal.expression-requires-clause-ended
expression-requires-clause-ended c =
    sight.behind_of c.args.kind c.split.ensures.whole (same_true the_type (search rules) _ _ (sym c.eq.ensures ∙ c.if-eq.true)) c.requires.inner c.split.ensures.ended

pub returns-then-eq-clause-rest : goal.returns-then-eq-clause-rest
returns-then-eq-clause-rest c =
    sight.then_less (λ r. r.1.now) c.expression.result c.split.ensures.whole c.expression.ensures.rest
