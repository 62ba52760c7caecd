use Rattle.std.proofs.Common.{◌∷◌, [], rules, sym, ◌∙◌, refl, ap}
use denote.Enum.Bare.{same_true, same_false}
use Rattle.aos_scan.specs.contracts.token.TokenKind.{the_type}
use Rattle.aos_tree.specs.Nesting.{shallow}
use Rattle.aos_tree.specs.Words as g
use Rattle.aos_parse_expr.specs.Symbols as e
use Rattle.aos_parse_expr.proofs.Steps as by
use Rattle.aos_parse_mod.specs.Symbols as m
use Rattle.aos_parse_mod.proofs.Joins.{word_is, word_not}
use Rattle.aos_parse_expr.proofs.Sight as sight
use Rattle.aos_parse_mod.proofs.phrases.then_expr.Goals as goal

pub returns-in_err-value-clause-moves : goal.returns-in_err-value-clause-moves
returns-in_err-value-clause-moves c =
    by.exits (λ r. r.1.now) c.from_residual.result (m.then_expr c.args.depth c.args.kind ∷ []) c.from_residual.ensures.1 (by.pass_on ([]) c.in_err-value.ensures.moves (λ k. by.shifts m.table shallow c.split.ensures.whole (m.then_expr c.args.depth c.args.kind) c.args.depth (m.of_expr (e.expr c.args.depth) ∷ []) (ap (m.after (m.then_expr c.args.depth c.args.kind)) (same_true the_type (search rules) _ _ (sym c.eq.ensures ∙ c.if-eq.true)) ∙ word_is c.args.depth c.args.kind (m.of_expr (e.expr c.args.depth) ∷ [])) (by.fits_shallow _ c.requires.nested) k))

pub returns-in_ok-value-clause-moves : goal.returns-in_ok-value-clause-moves
returns-in_ok-value-clause-moves c =
    λ k. by.shifts m.table shallow c.split.ensures.whole (m.then_expr c.args.depth c.args.kind) c.args.depth (m.of_expr (e.expr c.args.depth) ∷ []) (ap (m.after (m.then_expr c.args.depth c.args.kind)) (same_true the_type (search rules) _ _ (sym c.eq.ensures ∙ c.if-eq.true)) ∙ word_is c.args.depth c.args.kind (m.of_expr (e.expr c.args.depth) ∷ [])) (by.fits_shallow _ c.requires.nested) k ∙ c.in_ok-value.ensures.moves (k)

pub returns-in_ok-value-clause-tree : goal.returns-in_ok-value-clause-tree
returns-in_ok-value-clause-tree c =
    (c.split.result.0.now.pos, c.split.result.1.now, (rw c.split.ensures.whole (g.word (same_true the_type (search rules) _ _ (sym c.eq.ensures ∙ c.if-eq.true)) (by.fits_shallow _ c.requires.nested))), c.in_ok-value.ensures.tree)

pub returns-else-eq-clause-moves : goal.returns-else-eq-clause-moves
returns-else-eq-clause-moves c =
    record { refused = (_, by.refuses m.table shallow c.split.ensures.whole (m.then_expr c.args.depth c.args.kind) c.args.depth (word_not c.args.depth c.args.kind _ (m.of_expr (e.expr c.args.depth) ∷ []) (same_false the_type _ _ (sym c.eq.ensures ∙ c.if-eq.false))) refl (by.fits_shallow _ c.requires.nested)) }

pub expression-requires-clause-ended : goal.expression-requires-clause-ended
expression-requires-clause-ended c =
    sight.behind_of c.args.kind c.split.ensures.whole (same_true the_type (search rules) _ _ (sym c.eq.ensures ∙ c.if-eq.true)) c.requires.inner c.split.ensures.ended

pub returns-in_ok-value-clause-rest : goal.returns-in_ok-value-clause-rest
returns-in_ok-value-clause-rest c =
    sight.past _ c.split.ensures.whole c.in_ok-value.ensures.rest
