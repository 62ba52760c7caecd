use Rattle.std.proofs.Common.{◌+◌, ◌∷◌, [], sym, ◌∙◌, refl}
use Rattle.aos_tree.specs.StatGrammar as g
use Rattle.aos_tree.specs.Nesting.{shallow}
use Rattle.aos_parse_expr.proofs.Steps as by
use Rattle.aos_parse_stat.specs.Symbols as m
use Rattle.aos_parse_stat.proofs.StatProductions as q
use Rattle.aos_parse_stat.proofs.descent.return_stat.Goals as goal

pub returns-then-not-starts_expr-clause-tree : goal.returns-then-not-starts_expr-clause-tree
returns-then-not-starts_expr-clause-tree c =
    λ before w. g.return w

pub returns-then-not-starts_expr-clause-moves : goal.returns-then-not-starts_expr-clause-moves
returns-then-not-starts_expr-clause-moves c =
    λ k. by.skips m.table shallow c.split.ensures.whole (m.returned (c.args.depth + 1)) (q.no_returned (c.args.depth + 1) _ (sym c.starts_expr.ensures ∙ c.if-not-starts_expr.true)) refl k

pub returns-in_err-value-clause-moves : goal.returns-in_err-value-clause-moves
returns-in_err-value-clause-moves c =
    by.exits (λ r. r.1.now) c.from_residual.result (m.returned (c.args.depth + 1) ∷ []) c.from_residual.ensures.1 (by.pass_on ([]) c.in_err-value.ensures.moves (λ k. by.becomes m.table shallow c.split.ensures.whole (m.returned (c.args.depth + 1)) (m.expr (c.args.depth + 1)) ([]) (λ j. q.returned_at (c.args.depth + 1) _ j (sym c.starts_expr.ensures ∙ c.if-not-starts_expr.false)) k))

pub returns-clause-moves : goal.returns-clause-moves
returns-clause-moves c =
    λ k. by.becomes m.table shallow c.split.ensures.whole (m.returned (c.args.depth + 1)) (m.expr (c.args.depth + 1)) ([]) (λ j. q.returned_at (c.args.depth + 1) _ j (sym c.starts_expr.ensures ∙ c.if-not-starts_expr.false)) k ∙ c.in_ok-value.ensures.moves k

pub returns-clause-tree : goal.returns-clause-tree
returns-clause-tree c =
    λ before w. g.return_of w c.in_ok-value.ensures.tree
