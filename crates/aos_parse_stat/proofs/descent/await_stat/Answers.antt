use Rattle.std.proofs.Common.{◌+◌, ◌∷◌, [], ◌∙◌, refl}
use Rattle.aos_scan.specs.declared.token.TokenKind.TheVariants as kind
use Rattle.aos_tree.specs.StatGrammar as g
use Rattle.aos_parse_expr.proofs.Steps as by
use Rattle.aos_parse_stat.specs.Symbols as m
use Rattle.aos_parse_stat.proofs.descent.await_stat.Goals as goal

pub returns-in_err-condition-clause-moves : goal.returns-in_err-condition-clause-moves
returns-in_err-condition-clause-moves c =
    by.exits (λ r. r.1.now) c.from_residual.result (m.await_rest (c.args.depth + 1)) c.from_residual.ensures.1 (by.pass_on (m.tok (c.args.depth + 1) kind.CloseParen ∷ []) c.in_err-condition.ensures.moves (λ k. refl))

pub returns-in_err-rest-clause-moves : goal.returns-in_err-rest-clause-moves
returns-in_err-rest-clause-moves c =
    by.exits (λ r. r.1.now) c.from_residual-in_err-rest.result (m.await_rest (c.args.depth + 1)) c.from_residual-in_err-rest.ensures.1 (by.pass_on ([]) c.in_err-rest.ensures.moves (λ k. c.in_ok-condition.ensures.moves (m.tok (c.args.depth + 1) kind.CloseParen ∷ k)))

pub returns-clause-moves : goal.returns-clause-moves
returns-clause-moves c =
    λ k. c.in_ok-condition.ensures.moves (m.tok (c.args.depth + 1) kind.CloseParen ∷ k) ∙ c.in_ok-rest.ensures.moves k

pub returns-clause-tree : goal.returns-clause-tree
returns-clause-tree c =
    λ before w. g.await w c.in_ok-condition.ensures.tree.2 c.in_ok-condition.ensures.tree.3 c.in_ok-rest.ensures.tree.1
