use Rattle.std.proofs.Common.{◌∷◌, []}
use Rattle.aos_scan.specs.declared.token.TokenKind.TheVariants as kind
use Rattle.aos_tree.specs.StatGrammar as g
use Rattle.aos_parse_expr.proofs.Steps as by
use Rattle.aos_parse_stat.specs.Symbols as m
use Rattle.aos_parse_expr.proofs.Sight as sight
use Rattle.aos_parse_stat.proofs.phrases.label.Goals as goal

pub returns-in_err-last-clause-moves : goal.returns-in_err-last-clause-moves
returns-in_err-last-clause-moves c =
    by.exits (λ r. r.1.now) c.from_residual-in_err-last.result (m.label c.args.depth) c.from_residual-in_err-last.ensures.1 (by.pass_on [] c.in_err-last.ensures.moves (λ k. c.in_ok-first.ensures.moves (m.option c.args.depth kind.Range ∷ k)))

pub returns-clause-tree : goal.returns-clause-tree
returns-clause-tree c =
    g.label c.in_ok-first.ensures.tree c.in_ok-last.ensures.tree

pub returns-clause-rest : goal.returns-clause-rest
returns-clause-rest c =
    sight.further_all _ _ _ c.in_ok-first.ensures.rest c.in_ok-last.ensures.rest
