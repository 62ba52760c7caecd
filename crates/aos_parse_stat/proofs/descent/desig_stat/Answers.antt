use Rattle.std.proofs.Common.{◌+◌, ◌∷◌, [], ◌∙◌, refl}
use Rattle.aos_scan.specs.declared.token.TokenKind.TheVariants as kind
use Rattle.aos_parse_expr.proofs.Steps as by
use Rattle.aos_parse_stat.specs.Symbols as m
use Rattle.aos_parse_stat.proofs.Trees as trees
use Rattle.aos_parse_stat.proofs.descent.desig_stat.Goals as goal

pub returns-in_err-target-clause-moves : goal.returns-in_err-target-clause-moves
returns-in_err-target-clause-moves c =
    by.exits (λ r. r.1.now) c.from_residual.result (m.desig (c.args.depth + 1) ∷ m.option (c.args.depth + 1) kind.Becomes ∷ []) c.from_residual.ensures.1 (by.pass_on (m.option (c.args.depth + 1) kind.Becomes ∷ []) c.in_err-target.ensures.moves (λ k. refl))

pub returns-in_err-value-clause-moves : goal.returns-in_err-value-clause-moves
returns-in_err-value-clause-moves c =
    by.exits (λ r. r.1.now) c.from_residual-in_err-value.result (m.desig (c.args.depth + 1) ∷ m.option (c.args.depth + 1) kind.Becomes ∷ []) c.from_residual-in_err-value.ensures.1 (by.pass_on ([]) c.in_err-value.ensures.moves (λ k. c.in_ok-target.ensures.moves (m.option (c.args.depth + 1) kind.Becomes ∷ k)))

pub returns-in-Some-clause-moves : goal.returns-in-Some-clause-moves
returns-in-Some-clause-moves c =
    λ k. c.in_ok-target.ensures.moves (m.option (c.args.depth + 1) kind.Becomes ∷ k) ∙ c.in_ok-value.ensures.moves k

pub returns-in-None-clause-moves : goal.returns-in-None-clause-moves
returns-in-None-clause-moves c =
    λ k. c.in_ok-target.ensures.moves (m.option (c.args.depth + 1) kind.Becomes ∷ k) ∙ c.in_ok-value.ensures.moves k

pub returns-in-Some-clause-tree : goal.returns-in-Some-clause-tree
returns-in-Some-clause-tree c = trees.assign_by c.in_ok-target.ensures.tree c.split.ensures.whole c.in_ok-value.ensures.tree c.in-Some.is

pub returns-in-None-clause-tree : goal.returns-in-None-clause-tree
returns-in-None-clause-tree c = trees.call_by c.in_ok-target.ensures.tree c.in_ok-value.ensures.tree c.in-None.is
