use Rattle.std.proofs.Common.{◌≡◌, ◌<◌, ◌++◌, List, ◌∷◌, length}
use Rattle.aos_scan.specs.declared.token.Token.{Token}
use Rattle.aos_tree.specs.declared.expr.Expr.{Expr}
use Rattle.aos_tree.specs.Ended.{IsEnded}
use Rattle.aos_tree.specs.Nesting.{shallow}
use Rattle.aos_tree.specs.ExprGrammar.{IsExprs, IsMoreExprs}
use Rattle.aos_parse_expr.specs.Machine.{run}
use Rattle.aos_parse_expr.specs.Symbols as e
use Rattle.aos_parse_mod.specs.Symbols as m
use Rattle.aos_parse_mod.proofs.phrases.exprs.Given as goal

abbrev pub invariant-loop-found : goal.invariant-loop-found
invariant-loop-found l = record {
  ended : IsEnded l.rest;
  shorter : length l.rest < length l.tokens;
  tree : (more : List Expr) (end : List Token) → IsMoreExprs shallow l.depth more l.rest end → IsExprs shallow l.depth (l.found ++ more) l.tokens end;
  moves : (k : m.Stack) → run m.table shallow l.tokens (m.of_expr (e.exprs l.depth) ∷ k) ≡ run m.table shallow l.rest (m.of_expr (e.more_exprs l.depth) ∷ k);
}

abbrev pub decreases-loop-found : goal.decreases-loop-found
decreases-loop-found l = length l.rest
