use Rattle.std.proofs.Common.{◌≡◌, ◌<◌, ◌++◌, List, ◌∷◌, length}
use Rattle.aos_scan.specs.declared.token.Token.{Token}
use Rattle.aos_tree.specs.declared.stat.Label.{Label}
use Rattle.aos_tree.specs.Nesting.{shallow}
use Rattle.aos_tree.specs.Ended.{IsEnded}
use Rattle.aos_tree.specs.StatGrammar.{IsLabels, IsMoreLabels}
use Rattle.aos_parse_expr.specs.Machine.{run}
use Rattle.aos_parse_stat.specs.Symbols as m
use Rattle.aos_parse_stat.proofs.phrases.labels.Given as goal

abbrev pub invariant-loop-found : goal.invariant-loop-found
invariant-loop-found l = record {
  ended : IsEnded l.rest;
  shorter : length l.rest < length l.tokens;
  tree : (more : List Label) (end : List Token) → IsMoreLabels shallow l.depth more l.rest end → IsLabels shallow l.depth (l.found ++ more) l.tokens end;
  moves : (k : m.Stack) → run m.table shallow l.tokens (m.labels l.depth ++ k) ≡ run m.table shallow l.rest (m.more_labels l.depth ∷ k);
}

abbrev pub decreases-loop-found : goal.decreases-loop-found
decreases-loop-found l = length l.rest
