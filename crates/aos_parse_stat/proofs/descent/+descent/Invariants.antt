use Rattle.std.proofs.Common.{◌≡◌, ◌+◌, ◌*◌, ◌≤◌, ◌++◌, List, ◌∷◌, length}
use Rattle.aos_scan.specs.declared.token.Token.{Token}
use Rattle.aos_tree.specs.declared.stat.Stat.{Stat}
use Rattle.aos_tree.specs.declared.stat.StatSeq.{roll-StatSeq}
use Rattle.aos_tree.specs.declared.stat.Elsif.{Elsif}
use Rattle.aos_tree.specs.declared.stat.Case.{Case}
use Rattle.aos_tree.specs.Nesting.{shallow}
use Rattle.aos_tree.specs.Ended.{IsEnded}
use Rattle.aos_tree.specs.StatGrammar.{IsStatSeq, IsMoreStats, IsElsifs, IsMoreCases}
use Rattle.aos_parse_expr.specs.Machine.{run}
use Rattle.aos_parse_stat.specs.Grammar.{IsCases}
use Rattle.aos_parse_stat.specs.Symbols as m
use Rattle.aos_parse_stat.proofs.descent.+descent.Given as goal

abbrev pub decreases-block : goal.decreases-block
decreases-block l = 4 * length l.tokens.now + 0

abbrev pub decreases-stat : goal.decreases-stat
decreases-stat l = 4 * length l.tokens.now + 1

abbrev pub decreases-stats : goal.decreases-stats
decreases-stats l = 4 * length l.tokens.now + 2

abbrev pub decreases-case : goal.decreases-case
decreases-case l = 4 * length l.tokens.now + 1

abbrev pub decreases-cases : goal.decreases-cases
decreases-cases l = 4 * length l.tokens.now + 2

abbrev pub decreases-elsifs : goal.decreases-elsifs
decreases-elsifs l = 4 * length l.tokens.now + 1

abbrev pub decreases-elsif : goal.decreases-elsif
decreases-elsif l = 4 * length l.tokens.now + 1

abbrev pub decreases-otherwise : goal.decreases-otherwise
decreases-otherwise l = 4 * length l.tokens.now + 1

abbrev pub decreases-if_stat : goal.decreases-if_stat
decreases-if_stat l = 4 * length l.tokens.now + 3

abbrev pub decreases-case_stat : goal.decreases-case_stat
decreases-case_stat l = 4 * length l.tokens.now + 3

abbrev pub decreases-while_stat : goal.decreases-while_stat
decreases-while_stat l = 4 * length l.tokens.now + 3

abbrev pub decreases-repeat_stat : goal.decreases-repeat_stat
decreases-repeat_stat l = 4 * length l.tokens.now + 3

abbrev pub decreases-loop_stat : goal.decreases-loop_stat
decreases-loop_stat l = 4 * length l.tokens.now + 3

abbrev pub decreases-for_stat : goal.decreases-for_stat
decreases-for_stat l = 4 * length l.tokens.now + 3

abbrev pub decreases-with_stat : goal.decreases-with_stat
decreases-with_stat l = 4 * length l.tokens.now + 3

abbrev pub invariant-stats-loop-found : goal.invariant-stats-loop-found
invariant-stats-loop-found l = record {
  ended : IsEnded l.rest;
  shorter : length l.rest ≤ length l.tokens;
  tree : (more : List Stat) (end : List Token) → IsMoreStats shallow l.depth more l.rest end → IsStatSeq shallow l.depth (roll-StatSeq (record { stats = l.found ++ more })) l.tokens end;
  moves : (k : m.Stack) → run m.table shallow l.tokens (m.stats l.depth ++ k) ≡ run m.table shallow l.rest (m.more_stats l.depth ∷ k);
}

abbrev pub decreases-stats-loop-found : goal.decreases-stats-loop-found
decreases-stats-loop-found l = length l.rest

abbrev pub invariant-cases-loop-found : goal.invariant-cases-loop-found
invariant-cases-loop-found l = record {
  ended : IsEnded l.rest;
  shorter : length l.rest ≤ length l.tokens;
  tree : (more : List Case) (end : List Token) → IsMoreCases shallow l.depth more l.rest end → IsCases shallow l.depth (l.found ++ more) l.tokens end;
  moves : (k : m.Stack) → run m.table shallow l.tokens (m.cases l.depth ++ k) ≡ run m.table shallow l.rest (m.more_cases l.depth ∷ k);
}

abbrev pub decreases-cases-loop-found : goal.decreases-cases-loop-found
decreases-cases-loop-found l = length l.rest

abbrev pub invariant-elsifs-loop-found : goal.invariant-elsifs-loop-found
invariant-elsifs-loop-found l = record {
  ended : IsEnded l.rest;
  shorter : length l.rest ≤ length l.tokens;
  tree : (more : List Elsif) (end : List Token) → IsElsifs shallow l.depth more l.rest end → IsElsifs shallow l.depth (l.found ++ more) l.tokens end;
  moves : (k : m.Stack) → run m.table shallow l.tokens (m.elsifs l.depth ∷ k) ≡ run m.table shallow l.rest (m.elsifs l.depth ∷ k);
}

abbrev pub decreases-elsifs-loop-found : goal.decreases-elsifs-loop-found
decreases-elsifs-loop-found l = length l.rest
