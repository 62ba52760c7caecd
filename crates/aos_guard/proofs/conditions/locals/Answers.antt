use Rattle.std.proofs.Common.{subst, rules}
use Rattle.std.proofs.lemmas.List.Sorted.{IsNonDecreasingBy-from_sort_by_key}
use Rattle.aos_typed.specs.Conditions.{conditions}
use Rattle.aos_typed.specs.Seen.{seen_program}
use Rattle.aos_guard.specs.Awaits.{AreTold, place_of}
use Rattle.aos_guard.proofs.conditions.locals.Goals as goal

pub returns-clause-each : goal.returns-clause-each
returns-clause-each c =
    record {
      told = c.in_ok-all.all.items;
      are = subst (λ p. AreTold (seen_program p) (conditions (seen_program p)) c.in_ok-all.all.items) c.in_ok-dispatch.ensures c.in_ok-all.ensures;
      once = c.in_ok-sort_by_key.ensures.permutation;
    }

pub returns-clause-order : goal.returns-clause-order
returns-clause-order c = IsNonDecreasingBy-from_sort_by_key place_of _ c.in_ok-sort_by_key.ensures.sorted (λ a r q k. search rules)
