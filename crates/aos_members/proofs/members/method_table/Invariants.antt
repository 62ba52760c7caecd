use Rattle.std.proofs.Common.{◌≡◌}
use Rattle.aos_members.specs.Members.{own_methods, of_each}
use Rattle.aos_symbols.specs.Scope.{places_in}
use Rattle.aos_members.proofs.members.method_table.Given as goal

abbrev pub invariant-loop-number : goal.invariant-loop-number
invariant-loop-number l = l.table.items ≡ of_each (λ t. places_in l.words (own_methods l.env t)) l.number
