use Rattle.std.proofs.Common.{◌≡◌}
use Rattle.aos_members.specs.Members.{own_fields, of_each}
use Rattle.aos_symbols.specs.Scope.{places_in}
use Rattle.aos_members.proofs.members.field_table.Given as goal

abbrev pub invariant-loop-number : goal.invariant-loop-number
invariant-loop-number l = l.table.items ≡ of_each (λ t. places_in l.words (own_fields l.env t)) l.number
