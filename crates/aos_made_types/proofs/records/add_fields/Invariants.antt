-- The loop over the fields of one type.
use Rattle.std.proofs.Common.{◌≡◌, ◌++◌, replicate}
use Rattle.aos_made_types.proofs.records.add_fields.Given as goal

abbrev pub invariant-loop : goal.invariant-loop
invariant-loop l = l.types ≡ l.initial.types ++ replicate l.counter l.of
