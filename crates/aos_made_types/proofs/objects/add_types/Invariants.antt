-- The loop over so many fields.
use Rattle.std.proofs.Common.{◌≡◌, ◌++◌, replicate}
use Rattle.aos_made_types.proofs.objects.add_types.Given as goal

abbrev pub invariant-loop : goal.invariant-loop
invariant-loop l = l.types.items ≡ l.initial.types.items ++ replicate l.counter l.of
