-- The loop over the definitions: the rows of those that are left come behind the ones so far.
use Rattle.std.proofs.Common.{◌≡◌, ◌++◌, drop, length}
use Rattle.aos_check_types.specs.Aliases.{first_rows}
use Rattle.aos_check_types.proofs.aliases.add_all.Given as goal

abbrev pub invariant-loop-target : goal.invariant-loop-target
invariant-loop-target l = l.types ++ first_rows (length l.types) (drop l.target-index l.targets) ≡ l.initial.types ++ first_rows (length l.initial.types) l.targets
