-- The loop over modules: what was added so far.
use Rattle.std.proofs.Common.{◌≡◌, ◌++◌, take}
use Rattle.std.specs.List.{flat_map}
use Rattle.aos_arguments.specs.Filled.{home_texts}
use Rattle.aos_arguments.proofs.filled.put_homes.Given as goal

abbrev pub invariant-loop-home : goal.invariant-loop-home
invariant-loop-home l = l.texts.items ≡ l.initial.texts.items ++ flat_map home_texts (take l.home-index l.homes)
