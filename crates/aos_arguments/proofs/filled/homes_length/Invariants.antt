-- The loop over modules: the longest so far.
use Rattle.std.proofs.Common.{◌≡◌, take}
use Rattle.aos_arguments.specs.Filled.{most, home_length}
use Rattle.aos_arguments.proofs.filled.homes_length.Given as goal

abbrev pub invariant-loop-home : goal.invariant-loop-home
invariant-loop-home l = l.length ≡ most (home_length l.env) (take l.home-index l.homes)
