-- The loop over modules.
use Rattle.std.proofs.Common.{◌≡◌, [], sum_by, take}
use Rattle.aos_check_types.specs.Limits.{scalars_of}
use Rattle.aos_check_types.proofs.limits.scalars_before.Given as goal

abbrev pub invariant-loop-home : goal.invariant-loop-home
invariant-loop-home l = l.sum ≡ sum_by (scalars_of [] l.types) (take l.home-index l.before)
