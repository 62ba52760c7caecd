-- The loop over the variables of a module.
use Rattle.std.proofs.Common.{◌≡◌, ◌≤◌, ◌-◌, [], length, sum_by, take}
use Rattle.aos_check_types.specs.Limits.{counted}
use Rattle.aos_check_types.proofs.limits.scalars_of.Given as goal

abbrev pub invariant-loop-of : goal.invariant-loop-of
invariant-loop-of l = record {
  within : l.number ≤ length l.scope.variables;
  sum : l.sum ≡ sum_by (counted [] l.types) (take l.number l.scope.variables);
}

abbrev pub decreases-loop-of : goal.decreases-loop-of
decreases-loop-of l = length l.scope.variables - l.number
