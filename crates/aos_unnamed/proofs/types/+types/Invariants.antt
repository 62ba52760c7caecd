-- The loop over fields: those so far are done. The measure is how deep types may still lie.
use Rattle.std.proofs.Common.{◌≡◌, ◌+◌, ◌*◌}
use Rattle.aos_unnamed.specs.Unnamed.{through, in_field}
use Rattle.aos_unnamed.proofs.types.+types.Given as goal

abbrev pub decreases-in_type : goal.decreases-in_type
decreases-in_type l = 3 * l.left

abbrev pub decreases-in_fields : goal.decreases-in_fields
decreases-in_fields l = 3 * l.left + 2

abbrev pub decreases-in_field : goal.decreases-in_field
decreases-in_field l = 3 * l.left + 1

abbrev pub invariant-in_fields-loop-field : goal.invariant-in_fields-loop-field
invariant-in_fields-loop-field l = record {
  part : l.all ≡ (through in_field l.initial.added l.yielded).part;
  added : l.added ≡ (through in_field l.initial.added l.yielded).added;
}
