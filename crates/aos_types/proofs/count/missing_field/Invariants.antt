use Rattle.std.proofs.Common.{◌-◌, length}
use Rattle.aos_types.specs.Count as count
use Rattle.aos_types.proofs.count.missing_field.Given as goal

abbrev pub invariant-loop-seen : goal.invariant-loop-seen
invariant-loop-seen l = count.AreSeen l.rows l.counts l.fields l.seen

abbrev pub decreases-loop-seen : goal.decreases-loop-seen
decreases-loop-seen l = length l.fields - l.seen
