use Rattle.std.proofs.Common.{◌-◌, ◌≤◌, length}
use Rattle.aos_scan.specs.Gap.{Gap}
use Rattle.aos_scan.proofs.gap.gap_end.Given as goal

abbrev pub invariant-loop-at : goal.invariant-loop-at
invariant-loop-at l = record { gap : Gap l.text l.from l.at; from : l.from ≤ l.at; within : l.at ≤ length l.text }

abbrev pub decreases-loop-at : goal.decreases-loop-at
decreases-loop-at l = length l.text - l.at
