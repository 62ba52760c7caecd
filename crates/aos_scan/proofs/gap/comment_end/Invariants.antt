use Rattle.std.proofs.Common.{ℕ, ◌+◌, ◌-◌, ◌<◌, ◌≤◌, length}
use Rattle.aos_scan.specs.Gap.{Comment}
use Rattle.aos_scan.proofs.Comments.{Levels}
use Rattle.aos_scan.proofs.gap.comment_end.Given as goal

abbrev pub invariant-loop-at : goal.invariant-loop-at
invariant-loop-at l = record {
  positive : 0 < l.depth;
  small : l.depth ≤ l.at;
  within : l.at ≤ length l.text;
  forward : (end : ℕ) → Comment l.text (l.from + 2) end → Levels l.text l.depth l.at end;
  back : (end : ℕ) → Levels l.text l.depth l.at end → Comment l.text (l.from + 2) end;
}

abbrev pub decreases-loop-at : goal.decreases-loop-at
decreases-loop-at l = length l.text - l.at
