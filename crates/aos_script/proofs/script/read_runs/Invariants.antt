use Rattle.std.proofs.Common.{◌≡◌, ◌+◌, ◌≤◌, ◌^◌, length}
use Rattle.aos_script.specs.Words.{lines_left}
use Rattle.aos_script.specs.Rest.{ReadsRuns}
use Rattle.aos_script.proofs.script.read_runs.Given as goal

abbrev pub invariant-loop-left : goal.invariant-loop-left
invariant-loop-left l = record {
  reads : ReadsRuns l.workers (lines_left l.fn.left) l.entries.items (lines_left l.left);
  counted : l.n ≡ length l.entries.items + l.fn.first;
  few : l.n + length (lines_left l.left) ≤ 2 ^ 28;
}

abbrev pub decreases-loop-left : goal.decreases-loop-left
decreases-loop-left l = length (lines_left l.left)
