use Rattle.std.proofs.Common.{◌+◌, ◌≤◌, ◌^◌, length}
use Rattle.aos_script.specs.Words.{lines_left}
use Rattle.aos_script.specs.Rest.{Skips}
use Rattle.aos_script.proofs.script.behind_head.Given as goal

abbrev pub invariant-loop-left : goal.invariant-loop-left
invariant-loop-left l = record {
  skips : Skips (lines_left l.fn.left) l.n (lines_left l.left);
  few : l.n + length (lines_left l.left) ≤ 2 ^ 27 + 1;
}

abbrev pub decreases-loop-left : goal.decreases-loop-left
decreases-loop-left l = length (lines_left l.left)
