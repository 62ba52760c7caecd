use Rattle.std.proofs.Common.{◌≡◌, ℕ, ◌-◌, ◌<◌, ◌≤◌, true, length, get_or}
use Rattle.aos_scan.specs.Bytes.{is_in}
use Rattle.aos_scan.proofs.run.run_end.Given as goal

abbrev pub invariant-loop-at : goal.invariant-loop-at
invariant-loop-at l = record {
  ordered : l.from ≤ l.at;
  within : l.at ≤ length l.text;
  each : (k : ℕ) → l.from ≤ k → k < l.at → is_in l.class (get_or l.text k 0) ≡ true;
}

abbrev pub decreases-loop-at : goal.decreases-loop-at
decreases-loop-at l = length l.text - l.at
