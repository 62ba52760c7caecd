use Rattle.std.proofs.Common.{◌≡◌, ◌≤◌, ◌-◌, ◌++◌, length, drop}
use Rattle.aos_report.specs.Texts.{probes_text}
use Rattle.aos_report.proofs.probe_lines.Given as goal

-- the lines so far, and behind them those of the totals that are left
abbrev pub invariant-loop-i : goal.invariant-loop-i
invariant-loop-i l = record {
  at : l.i ≤ length l.totals;
  lines : l.text.items ++ probes_text l.i (drop l.i l.totals) ≡ probes_text 0 l.totals;
}

abbrev pub decreases-loop-i : goal.decreases-loop-i
decreases-loop-i l = length l.totals - l.i
