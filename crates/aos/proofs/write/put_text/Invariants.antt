use Rattle.std.proofs.Common.{length, take, ◌-◌, ◌≡◌, ◌≤◌}
use Rattle.aos_dev.specs.Sink.{appended}
use Rattle.aos.proofs.write.put_text.Given as goal

-- what is before `at` was written
abbrev pub invariant-loop-at : goal.invariant-loop-at
invariant-loop-at g l =
    (l.at ≤ length l.text) × (g.S.Sink.faults l.fn.sink ≤ g.S.Sink.faults l.sink) × (g.S.Sink.written l.sink ≡ appended (g.S.Sink.written l.fn.sink) (take l.at l.text))

abbrev pub decreases-loop-at : goal.decreases-loop-at
decreases-loop-at g l = length l.text - l.at
