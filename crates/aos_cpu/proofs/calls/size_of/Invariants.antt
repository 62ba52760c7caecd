use Rattle.std.proofs.Common.{◌≡◌, ◌-◌, [], Some, drop, length}
use Rattle.aos_code.specs.Machine.{lengths_in}
use Rattle.aos_cpu.specs.Calls.{sized}
use Rattle.aos_cpu.proofs.calls.size_of.Given as goal

-- the size of an array of the last so many lengths
abbrev pub invariant-loop-i : goal.invariant-loop-i
invariant-loop-i l = sized l.element (lengths_in [] (drop (length l.lengths - l.i) l.lengths)) ≡ Some l.size
