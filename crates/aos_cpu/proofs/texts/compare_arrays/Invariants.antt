use Rattle.std.proofs.Common.{◌≡◌, [], drop}
use Rattle.aos_code.specs.Machine.{text_in}
use Rattle.aos_cpu.specs.Answers.{ordered}
use Rattle.aos_cpu.proofs.texts.compare_arrays.Given as goal

-- what stands up to here is the same in both
abbrev pub invariant-loop-i : goal.invariant-loop-i
invariant-loop-i l = ordered (text_in [] l.first) (text_in [] l.second) ≡ ordered (text_in [] (drop l.i l.first)) (text_in [] (drop l.i l.second))
