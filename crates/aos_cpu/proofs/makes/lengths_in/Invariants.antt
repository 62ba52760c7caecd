use Rattle.std.proofs.Common.{take}
use Rattle.aos_cpu.specs.Makes.{AreLengths}
use Rattle.aos_cpu.proofs.makes.lengths_in.Given as goal

-- what the operands up to here are
abbrev pub invariant-loop-operand : goal.invariant-loop-operand
invariant-loop-operand l = AreLengths (take l.operand-index l.operands) l.found
