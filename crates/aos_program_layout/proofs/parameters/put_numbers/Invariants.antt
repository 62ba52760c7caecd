use Rattle.std.proofs.Common.{◌≡◌, ◌-◌, ◌++◌}
use Rattle.std.specs.Prelude.{replicate}
use Rattle.aos_code.specs.declared.instr.Kind.TheVariants.{N}
use Rattle.aos_program_layout.proofs.parameters.put_numbers.Given as goal

-- the numbers so far, and what is left of them
abbrev pub invariant-loop-number : goal.invariant-loop-number
invariant-loop-number l = l.kinds.items ++ replicate (l.count - l._number) N ≡ l.fn.kinds.items ++ replicate l.count N
