use Rattle.std.proofs.Common.{◌≡◌, ◌++◌, replicate}
use Rattle.aos_code.specs.declared.instr.Kind.TheVariants.{N}
use Rattle.aos_layout.proofs.cells.push_numbers.Given as goal

abbrev pub invariant-loop-number : goal.invariant-loop-number
invariant-loop-number l = l.kinds.items ≡ l.fn.kinds.items ++ replicate l._number N
