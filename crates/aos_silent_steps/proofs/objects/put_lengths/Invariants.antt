use Rattle.std.proofs.Common.{◌≡◌, ◌≤◌, ◌+◌, ◌-◌, ◌++◌, ◌∷◌, length, take, drop, reverse}
use Rattle.std.specs.Prelude.{vec_len, vec_capacity}
use Rattle.aos_code.specs.Silent.{length_cells}
use Rattle.aos_silent_steps.proofs.objects.put_lengths.Given as goal

-- so many are put
abbrev pub invariant-loop-length : goal.invariant-loop-length
invariant-loop-length l = record {
  operands : reverse l.stack.items ≡ length_cells (take l.length-index l.lengths) ++ l.fn.place ∷ drop 1 (reverse l.fn.stack.items);
  room : vec_capacity l.stack ≡ vec_capacity l.fn.stack;
  long : vec_len l.stack + (length l.lengths - l.length-index) ≤ vec_capacity l.stack;
}
