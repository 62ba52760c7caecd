use Rattle.std.proofs.Common.{◌≡◌, ◌+◌, ◌++◌, replicate, vec_len, vec_capacity}
use Rattle.std.specs.Prelude.{pos}
use Rattle.aos_code.specs.declared.instr.Cell.TheVariants.{Num}
use Rattle.aos_store.proofs.frames.fill.Given as goal

abbrev pub invariant-loop : goal.invariant-loop
invariant-loop l = record {
  items : l.cells.items ≡ l.fn.cells.items ++ replicate l.counter (Num (pos 0));
  len : vec_len l.cells ≡ vec_len l.fn.cells + l.counter;
  capacity : vec_capacity l.cells ≡ vec_capacity l.fn.cells;
}
