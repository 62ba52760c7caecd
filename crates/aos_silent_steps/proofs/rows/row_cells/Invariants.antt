use Rattle.std.proofs.Common.{◌≡◌, ◌-◌, ◌^◌, min, [], List, ℕ, map, reverse, take, drop}
use Rattle.std.specs.Prelude.{pos}
use Rattle.aos_code.specs.declared.instr.Cell.TheVariants.{Num}
use Rattle.aos_code.specs.Silent.{Stack, Act, lengths_on, cells_of}
use Rattle.aos_silent_steps.specs.Taken.{length_or, number_or, rows_of}
use Rattle.aos_silent_steps.proofs.rows.row_cells.Given as goal

-- so many are lengths
abbrev pub invariant-loop-row : goal.invariant-loop-row
invariant-loop-row l = record {
  rest : (k : List ℕ → Stack → Act) →
      lengths_on l.rows [] k (drop 1 (reverse l.stack)) ≡ lengths_on (l.rows - l.row) (rows_of (take l.row (drop 1 (reverse l.stack)))) k (drop l.row (drop 1 (reverse l.stack)));
  cells : l.size ≡ min (cells_of (rows_of (take l.row (drop 1 (reverse l.stack)))) l.cells) (2 ^ 64 - 1);
  lengths : map (λ n. Num (pos n)) (map (λ v. length_or (number_or v)) (take l.row (drop 1 (reverse l.stack)))) ≡ take l.row (drop 1 (reverse l.stack));
}
