use Rattle.std.proofs.Common.{◌≡◌, ◌-◌, [], List, map, reverse, take, drop}
use Rattle.std.specs.Prelude.{ℤ}
use Rattle.aos_code.specs.declared.instr.Cell.TheVariants.{Num}
use Rattle.aos_code.specs.Silent.{Stack, Act, counted_on}
use Rattle.aos_silent_steps.specs.Taken.{numbers_of}
use Rattle.aos_silent_steps.proofs.rows.are_numbers.Given as goal

-- so many are
abbrev pub invariant-loop-depth : goal.invariant-loop-depth
invariant-loop-depth l = record {
  rest : (k : List ℤ → Stack → Act) →
      counted_on l.count [] k (reverse l.stack) ≡ counted_on (l.count - l.depth) (reverse (numbers_of (take l.depth (reverse l.stack)))) k (drop l.depth (reverse l.stack));
  numbers : map Num (numbers_of (take l.depth (reverse l.stack))) ≡ take l.depth (reverse l.stack);
}
