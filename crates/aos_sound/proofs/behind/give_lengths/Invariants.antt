-- What the loop of give_lengths keeps.
use Rattle.std.proofs.Common.{◌≡◌, ◌<◌, ◌++◌, length, replicate}
use Rattle.aos_code.specs.declared.instr.Kind.TheVariants.{N}
use Rattle.aos_sound.specs.Stacks.{stack_at, Extends}
use Rattle.aos_sound.proofs.behind.give_lengths.Given as goal

-- so many are given
abbrev pub invariant-loop : goal.invariant-loop
invariant-loop l = (l.id < length l.stacks) × (stack_at l.stacks l.id ≡ replicate l.counter N ++ stack_at l.fn.stacks l.fn.below) × Extends l.fn.stacks l.stacks
