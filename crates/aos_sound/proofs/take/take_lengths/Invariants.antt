-- What the loop of take_lengths keeps, and what falls.
use Rattle.std.proofs.Common.{◌≡◌, ◌<◌, length, replicate}
use Rattle.aos_code.specs.declared.instr.Kind.TheVariants.{N}
use Rattle.aos_sound.specs.Sound.{without}
use Rattle.aos_sound.specs.Stacks.{stack_at}
use Rattle.aos_sound.proofs.take.take_lengths.Given as goal

abbrev pub invariant-loop-todo : goal.invariant-loop-todo
invariant-loop-todo l = (l.left < length l.stacks) × (without (replicate l.todo N) (stack_at l.stacks l.left) ≡ without (replicate l.fn.lengths N) (stack_at l.stacks l.fn.id))

abbrev pub decreases-loop-todo : goal.decreases-loop-todo
decreases-loop-todo l = l.todo
