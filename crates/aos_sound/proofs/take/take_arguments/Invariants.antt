-- What the loop of take_arguments keeps, and what falls.
use Rattle.std.proofs.Common.{◌≡◌, ◌<◌, ◌≤◌, length, take, reverse}
use Rattle.aos_code.specs.Silent.{kinds_of}
use Rattle.aos_sound.specs.Sound.{without}
use Rattle.aos_sound.specs.Stacks.{stack_at}
use Rattle.aos_sound.proofs.take.take_arguments.Given as goal

abbrev pub invariant-loop-todo : goal.invariant-loop-todo
invariant-loop-todo l = (l.left < length l.stacks) × (l.todo ≤ length l.parameters) × (without (reverse (kinds_of (take l.todo l.parameters))) (stack_at l.stacks l.left) ≡ without (reverse (kinds_of l.parameters)) (stack_at l.stacks l.fn.id))

abbrev pub decreases-loop-todo : goal.decreases-loop-todo
decreases-loop-todo l = l.todo
