-- What the loop of explores keeps, and what falls.
use Rattle.std.proofs.Common.{◌+◌, length}
use Rattle.aos_sound.specs.Search.{unknown, Explored}
use Rattle.aos_sound.proofs.search.explores.Given as goal

abbrev pub invariant-loop-at : goal.invariant-loop-at
invariant-loop-at l = Explored l.image l.fn.own l.code l.fn.depth l.stacks l.table.items l.todo.items

abbrev pub decreases-loop-at : goal.decreases-loop-at
decreases-loop-at l = unknown l.table.items + length l.todo.items
