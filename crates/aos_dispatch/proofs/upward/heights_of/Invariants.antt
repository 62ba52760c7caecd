use Rattle.std.proofs.Common.{length}
use Rattle.aos_typed.specs.Seen.{seen_program}
use Rattle.aos_dispatch.specs.Tables.{AreHeights}
use Rattle.aos_dispatch.proofs.upward.heights_of.Given as goal

-- the types so far
abbrev pub invariant-loop-number : goal.invariant-loop-number
invariant-loop-number l = AreHeights (seen_program l.program) (length l.program.objects.items) l.number l.heights.items
