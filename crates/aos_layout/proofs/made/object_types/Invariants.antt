use Rattle.aos_layout.proofs.Marks.{AreObjects}
use Rattle.aos_layout.proofs.made.object_types.Given as goal

-- the types so far have their marks
abbrev pub invariant-loop-number : goal.invariant-loop-number
invariant-loop-number l = AreObjects l.types l.number l.marks.items
