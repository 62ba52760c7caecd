use Rattle.aos_layout.specs.Marks.{AreMarks}
use Rattle.aos_layout.proofs.made.made_types.Given as goal

-- the types that the pointers so far lead to have their marks
abbrev pub invariant-loop-number : goal.invariant-loop-number
invariant-loop-number l = AreMarks l.types l.number l.marks.items
