use Rattle.std.proofs.Common.{◌≡◌, length, arith, subst}
use Rattle.aos_layout.specs.Marks.{AreMarks}
use Rattle.aos_layout.proofs.Marks.{marks_all}
use Rattle.aos_layout.proofs.made.made_types.Goals as goal

pub returns : goal.returns
returns c =
    let rows = c.args.types.now in
    let l = c.loop-number in
    let n : l.number ≡ length rows = omega (arith, l.auto.number-end, c.loop-number-test.false, c.len-number-end.ensures) in
    marks_all rows l.marks.items (subst (λ k. AreMarks rows k l.marks.items) n l.invariant)
