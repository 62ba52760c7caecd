use Rattle.std.proofs.Common.{arith}
use Rattle.aos_typed.specs.Seen.{seen_program}
use Rattle.aos_guard.proofs.Initial.{marks_end}
use Rattle.aos_guard.proofs.quiet.initial_marks.Goals as goal

pub returns : goal.returns
returns c =
    let loop = c.loop-index in
    marks_end (seen_program c.args.dispatch.now) loop.marks.items c.routines-routines.result.now loop.index c.routines-routines.ensures (omega (arith, c.loop-index-test.false)) loop.invariant.length loop.invariant.marks
