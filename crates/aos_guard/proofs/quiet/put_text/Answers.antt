use Rattle.std.proofs.Common.{arith}
use Rattle.aos_typed.specs.Seen.{seen_program}
use Rattle.aos_guard.proofs.Adds.{left_more, left_last}
use Rattle.aos_guard.proofs.quiet.put_text.Goals as goal

pub loop-one-preserved : goal.loop-one-preserved
loop-one-preserved c =
    left_more c.args.marks.now (seen_program c.args.dispatch.now) c.args.edges.now.items c.loop-one.edges.items c.put_use.new.edges.items
    c.args.text c.args.uses.now c.loop-one.one-index _ c.loop-one-test.true c.in_ok-put_use.ensures c.loop-one.invariant

pub returns : goal.returns
returns c =
    left_last c.args.marks.now (seen_program c.args.dispatch.now) c.args.edges.now.items c.loop-one.edges.items
    c.args.text c.args.uses.now c.loop-one.one-index (omega (arith, c.loop-one-test.false)) c.loop-one.invariant
