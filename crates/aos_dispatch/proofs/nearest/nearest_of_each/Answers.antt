use Rattle.aos_typed.specs.Seen.{seen_program}
use Rattle.aos_dispatch.proofs.Told.{told_more}
use Rattle.aos_dispatch.proofs.nearest.nearest_of_each.Goals as goal

pub loop-number-preserved : goal.loop-number-preserved
loop-number-preserved c =
    let l = c.loop-number in
    told_more (seen_program c.args.program.now) c.args.asked l.number l.table.items _ c.nearest_if-one.result c.in_ok-put_told.ensures c.nearest_if-one.ensures l.invariant
