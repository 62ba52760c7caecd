use Rattle.std.proofs.Common.{length}
use Rattle.aos_typed.specs.Seen.{seen_program}
use Rattle.aos_dispatch.specs.Tables.{chain_by}
use Rattle.aos_dispatch.proofs.Lists.{next_number}
use Rattle.aos_dispatch.proofs.upward.heights_of.Goals as goal

pub loop-number-preserved : goal.loop-number-preserved
loop-number-preserved c =
    let q = c.args.program.now in
    let l = c.loop-number in
    next_number (λ j. length (chain_by (seen_program q) (length q.objects.items) j)) l.number l.heights.items _ c.in_ok-height.height
    c.in_ok-put_height.ensures c.in_ok-height.ensures l.invariant
