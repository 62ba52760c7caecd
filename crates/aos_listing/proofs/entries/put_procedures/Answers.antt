use Rattle.std.proofs.Common.{◌<◌, length, arith}
use Rattle.aos_typed.specs.Seen.{seen_procedure}
use Rattle.aos_listing.specs.Listing.{OfProcedure}
use Rattle.aos_listing.proofs.Parts.{one_more}
use Rattle.aos_listing.proofs.entries.put_procedures.Goals as goal

pub loop-procedure-preserved : goal.loop-procedure-preserved
loop-procedure-preserved c =
    let l = c.loop-procedure in
    let qs = c.args.procedures.now in
    let lt : l.procedure-index < length qs = omega arith in
    one_more seen_procedure (OfProcedure c.args.home) _ _ _ qs l.procedure-index c.procedure-item.result lt c.procedure-item.is l.invariant c.in_ok-put.ensures
