use Rattle.std.proofs.Common.{◌<◌, length, arith}
use Rattle.aos_typed.specs.Routines.{routine_of}
use Rattle.aos_typed.specs.Seen.{seen_procedure}
use Rattle.aos_dispatch.proofs.Listed.{one_more}
use Rattle.aos_dispatch.proofs.routines.put_procedures.Goals as goal

pub loop-procedure-preserved : goal.loop-procedure-preserved
loop-procedure-preserved c =
    let l = c.loop-procedure in
    let qs = c.args.procedures.now in
    let lt : l.procedure-index < length qs = omega arith in
    one_more _ _ _ seen_procedure (routine_of c.args.home) qs l.procedure-index c.procedure-item.result lt c.procedure-item.is l.invariant c.in_ok-put.ensures
