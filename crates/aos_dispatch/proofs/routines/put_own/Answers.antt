use Rattle.std.proofs.Common.{◌<◌, length, arith}
use Rattle.aos_typed.specs.Program.{Method}
use Rattle.aos_typed.specs.Routines.{routine_of}
use Rattle.aos_typed.specs.Seen.{seen_method}
use Rattle.aos_dispatch.proofs.Listed.{one_more}
use Rattle.aos_dispatch.proofs.routines.put_own.Goals as goal

pub loop-method-preserved : goal.loop-method-preserved
loop-method-preserved c =
    let l = c.loop-method in
    let ms = c.args.methods.now in
    let lt : l.method-index < length ms = omega arith in
    one_more _ _ _ seen_method (λ (m : Method). routine_of c.args.home m.procedure) ms l.method-index c.method-item.result lt c.method-item.is l.invariant c.in_ok-put.ensures
