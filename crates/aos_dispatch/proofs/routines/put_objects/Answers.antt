use Rattle.std.proofs.Common.{◌<◌, length, arith}
use Rattle.aos_typed.specs.Program.{ObjectType}
use Rattle.aos_typed.specs.Routines.{routine_of}
use Rattle.aos_typed.specs.Seen.{seen_object}
use Rattle.aos_dispatch.proofs.Listed.{one_more}
use Rattle.aos_dispatch.proofs.routines.put_objects.Goals as goal

pub loop-object-preserved : goal.loop-object-preserved
loop-object-preserved c =
    let l = c.loop-object in
    let os = c.args.objects.now in
    let lt : l.object-index < length os = omega arith in
    one_more _ _ _ seen_object (λ (o : ObjectType). routine_of o.home o.body) os l.object-index c.object-item.result lt c.object-item.is l.invariant c.in_ok-put.ensures
