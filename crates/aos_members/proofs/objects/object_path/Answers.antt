use Rattle.std.proofs.Common.{sym}
use Rattle.aos_members.proofs.Opened.{path_step}
use Rattle.aos_members.proofs.objects.object_path.Goals as goal

pub loop-left-preserved : goal.loop-left-preserved
loop-left-preserved c =
    let l = c.loop-left in
    path_step c.args.env.now l.at l.left l.path.items c.put_place.new.path.items _ c.in-Some.base (sym c.in-Some.ensures) c.loop-left-test.true
    c.in_ok-put_place.ensures l.invariant
