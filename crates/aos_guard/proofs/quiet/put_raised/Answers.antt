use Rattle.aos_typed.specs.Seen.{seen_program}
use Rattle.aos_guard.proofs.Adds.{raised_put}
use Rattle.aos_guard.proofs.quiet.put_raised.Goals as goal

pub returns : goal.returns
returns c =
    raised_put c.args.marks.now (seen_program c.args.dispatch.now) c.args.edges.now.items c.put_edge.new.edges.items c.put_named.new.edges.items
    c.args.text c.args.of c.args.slot c.raised.result c.raised.ensures c.in_ok-put_edge.ensures c.in_ok-put_named.ensures
