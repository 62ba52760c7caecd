use Rattle.std.proofs.lemmas.Result.{on_ok_weaker}
use Rattle.aos_guard.proofs.Adds.{loud_put}
use Rattle.aos_guard.proofs.quiet.put_loud.Goals as goal

pub returns : goal.returns
returns c = on_ok_weaker c.put_edge.result (λ put. loud_put c.args.marks.now c.args.edges.now.items c.put_edge.new.edges.items c.args.text c.requires put) c.put_edge.ensures
