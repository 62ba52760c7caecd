use Rattle.aos.proofs.Over.{watch_along, unwatched_along}
use Rattle.aos.proofs.run.replay_by.Goals as goal

pub returns-then-watch : goal.returns-then-watch
returns-then-watch g c = watch_along c.args.kernel.now.image c.args.script.now c.args.watch _ c.replay_all.result c.if-watch.true c.replay_all.ensures

pub returns : goal.returns
returns g c = unwatched_along c.args.kernel.now.image c.args.script.now c.args.watch _ c.replay_unwatched.result c.if-watch.false c.replay_unwatched.ensures
