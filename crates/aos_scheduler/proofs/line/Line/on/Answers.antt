use Rattle.std.proofs.Common.{sym, ◌∙◌}
use Rattle.std.specs.Prelude.{None}
use Rattle.std.proofs.lemmas.List.{get_or_read, get_or_past}
use Rattle.aos_scheduler.proofs.Standing.{worker_is}
use Rattle.aos_scheduler.proofs.line.Line.on.Goals as goal

pub returns-in-Some-clause-on : goal.returns-in-Some-clause-on
returns-in-Some-clause-on c line owner h =
    let running = c.args.self.now.running in
    get_or_read running c.args.worker c.in-Some.activity.now c.in-Some.ensures.lookup.3.0 c.in-Some.ensures.lookup.1 None ∙ worker_is c.args.self.now line owner h c.args.worker

pub returns-in-None-clause-on : goal.returns-in-None-clause-on
returns-in-None-clause-on c line owner h =
    sym (get_or_past c.args.self.now.running c.args.worker None c.in-None.ensures.lookup.3) ∙ worker_is c.args.self.now line owner h c.args.worker
