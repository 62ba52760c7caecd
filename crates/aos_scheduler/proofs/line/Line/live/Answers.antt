use Rattle.aos_scheduler.proofs.Standing.{live_is}
use Rattle.aos_scheduler.proofs.line.Line.live.Goals as goal

pub returns-clause-length : goal.returns-clause-length
returns-clause-length c line owner h = live_is c.args.self.now line owner h
