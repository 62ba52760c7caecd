use Rattle.aos_base.specs.Book.{leave_line}
use Rattle.aos_scheduler.proofs.line.Line.yield_to.Goals as goal

pub returns-clause-stands : goal.returns-clause-stands
returns-clause-stands c line owner h = c.wake.ensures.stands (leave_line c.args.activity line) owner (c.leave.ensures.stands line owner h)
