use Rattle.aos_base.specs.Book.{leave_line}
use Rattle.aos_scheduler.proofs.line.Line.dispatch.Goals as goal

pub returns-in-Some-clause-stands : goal.returns-in-Some-clause-stands
returns-in-Some-clause-stands c line owner h = c.put_on.ensures.stands (leave_line c.in-Some.activity line) owner (c.in-Some.ensures.left line owner h)
