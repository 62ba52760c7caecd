use Rattle.std.proofs.Common.{◌∙◌, refl, ap}
use Rattle.std.specs.Prelude.{Vec}
use Rattle.std.specs.declared.alloc.Global.{Global}
use Rattle.aos_base.specs.Lock.{Condition}
use Rattle.aos_base.specs.Book.{leave_line}
use Rattle.aos_scheduler.specs.Numbers.{number_of}
use Rattle.aos_scheduler.specs.declared.run_state.RunState.{RunState}
use Rattle.aos_scheduler.proofs.Standing.{on_same}
use Rattle.aos_scheduler.proofs.line.Line.wait.Goals as goal

pub leave-requires : goal.leave-requires
leave-requires c = on_same c.args.self.now c.number.new.self c.args.activity c.in_ok-number.ensures.same (ap (λ (v : Vec RunState Global). v.items) c.number.ensures.places) c.requires

pub join-requires-clause-number : goal.join-requires-clause-number
join-requires-clause-number c = ap (λ ns. number_of ns c.args.lock) c.leave.ensures.numbers ∙ c.in_ok-number.ensures.number

pub returns-clause-stands : goal.returns-clause-stands
returns-clause-stands c line owner h condition =
    c.join.ensures.stands (leave_line c.args.activity line) owner (c.leave.ensures.stands line owner (c.in_ok-number.ensures.same line owner h)) (Condition condition) refl
