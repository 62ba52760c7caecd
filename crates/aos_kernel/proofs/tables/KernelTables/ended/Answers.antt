use Rattle.aos_kernel.proofs.TablesShown.{shows_same, shown_same, turn_same, on_err}
use Rattle.aos_kernel.proofs.tables.KernelTables.ended.Goals as goal

pub returns-in_err-reserve_event-clause-err : goal.returns-in_err-reserve_event-clause-err
returns-in_err-reserve_event-clause-err c = on_err c.from_residual.result (λ image. shown_same image c.args.self.now c.reserve_event.new.self c.reserve_event.ensures.same)

pub returns-clause-ok : goal.returns-clause-ok
returns-clause-ok c image earlier st h = c.end.ensures image earlier st (shows_same image earlier c.args.self.now c.reserve_event.new.self st c.reserve_event.ensures.same h)

pub end-requires-clause-turn : goal.end-requires-clause-turn
end-requires-clause-turn c = turn_same c.args.self.now c.reserve_event.new.self c.args.activity c.reserve_event.ensures.same c.requires
