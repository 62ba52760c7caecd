use Rattle.std.proofs.Common.{refl, sym, subst, ◌∙◌}
use Rattle.aos_base.specs.declared.kernel.Did.TheVariants.{Leave}
use Rattle.aos_scheduler.specs.Stands.{IsStood}
use Rattle.aos_kernel.specs.Conditions.{HasRooms}
use Rattle.aos_kernel.proofs.TablesShown.{shows_same, shown_same, turn_same, turns_no_wait, before_same, on_err}
use Rattle.aos_kernel.proofs.tables.KernelTables.leave.Goals as goal

pub returns-in_err-reserve_event-clause-err : goal.returns-in_err-reserve_event-clause-err
returns-in_err-reserve_event-clause-err c = on_err c.from_residual.result (shown_same c.args.image.now c.args.self.now c.reserve_event.new.self c.reserve_event.ensures.same)

pub returns-clause-ok : goal.returns-clause-ok
returns-clause-ok c earlier st h work =
    let image = c.args.image.now in
    let same = c.reserve_event.ensures.same in
    let d = c.reserve_event.new.self in
    let g = shows_same image earlier c.args.self.now d st same h in
    c.release.ensures earlier _ (c.go_past.ensures.past image earlier st g refl (turns_no_wait image earlier d st c.args.activity g (turn_same c.args.self.now d c.args.activity same c.requires.turn)) (before_same image c.args.self.now d c.args.activity (Leave c.args.lock) same c.requires.before) work)

pub release-requires-clause-stood : goal.release-requires-clause-stood
release-requires-clause-stood c = subst (λ l. IsStood l) (sym c.go_past.ensures.line) (turn_same c.args.self.now c.reserve_event.new.self c.args.activity c.reserve_event.ensures.same c.requires.turn).on.stood

pub release-requires-clause-stack : goal.release-requires-clause-stack
release-requires-clause-stack c = subst (λ s. HasRooms c.args.image.now s) (sym (c.go_past.ensures.stack ∙ c.reserve_event.ensures.same.stack)) c.requires.stack
