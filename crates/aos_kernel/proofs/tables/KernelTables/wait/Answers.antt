use Rattle.std.proofs.Common.{◌<◌, ◌+◌, ◌∙◌, refl, sym, subst}
use Rattle.std.specs.Prelude.{Vec, vec_len, vec_capacity}
use Rattle.std.specs.declared.alloc.Global.{Global}
use Rattle.aos_base.specs.declared.kernel.Event.{Event}
use Rattle.std.proofs.lemmas.Result.{on_ok_weaker, on_err_weaker}
use Rattle.aos_base.specs.declared.kernel.Did.TheVariants.{Await}
use Rattle.aos_base.specs.declared.kernel.Verdict.{Verdict}
use Rattle.aos_base.specs.Machine.{await}
use Rattle.aos_code.specs.Machine.{machine}
use Rattle.aos_kernel.specs.Conditions.{HasRooms}
use Rattle.aos_kernel.specs.Shows.{Shows}
use Rattle.aos_kernel.proofs.Rows.{runs_live}
use Rattle.aos_kernel.proofs.TablesShown.{shows_same, shown_same, turn_same, turn_judged, turns_no_wait, before_same, before_known, awaits_known, on_err}
use Rattle.aos_kernel.proofs.tables.KernelTables.wait.Goals as goal

pub returns-in_err-reserve_pair-clause-err : goal.returns-in_err-reserve_pair-clause-err
returns-in_err-reserve_pair-clause-err c = on_err c.from_residual.result (shown_same c.args.image.now c.args.self.now c.reserve_pair.new.self c.reserve_pair.ensures.same)

pub begin_wait-requires : goal.begin_wait-requires
begin_wait-requires c = turn_same c.args.self.now c.reserve_pair.new.self c.args.activity c.reserve_pair.ensures.same c.requires.turn

pub returns-in_err-begin_wait-clause-err : goal.returns-in_err-begin_wait-clause-err
returns-in_err-begin_wait-clause-err c =
    on_err c.from_residual-in_err-begin_wait.result (λ earlier st h. c.begin_wait.ensures.same earlier st (shows_same c.args.image.now earlier c.args.self.now c.reserve_pair.new.self st c.reserve_pair.ensures.same h))

pub judge-requires : goal.judge-requires
judge-requires c = subst (λ s. HasRooms c.args.image.now s) (sym (c.begin_wait.ensures.stack ∙ c.reserve_pair.ensures.same.stack)) c.requires.stack

-- the tables before the verdict
pub returns-in-Holds-clause-ok : goal.returns-in-Holds-clause-ok
returns-in-Holds-clause-ok c earlier st h work =
    let image = c.args.image.now in
    let a = c.args.activity in
    let d1 = c.reserve_pair.new.self in
    let d2 = c.begin_wait.new.self in
    let d3 = c.judge.new.self in
    let left = Await c.args.lock c.args.condition in
    let h2 = c.begin_wait.ensures.same earlier st (shows_same image earlier c.args.self.now d1 st c.reserve_pair.ensures.same h) in
    let before2 = c.in_ok-begin_wait.ensures.before left (before_same image c.args.self.now d1 a left c.reserve_pair.ensures.same c.requires.before) in
    let told = c.judge.ensures.verdict earlier st c.args.lock c.args.condition h2 (before2, work) c.in_ok-begin_wait.ensures.awaits in
    subst (λ (v : Verdict). Shows image earlier c.go_past.new.self (await (machine image) a c.args.lock c.args.condition v st)) (sym c.in-Holds.is ∙ told)
    (c.go_past.ensures.past image earlier st (c.judge.ensures.same earlier st h2) refl (turns_no_wait image earlier d2 st a h2 c.in_ok-begin_wait.ensures.turn)
    (before_known image d2.activities.items d3.activities.items a left c.judge.ensures.known before2) work)

pub returns-in-Traps-clause-ok : goal.returns-in-Traps-clause-ok
returns-in-Traps-clause-ok c =
    on_ok_weaker c.trap.result
    (λ done earlier st h work.
    let image = c.args.image.now in
    let a = c.args.activity in
    let d1 = c.reserve_pair.new.self in
    let left = Await c.args.lock c.args.condition in
    let h2 = c.begin_wait.ensures.same earlier st (shows_same image earlier c.args.self.now d1 st c.reserve_pair.ensures.same h) in
    let before2 = c.in_ok-begin_wait.ensures.before left (before_same image c.args.self.now d1 a left c.reserve_pair.ensures.same c.requires.before) in
    let told = c.judge.ensures.verdict earlier st c.args.lock c.args.condition h2 (before2, work) c.in_ok-begin_wait.ensures.awaits in
    subst (λ (v : Verdict). Shows image earlier c.trap.new.self (await (machine image) a c.args.lock c.args.condition v st)) (sym c.in-Traps.is ∙ told) (done earlier st (c.judge.ensures.same earlier st h2)))
    c.trap.ensures.ok

pub returns-in-Traps-clause-err : goal.returns-in-Traps-clause-err
returns-in-Traps-clause-err c =
    on_err_weaker c.trap.result
    (λ still earlier st h. still earlier st (c.judge.ensures.same earlier st (c.begin_wait.ensures.same earlier st (shows_same c.args.image.now earlier c.args.self.now c.reserve_pair.new.self st c.reserve_pair.ensures.same h)))) c.trap.ensures.err

pub trap-requires-clause-turn : goal.trap-requires-clause-turn
trap-requires-clause-turn c = turn_judged c.begin_wait.new.self c.judge.new.self c.args.activity c.judge.ensures.known c.judge.ensures.line c.in_ok-begin_wait.ensures.turn

pub trap-requires-clause-live : goal.trap-requires-clause-live
trap-requires-clause-live c kept at =
    let left = Await c.args.lock c.args.condition in
    let image = c.args.image.now in
    let before2 = c.in_ok-begin_wait.ensures.before left (before_same image c.args.self.now c.reserve_pair.new.self c.args.activity left c.reserve_pair.ensures.same c.requires.before) in
    runs_live kept.next (before_known image c.begin_wait.new.self.activities.items c.judge.new.self.activities.items c.args.activity left c.judge.ensures.known before2 kept at).0

pub give_way-requires-clause-turn : goal.give_way-requires-clause-turn
give_way-requires-clause-turn c = turn_judged c.begin_wait.new.self c.judge.new.self c.args.activity c.judge.ensures.known c.judge.ensures.line c.in_ok-begin_wait.ensures.turn

pub give_way-requires-clause-room : goal.give_way-requires-clause-room
give_way-requires-clause-room c = subst (λ (v : Vec Event Global). vec_len v + 1 < vec_capacity v) (sym (c.judge.ensures.events ∙ c.begin_wait.ensures.events)) c.in_ok-reserve_pair.ensures.room

pub returns-in-Fails-clause-ok : goal.returns-in-Fails-clause-ok
returns-in-Fails-clause-ok c =
    let image = c.args.image.now in
    let a = c.args.activity in
    let d1 = c.reserve_pair.new.self in
    let d2 = c.begin_wait.new.self in
    let d3 = c.judge.new.self in
    let left = Await c.args.lock c.args.condition in
    let before2 = c.in_ok-begin_wait.ensures.before left (before_same image c.args.self.now d1 a left c.reserve_pair.ensures.same c.requires.before) in
    let awaits2 = c.in_ok-begin_wait.ensures.awaits in
    on_ok_weaker c.give_way.result
    (λ done earlier st h work.
    let h2 = c.begin_wait.ensures.same earlier st (shows_same image earlier c.args.self.now d1 st c.reserve_pair.ensures.same h) in
    let told = c.judge.ensures.verdict earlier st c.args.lock c.args.condition h2 (before2, work) awaits2 in
    subst (λ (v : Verdict). Shows image earlier c.give_way.new.self (await (machine image) a c.args.lock c.args.condition v st)) (sym c.in-Fails.is ∙ told) (done earlier st (c.judge.ensures.same earlier st h2) work))
    (c.give_way.ensures.ok c.args.condition (awaits_known d2.activities.items d3.activities.items a c.args.condition c.judge.ensures.known awaits2) (before_known image d2.activities.items d3.activities.items a left c.judge.ensures.known before2))

pub returns-in-Fails-clause-err : goal.returns-in-Fails-clause-err
returns-in-Fails-clause-err c =
    on_err_weaker c.give_way.result
    (λ still earlier st h. still earlier st (c.judge.ensures.same earlier st (c.begin_wait.ensures.same earlier st (shows_same c.args.image.now earlier c.args.self.now c.reserve_pair.new.self st c.reserve_pair.ensures.same h)))) c.give_way.ensures.err
