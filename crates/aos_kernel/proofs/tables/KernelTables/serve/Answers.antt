use Rattle.std.proofs.Common.{◌≡◌, ◌∙◌, sym, subst}
use Rattle.std.proofs.lemmas.Result.{on_ok_weaker, on_err_weaker}
use Rattle.aos_base.specs.declared.kernel.Did.{Did}
use Rattle.aos_base.specs.declared.kernel.Did.TheVariants.{Went, Ended, Enter, Leave, Await, Start, Trapped}
use Rattle.aos_base.specs.Machine.{serve}
use Rattle.aos_code.specs.Machine.{machine}
use Rattle.aos_cpu.specs.Turns.{StandsAtWork}
use Rattle.aos_kernel.specs.Shows.{Shows, StandsBefore}
use Rattle.aos_kernel.proofs.Rows.{runs_live}
use Rattle.aos_kernel.proofs.TablesShown.{on_err}
use Rattle.aos_kernel.proofs.tables.KernelTables.serve.Goals as goal

pub returns-in-Went-clause-ok : goal.returns-in-Went-clause-ok
returns-in-Went-clause-ok c earlier st h work = subst (λ (x : Did). Shows c.args.image.now earlier c.args.self.now (serve (machine c.args.image.now) c.args.activity x st)) (sym c.in-Went.is) h

pub returns-in-Await-clause-ok : goal.returns-in-Await-clause-ok
returns-in-Await-clause-ok c =
    on_ok_weaker c.wait.result
    (λ done earlier st h work. subst (λ (x : Did). Shows c.args.image.now earlier c.wait.new.self (serve (machine c.args.image.now) c.args.activity x st)) (sym c.in-Await.is) (done earlier st h (subst (λ (x : Did). StandsAtWork c.args.image.now x (st.frames c.args.activity).frames) c.in-Await.is work)))
    c.wait.ensures.ok

pub returns-in-Await-clause-left : goal.returns-in-Await-clause-left
returns-in-Await-clause-left c = on_err c.wait.result (λ e. let z : Await c.in-Await.lock c.in-Await.condition ≡ Went = sym c.in-Await.is ∙ e in absurd (cc z))

pub wait-requires-clause-before : goal.wait-requires-clause-before
wait-requires-clause-before c = subst (λ (x : Did). StandsBefore c.args.image.now c.args.activity x c.args.self.now) c.in-Await.is c.requires.before

pub returns-in-Ended-clause-ok : goal.returns-in-Ended-clause-ok
returns-in-Ended-clause-ok c =
    on_ok_weaker c.ended.result
    (λ done earlier st h work. subst (λ (x : Did). Shows c.args.image.now earlier c.ended.new.self (serve (machine c.args.image.now) c.args.activity x st)) (sym c.in-Ended.is) (done c.args.image.now earlier st h))
    c.ended.ensures.ok

pub returns-in-Ended-clause-err : goal.returns-in-Ended-clause-err
returns-in-Ended-clause-err c = on_err_weaker c.ended.result (λ same. same c.args.image.now) c.ended.ensures.err

pub returns-in-Ended-clause-left : goal.returns-in-Ended-clause-left
returns-in-Ended-clause-left c = on_err c.ended.result (λ e. let z : Ended ≡ Went = sym c.in-Ended.is ∙ e in absurd (cc z))

pub returns-in-Trapped-clause-ok : goal.returns-in-Trapped-clause-ok
returns-in-Trapped-clause-ok c =
    on_ok_weaker c.trap.result
    (λ done earlier st h work. subst (λ (x : Did). Shows c.args.image.now earlier c.trap.new.self (serve (machine c.args.image.now) c.args.activity x st)) (sym c.in-Trapped.is) (done earlier st h))
    c.trap.ensures.ok

pub returns-in-Trapped-clause-left : goal.returns-in-Trapped-clause-left
returns-in-Trapped-clause-left c = on_err c.trap.result (λ e. let z : Trapped c.in-Trapped.number c.in-Trapped.code ≡ Went = sym c.in-Trapped.is ∙ e in absurd (cc z))

pub trap-requires-clause-live : goal.trap-requires-clause-live
trap-requires-clause-live c kept at = runs_live kept.next (c.requires.before kept at).0

pub returns-in-Enter-clause-ok : goal.returns-in-Enter-clause-ok
returns-in-Enter-clause-ok c =
    on_ok_weaker c.enter.result
    (λ done earlier st h work. subst (λ (x : Did). Shows c.args.image.now earlier c.enter.new.self (serve (machine c.args.image.now) c.args.activity x st)) (sym c.in-Enter.is) (done earlier st h (subst (λ (x : Did). StandsAtWork c.args.image.now x (st.frames c.args.activity).frames) c.in-Enter.is work)))
    c.enter.ensures.ok

pub returns-in-Enter-clause-left : goal.returns-in-Enter-clause-left
returns-in-Enter-clause-left c = on_err c.enter.result (λ e. let z : Enter c.in-Enter.lock ≡ Went = sym c.in-Enter.is ∙ e in absurd (cc z))

pub enter-requires-clause-before : goal.enter-requires-clause-before
enter-requires-clause-before c = subst (λ (x : Did). StandsBefore c.args.image.now c.args.activity x c.args.self.now) c.in-Enter.is c.requires.before

pub returns-in-Leave-clause-ok : goal.returns-in-Leave-clause-ok
returns-in-Leave-clause-ok c =
    on_ok_weaker c.leave.result
    (λ done earlier st h work. subst (λ (x : Did). Shows c.args.image.now earlier c.leave.new.self (serve (machine c.args.image.now) c.args.activity x st)) (sym c.in-Leave.is) (done earlier st h (subst (λ (x : Did). StandsAtWork c.args.image.now x (st.frames c.args.activity).frames) c.in-Leave.is work)))
    c.leave.ensures.ok

pub returns-in-Leave-clause-left : goal.returns-in-Leave-clause-left
returns-in-Leave-clause-left c = on_err c.leave.result (λ e. let z : Leave c.in-Leave.lock ≡ Went = sym c.in-Leave.is ∙ e in absurd (cc z))

pub leave-requires-clause-before : goal.leave-requires-clause-before
leave-requires-clause-before c = subst (λ (x : Did). StandsBefore c.args.image.now c.args.activity x c.args.self.now) c.in-Leave.is c.requires.before

pub returns-in-Start-clause-ok : goal.returns-in-Start-clause-ok
returns-in-Start-clause-ok c =
    on_ok_weaker c.start.result
    (λ done earlier st h work. subst (λ (x : Did). Shows c.args.image.now earlier c.start.new.self (serve (machine c.args.image.now) c.args.activity x st)) (sym c.in-Start.is) (done earlier st h (subst (λ (x : Did). StandsAtWork c.args.image.now x (st.frames c.args.activity).frames) c.in-Start.is work)))
    c.start.ensures.ok

pub returns-in-Start-clause-left : goal.returns-in-Start-clause-left
returns-in-Start-clause-left c = on_err c.start.result (λ e. let z : Start c.in-Start.object ≡ Went = sym c.in-Start.is ∙ e in absurd (cc z))

pub start-requires-clause-before : goal.start-requires-clause-before
start-requires-clause-before c = subst (λ (x : Did). StandsBefore c.args.image.now c.args.activity x c.args.self.now) c.in-Start.is c.requires.before
