use Rattle.std.proofs.Common.{◌≡◌, ◌∙◌, refl, sym, subst, List}
use Rattle.std.specs.Prelude.{slice_get, Some}
use Rattle.aos_base.specs.declared.kernel.Did.{Did}
use Rattle.aos_base.specs.declared.kernel.Did.TheVariants.{Await}
use Rattle.aos_base.specs.declared.kernel.Verdict.{Verdict}
use Rattle.aos_cpu.specs.Turns.{StandsAtWork}
use Rattle.aos_kernel.specs.declared.activity.Activity.{Activity}
use Rattle.aos_kernel.specs.declared.tables.KernelTables.{KernelTables}
use Rattle.aos_kernel.specs.Shows.{Shows, StandsBefore, goes_or_traps}
use Rattle.aos_kernel.proofs.TablesShown.{before_known, awaits_known}
use Rattle.aos_kernel.proofs.Handing.{traps_next, goes_on}
use Rattle.aos_kernel.proofs.tables.KernelTables.wake_waiter.Goals as goal

pub returns-in-Traps : goal.returns-in-Traps
returns-in-Traps c earlier st condition h at awaits out =
    let image = c.args.image.now in
    let old = c.args.self.now.activities.items in
    let mid = c.judge.new.self in
    let a = c.args.heir in
    let known = c.judge.ensures.known in
    let new : KernelTables = record mid { activities = c.set_will_trap.new.activities } in
    subst (λ (v : Verdict). Shows image earlier new (goes_or_traps image a v st)) (sym c.in-Traps.is ∙ c.judge.ensures.verdict earlier st c.args.lock condition h at awaits)
    (traps_next image earlier mid st a c.in-Traps.number condition c.args.lock c.set_will_trap.new.activities (c.judge.ensures.same earlier st h) out (before_known image old mid.activities.items a (Await c.args.lock condition) known at.0)
    (awaits_known old mid.activities.items a condition known awaits) c.set_will_trap.ensures)

pub returns-in_default : goal.returns-in_default
returns-in_default c earlier st condition h at awaits out =
    let image = c.args.image.now in
    let old = c.args.self.now.activities.items in
    let mid = c.judge.new.self in
    let a = c.args.heir in
    let known = c.judge.ensures.known in
    let before = before_known image old mid.activities.items a (Await c.args.lock condition) known at.0 in
    let still = awaits_known old mid.activities.items a condition known awaits in
    let told = subst (λ (xs : List Activity). (kept : Activity) → slice_get xs a ≡ Some kept → c.condition_of-condition.result ≡ kept.condition) c.deref.ensures.value c.condition_of-condition.ensures in
    let same : Await c.args.lock condition ≡ Await c.args.lock c.condition_of-condition.result = (λ i. Await c.args.lock ((still.2.0 ∙ sym (told still.0 still.1)) i)) in
    goes_on image earlier c.go_past.new.self st a c.judge.result (λ n e. c.in_default.not-Traps n e) _ (c.judge.ensures.verdict earlier st c.args.lock condition h at awaits)
    (c.go_past.ensures.past image earlier st (c.judge.ensures.same earlier st h) refl out (subst (λ (x : Did). StandsBefore image a x mid) same before) (subst (λ (x : Did). StandsAtWork image x (st.frames a).frames) same at.1))
