use Rattle.std.proofs.Common.{◌≡◌, ◌<◌, ◌≤◌, ◌^◌, ℕ, List, replicate, refl, sym, ◌∙◌, ap, subst, arith}
use Rattle.std.specs.Prelude.{nat_lt, slice_get, slice_set, Some}
use Rattle.std.specs.Vec.{with_item}
use Rattle.std.proofs.lemmas.Option.{slice_get_read, slice_get_past}
use Rattle.aos_base.specs.Book as book
use Rattle.aos_base.specs.Book.{spent_by}
use Rattle.aos_base.specs.Machine.{State, Step, execution}
use Rattle.aos_code.specs.Memory.{Memory}
use Rattle.aos_code.specs.Machine.{Frames, machine, made_in}
use Rattle.aos_store.specs.Store.{frames_in, memory_in}
use Rattle.aos_cpu.specs.Turns.{Alike}
use Rattle.aos_cpu.specs.Many.{after_many, RunsOn}
use Rattle.aos_cpu.proofs.Turns.{none_other}
use Rattle.aos_settling.proofs.Tallies.{unspent}
use Rattle.aos_kernel.specs.declared.tables.KernelTables.{KernelTables}
use Rattle.aos_kernel.specs.declared.activity.Next.TheVariants.{Runs}
use Rattle.aos_kernel.specs.declared.activity.Activity.{Activity}
use Rattle.aos_kernel.specs.Shows.{Shows, ShowsFrames, next_in}
use Rattle.aos_kernel.proofs.TablesShown.{here_turns, shows_ran}
use Rattle.aos_kernel.proofs.Quietly.{none_happens, still_known, comes_so, tallies}
use Rattle.aos_kernel.proofs.tables.KernelTables.run_on.Goals as goal

pub returns-clause-made : goal.returns-clause-made
returns-clause-made c w earlier st h going on =
    let d = c.args.self.now in
    let a = c.args.activity in
    let image = c.args.image.now in
    let kept = c.in-Some.kept.now in
    let made = c.many-made.result in
    let gs = c.many-made.new.frames in
    let store = c.many-made.new.store in
    let now = memory_in store in
    let new : Activity = record kept { frames = gs } in
    let after : KernelTables = record d { store = store; activities = with_item d.activities a new; spent = c.spent_after-self.result } in
    let was = slice_get_read d.activities.items _ a kept refl c.in-Some.ensures.item.3.0 c.in-Some.ensures.item.1 in
    let told = subst (λ (xs : List Activity). (x : Activity) → slice_get xs a ≡ Some x → Runs ≡ x.next) c.deref.ensures.value c.in-Runs.ensures in
    let is_own = told kept was in
    let s = h.activities a kept was in
    let runs : (st.book.activity a).next ≡ book.Runs = s.next ∙ ap (λ n. next_in n kept.locks.items) (sym is_own) in
    let alike : Alike image (made_in image (memory_in d.store)) (st.frames a) (frames_in kept.frames) =
    subst (λ n. ShowsFrames image (made_in image (memory_in d.store)) n (st.frames a) kept.frames) (sym is_own) s.frames in
    let r = subst (λ (x : Memory × ℕ). RunsOn image d.budget made (record { store = x.0; frames = st.frames a; begun = x.1 }) now (frames_in gs) gs.begun) (λ i. (sym h.store i, sym s.begun i))
    (c.many-made.ensures.made (st.frames a) alike) in
    let small : d.budget < 2 ^ 64 = omega arith in
    let all : made ≤ made = omega arith in
    let comes = comes_so image w a d.budget made st now (frames_in gs) gs.begun going on runs h.budget small r in
    let knows = still_known image w a d.budget made st now (frames_in gs) gs.begun going on runs h.budget small r (memory_in d.store) h.store in
    let tallied = tallies image w a d.budget made st now (frames_in gs) gs.begun going on runs h.budget small r in
    let set = ap (λ n. slice_set d.activities.items a (record kept { next = n; frames = gs })) (sym is_own) in
    let spends : spent_by (nat_lt c.begun-before.result c.begun-begun.result) d.budget c.begun-begun.result a d.spent ≡ spent_by (nat_lt kept.frames.begun gs.begun) d.budget gs.begun a d.spent =
    (λ i. spent_by (nat_lt (c.begun-before.ensures i) (c.begun-begun.ensures i)) d.budget (c.begun-begun.ensures i) a d.spent) in
    record {
      shows = subst (λ (x : State Memory Frames). Shows image earlier after x) (sym comes)
          (shows_ran image earlier d st a h c.requires store (with_item d.activities a new) gs kept c.spent_after-self.result (after_many image made (record { store = st.store; frames = st.frames a; begun = (st.book.activity a).begun })).frames
          _ was set (unspent st.book going) runs knows r.alike tallied (λ whole. c.many-made.ensures.fit whole (s.fits whole)) (c.spent_after-self.ensures ∙ spends));
      quiet = none_happens image w a d.budget made st now (frames_in gs) gs.begun going on runs h.budget small r;
    }

pub returns-in_default-clause-made : goal.returns-in_default-clause-made
returns-in_default-clause-made c w earlier st h going on =
    record { shows = h; quiet = λ i most. (let none : i ≡ 0 = omega (arith, most) in ap (λ k. (execution (machine c.args.image.now) (replicate k (Step w)) st).book.events) none) }

pub returns-in_default-get_mut-clause-made : goal.returns-in_default-get_mut-clause-made
returns-in_default-get_mut-clause-made c w earlier st h going on =
    let d = c.args.self.now in
    let k = here_turns c.args.image.now earlier d st c.args.activity h c.requires in
    absurd (none_other k.0 (sym (slice_get_past d.activities.items c.args.activity c.in_default-get_mut.ensures.item.3) ∙ k.1))
