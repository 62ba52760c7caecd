use Rattle.std.proofs.Common.{refl, sym, ap, ◌∙◌, subst}
use Rattle.std.specs.Prelude.{Some, slice_get}
use Rattle.std.specs.Vec.{with_item}
use Rattle.std.proofs.lemmas.Option.{slice_get_read}
use Rattle.aos_code.specs.Memory.{Memory}
use Rattle.aos_code.specs.Machine.{made_in}
use Rattle.aos_store.specs.Store.{frames_in, memory_in}
use Rattle.aos_cpu.specs.Turns.{Alike}
use Rattle.aos_cpu.proofs.Own.{nothing_made}
use Rattle.aos_kernel.specs.declared.activity.Next.TheVariants.{Lent}
use Rattle.aos_kernel.specs.declared.activity.Activity.{Activity}
use Rattle.aos_store.specs.declared.frames.Frames.{Frames as Kept}
use Rattle.aos_kernel.specs.Lends.{GoesOut}
use Rattle.aos_kernel.specs.Shows.{ShowsFrames}
use Rattle.aos_kernel.proofs.TablesShown.{shows_lent, shows_silent}
use Rattle.aos_kernel.proofs.tables.KernelTables.take_frames.Goals as goal

pub returns-then-not-branch-clause-same : goal.returns-then-not-branch-clause-same
returns-then-not-branch-clause-same c earlier st h =
    let d = c.args.self.now in
    let a = c.args.activity in
    let kept = c.in-Some.kept.now in
    let later = c.is_next_private.new.frames in
    let new : Activity = record kept { frames = later } in
    let was = slice_get_read d.activities.items _ a kept refl c.in-Some.ensures.item.3.0 c.in-Some.ensures.item.1 in
    shows_silent c.args.image.now earlier d st d.store (with_item d.activities a new) d.output d.spent a kept later c.requires.turn was (c.requires.runs kept was) refl
    (record { alike = λ all knows. c.is_next_private.ensures.alike all (nothing_made all); begun = c.is_next_private.ensures.counts.0; memory = refl; output = refl }) c.is_next_private.ensures.fit refl h

pub returns-in_err-is_next_private-clause-same : goal.returns-in_err-is_next_private-clause-same
returns-in_err-is_next_private-clause-same c earlier st h =
    let d = c.args.self.now in
    let a = c.args.activity in
    let kept = c.in-Some.kept.now in
    let later = c.is_next_private.new.frames in
    let new : Activity = record kept { frames = later } in
    let was = slice_get_read d.activities.items _ a kept refl c.in-Some.ensures.item.3.0 c.in-Some.ensures.item.1 in
    shows_silent c.args.image.now earlier d st d.store (with_item d.activities a new) d.output d.spent a kept later c.requires.turn was (c.requires.runs kept was) refl
    (record { alike = λ all knows. c.is_next_private.ensures.alike all (nothing_made all); begun = c.is_next_private.ensures.counts.0; memory = refl; output = refl }) c.is_next_private.ensures.fit refl h

pub returns-then-not-branch-clause-none : goal.returns-then-not-branch-clause-none
returns-then-not-branch-clause-none c earlier st h =
    let d = c.args.self.now in
    let a = c.args.activity in
    let image = c.args.image.now in
    let kept = c.in-Some.kept.now in
    let later = c.is_next_private.new.frames in
    let was = slice_get_read d.activities.items _ a kept refl c.in-Some.ensures.item.3.0 c.in-Some.ensures.item.1 in
    let shown = subst (λ n. ShowsFrames image (made_in image (memory_in d.store)) n (st.frames a) kept.frames) (sym (c.requires.runs kept was)) (h.activities a kept was).frames in
    let at_first = subst (λ (m : Memory). Alike image (made_in image m) (st.frames a) (frames_in kept.frames)) (sym h.store) shown in
    (frames_in later, (λ all knows. at_first all knows ∙ c.is_next_private.ensures.alike all (nothing_made all)), sym c.in_ok-is_next_private.ensures.is ∙ c.if-not-branch.true)

pub returns-clause-out : goal.returns-clause-out
returns-clause-out c earlier st h =
    let d = c.args.self.now in
    let a = c.args.activity in
    let image = c.args.image.now in
    let kept = c.in-Some.kept.now in
    let later = c.is_next_private.new.frames in
    let was = slice_get_read d.activities.items _ a kept refl c.in-Some.ensures.item.3.0 c.in-Some.ensures.item.1 in
    let shown = subst (λ n. ShowsFrames image (made_in image (memory_in d.store)) n (st.frames a) kept.frames) (sym (c.requires.runs kept was)) (h.activities a kept was).frames in
    let at_first = subst (λ (m : Memory). Alike image (made_in image m) (st.frames a) (frames_in kept.frames)) (sym h.store) shown in
    let out : GoesOut image a later st = record {
      private = sym c.in_ok-is_next_private.ensures.is ∙ c.if-not-branch.false;
      alike = λ all knows. at_first all knows ∙ c.is_next_private.ensures.alike all (nothing_made all);
      begun = c.is_next_private.ensures.counts.0 ∙ sym (h.activities a kept was).begun;
      fits = λ whole. c.is_next_private.ensures.fit whole ((h.activities a kept was).fits whole);
    } in
    subst (λ (f : Kept). GoesOut image a f st) (sym c.replace.ensures.value) out

pub returns-clause-same : goal.returns-clause-same
returns-clause-same c earlier st h =
    let d = c.args.self.now in
    let a = c.args.activity in
    let kept = c.in-Some.kept.now in
    let was = slice_get_read d.activities.items _ a kept refl c.in-Some.ensures.item.3.0 c.in-Some.ensures.item.1 in
    let left = c.replace.new.dest in
    let new : Activity = record kept { next = Lent; frames = left } in
    shows_lent c.args.image.now earlier d st a h c.requires.turn (with_item d.activities a new) left kept was (c.requires.runs kept was) refl (ap (λ (f : Kept). f.begun) c.replace.ensures.after ∙ c.is_next_private.ensures.counts.0) (ap frames_in c.replace.ensures.after ∙ c.new-left.ensures.frames)
