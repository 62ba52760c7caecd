-- Frames that fit a sound image and have room do so behind what a turn does to them.
use Rattle.std.proofs.Common.{◌≡◌, ◌<◌, ◌+◌, ◌-◌, ◌^◌, ℕ, Vec, Global, List, [], ◌∷◌, length, drop, reverse, refl, sym, subst, arith}
use Rattle.std.specs.Prelude.{Bool, true, false, Option, Some, None, Result, Ok, Err, IfOk, OnErr, slice_get, slice_set}
use Rattle.aos_base.specs.declared.text.Pos.{Pos}
use Rattle.aos_base.specs.declared.kernel.Did.{Did}
use Rattle.aos_base.specs.declared.kernel.Did.TheVariants.{Ended as NoFrame, Went, Start, Enter, Leave, Await, Trapped}
use Rattle.aos_base.specs.Question.{Starts, Enters, Leaves, Awaits}
use Rattle.aos_base.specs.Rooted.{Made}
use Rattle.aos_code.specs.declared.instr.Cell.TheVariants.{Ref}
use Rattle.aos_code.specs.declared.image.Image.{Image}
use Rattle.aos_code.specs.Memory.{Memory}
use Rattle.aos_code.specs.Silent.{Question}
use Rattle.aos_code.specs.Machine.{Frame, opened, is_passed, code_of}
use Rattle.aos_sound.specs.Fits.{KeepsToPaths, StandsOn, StandsAsked, StandsStopped}
use Rattle.aos_sound.specs.FitFrames.{IsSoundImage, FitFor, AreToFollow, FramesFit, depth_of}
use Rattle.aos_sound.proofs.FitsFrames.{stop_stands, answer_fits, opened_fits}
use Rattle.aos_store.specs.declared.frames.Frame.{Frame as KeptFrame}
use Rattle.aos_store.specs.declared.frames.Frames.{Frames as KeptFrames}
use Rattle.aos_store.specs.Store.{frame_in, list_in, frames_in}
use Rattle.aos_store.specs.Room.{HasMoreRoom, AreRoomyFor}
use Rattle.aos_store.proofs.Rooms.{roomy_set}
use Rattle.aos_silent_steps.specs.declared.act.Question.{Question as KeptQuestion}
use Rattle.aos_silent_steps.specs.declared.silent.Stop.TheVariants.{Work as AtWork, Begins as AtBegin}
use Rattle.aos_silent_steps.specs.Acts.{question_in, operands_of}
use Rattle.aos_silent_steps.specs.Room.{StandsInRoom, keeps_for, AreRoomy, FitInRoom, StayFit}
use Rattle.aos_cpu.specs.Answers.{begun_at}
use Rattle.aos_cpu.specs.Turns.{StandsAtStop, HasAnswered, Same, IsBefore, IsBeforeAsking, operands_left, open_behind}
use Rattle.aos_cpu.proofs.Turns.{all_but_top, list_top, list_set}
use Rattle.aos_cpu.proofs.InRoom.{top_paths, top_stands, top_few, still_fit, still_roomy}

-- frames that are the same, with no less room
pub same_stay : (image : Image) (old new : KeptFrames) → frames_in new ≡ frames_in old → (AreRoomy image old → AreRoomy image new) → StayFit image old new
same_stay image old new e room whole fit = (subst (FramesFit image) (sym e) fit.0, room fit.1)

-- where there was no frame the next body is open
pub opened_stay : (image : Image) (old new : KeptFrames) → frames_in new ≡ opened (frames_in old) → (AreRoomy image old → AreRoomy image new) → StayFit image old new
opened_stay image old new e room whole fit = (subst (FramesFit image) (sym e) (opened_fits image whole (frames_in old) fit.0), room fit.1)

-- the topmost frame has done silent work
pub silent_stay : (A : Type 0) (image : Image) (mid : KeptFrames) (n above : ℕ) (f g : KeptFrame) → n ≡ length mid.list.items → above ≡ n - 1 → slice_get mid.list.items (n - 1) ≡ Some f → g.procedure ≡ f.procedure →
    ((depth : ℕ) → KeepsToPaths image f.procedure (code_of image f.procedure) depth → above < 2 ^ 32 → StandsInRoom image depth (keeps_for image f.procedure) (code_of image f.procedure) f →
    A × StandsInRoom image depth (keeps_for image f.procedure) (code_of image f.procedure) g) → IsSoundImage image → FitInRoom image mid →
    FramesFit image (record { following = reverse mid.following.items; frames = list_in (slice_set mid.list.items (n - 1) g) }) × AreRoomyFor (depth_of image) (keeps_for image) (slice_set mid.list.items (n - 1) g)
silent_stay A image mid n above f g len is here own room whole fit =
    let stands = top_stands image whole mid fit.0 fit.1 n f len here in
    let paths = top_paths image whole mid fit.0 fit.1 n f len here in
    let few = top_few image whole mid fit.0 fit.1 n f len here in
    let small : above < 2 ^ 32 = omega (arith, few, is) in
    let now = (room (depth_of image f.procedure) paths small stands).1 in
    (still_fit image whole mid fit.0 fit.1 n f len here g own now, still_roomy image whole mid fit.0 fit.1 n f len here g own now)

-- the question at which the topmost frame stands has been answered
answered_fit : (image : Image) (made : ℕ → Option Made) (q : KeptQuestion) (at : ℕ) (old new : KeptFrames) (mem mem' : Memory) (did : Did) (before after : List ℕ) → IsSoundImage image →
    StandsAtStop image made (AtWork q at) (list_in old.list.items) → HasAnswered image q at old new mem mem' did before after → FramesFit image (frames_in old) → FramesFit image (frames_in new)
answered_fit image made q at old new mem mem' did before after whole stands answered fit = by (list_in old.list.items) refl stands
  where
    by : (l : List Frame) → list_in old.list.items ≡ l → StandsAtStop image made (AtWork q at) l → FramesFit image (frames_in new)
    by [] e x = absurd x
    by (f ∷ fs) e x =
        let has = answered f fs e in
        let fits : FitFor image None (f ∷ fs) = subst (FitFor image None) e fit.0 in
        let asked : StandsAsked image f.procedure (code_of image f.procedure) (question_in q f.stack) at (drop (operands_of q) f.stack) =
        subst (StandsStopped image f.procedure (code_of image f.procedure)) x.0 (stop_stands image whole made f fs fits) in
        subst (FramesFit image) has.frames (answer_fits image whole (reverse old.following.items) fit.1 f fs fits at f.keeps (drop (operands_of q) f.stack) mem (question_in q f.stack) asked).0

pub answered_stay : {B : Type 0} (image : Image) (made : ℕ → Option Made) (q : KeptQuestion) (at : ℕ) (old new : KeptFrames) (mem mem' : Memory) (before after : List ℕ) (r : Result Did B) →
    StandsAtStop image made (AtWork q at) (list_in old.list.items) → IfOk r (λ did. HasAnswered image q at old new mem mem' did before after) → OnErr r (Same old new mem mem' before after) →
    (AreRoomy image old → AreRoomy image new) → StayFit image old new
answered_stay image made q at old new mem mem' before after (Ok did) stands answered same room whole fit =
    (answered_fit image made q at old new mem mem' did before after whole stands answered fit.0, room fit.1)
answered_stay image made q at old new mem mem' before after (Err e) stands answered same room whole fit = (subst (FramesFit image) (sym same.frames) fit.0, room fit.1)

-- the topmost frame has begun a statement
pub begun_stay : (image : Image) (made : ℕ → Option Made) (at : ℕ) (pos : Pos) (old new : KeptFrames) → StandsAtStop image made (AtBegin at pos) (list_in old.list.items) →
    ((f : Frame) (fs : List Frame) → list_in old.list.items ≡ f ∷ fs → list_in new.list.items ≡ begun_at at pos f ∷ fs) → new.following ≡ old.following → (AreRoomy image old → AreRoomy image new) → StayFit image old new
begun_stay image made at pos old new stands begun same room whole fit = (by (list_in old.list.items) refl stands, room fit.1)
  where
    by : (l : List Frame) → list_in old.list.items ≡ l → StandsAtStop image made (AtBegin at pos) l → FramesFit image (frames_in new)
    by [] e x = absurd x
    by (f ∷ fs) e x =
        let fits : FitFor image None (f ∷ fs) = subst (FitFor image None) e fit.0.0 in
        let on = subst (StandsStopped image f.procedure (code_of image f.procedure)) x.0 (stop_stands image whole made f fs fits) in
        (subst (FitFor image None) (sym (begun f fs e)) (fits.0, on.2, fits.2), subst (λ (ps : Vec ℕ Global). AreToFollow image (reverse ps.items)) (sym same) fit.0.1)

-- the topmost frame has gone past work that was left to the kernel
passed_by_stay : (image : Image) (q : Question) (taken : ℕ) (old : KeptFrames) (n : ℕ) (f g : KeptFrame) (next : ℕ) (is_open : Bool) →
    (StandsAsked image f.procedure (code_of image f.procedure) q f.next (drop taken (frame_in f).stack) → StandsOn image f.procedure (code_of image f.procedure) (f.next + 1) (drop taken (frame_in f).stack)) →
    n ≡ length old.list.items → slice_get old.list.items (n - 1) ≡ Some f → IsBeforeAsking image q taken (list_in old.list.items) → (f.next + 1 < 2 ^ 64 → next ≡ f.next + 1) →
    frame_in g ≡ record (frame_in f) { next = next; is_open = is_open; stack = drop taken (frame_in f).stack } → HasMoreRoom f g → IsSoundImage image → FitInRoom image old →
    FramesFit image (record { following = reverse old.following.items; frames = list_in (slice_set old.list.items (n - 1) g) }) × AreRoomyFor (depth_of image) (keeps_for image) (slice_set old.list.items (n - 1) g)
passed_by_stay image q taken old n f g next is_open on len here before small is more whole fit =
    let top = frame_in f in
    let rest = list_in (all_but_top old.list.items) in
    let tops = list_top old.list.items n f len here in
    let fits : FitFor image None (top ∷ rest) = subst (FitFor image None) tops fit.0.0 in
    let b = subst (IsBeforeAsking image q taken) tops before in
    let asked : StandsAsked image f.procedure (code_of image f.procedure) q f.next (drop taken top.stack) =
    subst (StandsStopped image f.procedure (code_of image f.procedure)) b.1 (stop_stands image whole (λ p. None) top rest fits) in
    let stands : StandsOn image f.procedure (code_of image f.procedure) next (drop taken top.stack) =
    subst (λ m. StandsOn image f.procedure (code_of image f.procedure) m (drop taken top.stack)) (sym (small b.0)) (on asked) in
    let now : FitFor image None (frame_in g ∷ rest) = subst (λ (x : Frame). FitFor image None (x ∷ rest)) (sym is) (fits.0, stands, fits.2) in
    ((subst (FitFor image None) (sym (list_set old.list.items n f g len here)) now, fit.0.1), roomy_set (depth_of image) (keeps_for image) old.list.items (n - 1) f g here more fit.1)

pub passed_stay : (image : Image) (did : Did) (old : KeptFrames) (n : ℕ) (f g : KeptFrame) (next : ℕ) → is_passed did ≡ true → n ≡ length old.list.items → slice_get old.list.items (n - 1) ≡ Some f →
    IsBefore image did (frames_in old) → (f.next + 1 < 2 ^ 64 → next ≡ f.next + 1) →
    frame_in g ≡ record (frame_in f) { next = next; is_open = open_behind did (frame_in f).is_open; stack = drop (operands_left did) (frame_in f).stack } → HasMoreRoom f g → IsSoundImage image → FitInRoom image old →
    FramesFit image (record { following = reverse old.following.items; frames = list_in (slice_set old.list.items (n - 1) g) }) × AreRoomyFor (depth_of image) (keeps_for image) (slice_set old.list.items (n - 1) g)
passed_stay image (Start o) old n f g next p len here before small is = passed_by_stay image (Starts (Ref o)) 1 old n f g next (frame_in f).is_open (λ x. x.2) len here before small is
passed_stay image (Enter l) old n f g next p len here before small is = passed_by_stay image Enters 0 old n f g next true (λ x. x.2) len here before small is
passed_stay image (Leave l) old n f g next p len here before small is = passed_by_stay image Leaves 0 old n f g next false (λ x. x.2) len here before small is
passed_stay image (Await l c) old n f g next p len here before small is = passed_by_stay image (Awaits c) 0 old n f g next (frame_in f).is_open (λ x. x.2) len here before small is
passed_stay image Went old n f g next p len here before small is = absurd (cc p)
passed_stay image NoFrame old n f g next p len here before small is = absurd (cc p)
passed_stay image (Trapped k c) old n f g next p len here before small is = absurd (cc p)
