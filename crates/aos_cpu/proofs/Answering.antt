-- What is answered for any image is answered for this one.
use Rattle.std.proofs.Common.{◌≡◌, ℕ, List, ◌∷◌, drop, reverse, refl, sym, ap, ◌∙◌, subst}
use Rattle.std.proofs.lemmas.List.{append-nil}
use Rattle.std.specs.Prelude.{Result, IfOk, false}
use Rattle.aos_base.specs.declared.text.NoMemory.{NoMemory}
use Rattle.aos_base.specs.declared.kernel.Did.{Did}
use Rattle.aos_base.specs.declared.kernel.LockName.{LockName}
use Rattle.aos_code.specs.declared.image.Image.{Image}
use Rattle.aos_code.specs.Memory.{Memory}
use Rattle.aos_code.specs.Silent.{Stack, Question}
use Rattle.aos_code.specs.Numbered.{numbered}
use Rattle.aos_code.specs.Machine.{asker, Frame, Frames, Turned, answer, before as before_it, leaves, lock_in}
use Rattle.aos_store.specs.declared.frames.Frames.{Frames as KeptFrames}
use Rattle.aos_store.specs.Store.{list_in, frames_in}
use Rattle.aos_silent_steps.specs.declared.act.Question.{Question as KeptQuestion}
use Rattle.aos_silent_steps.specs.Acts.{question_in, operands_of}
use Rattle.aos_cpu.specs.Answers.{Made, IsAnswered}
use Rattle.aos_cpu.specs.Turns.{HasAnswered, Stands}
use Rattle.aos_silent_steps.proofs.Oks.{ok_more}

module _ (image : Image) (kept : KeptQuestion) (q : Question) (at taken : ℕ) (same : (s : Stack) → question_in kept s ≡ q) (count : operands_of kept ≡ taken) (old new : KeptFrames) (mem now : Memory) (before after : List ℕ) where
  pub has_answered : (did : Did) → IsAnswered q at taken old new mem now did before after → HasAnswered image kept at old new mem now did before after
  has_answered did h f fs is =
      subst (λ (p : Question × ℕ). Made (answer (reverse old.following.items) image.shapes.items image.types.items p.0 (asker at f.keeps (drop p.1 f.stack) f fs mem)) false did (frames_in new) now before after)
      (λ i. (sym (same f.stack) i, sym count i)) (h image.shapes.items image.types.items f fs is)

  pub has_ok : (r : Result Did NoMemory) → IfOk r (λ did. IsAnswered q at taken old new mem now did before after) → IfOk r (λ did. HasAnswered image kept at old new mem now did before after)
  has_ok r h = ok_more r (λ did. IsAnswered q at taken old new mem now did before after) (λ did. HasAnswered image kept at old new mem now did before after) has_answered h

-- work on the topmost frame's lock is left to the kernel
pub left_answered : (image : Image) (kept : KeptQuestion) (work : LockName → Did) (l : LockName) (at : ℕ) (old : KeptFrames) (mem : Memory) (out : List ℕ) → Stands kept at old →
    ((following : List ℕ) (f : Frame) (fs : List Frame) → answer following image.shapes.items image.types.items (question_in kept f.stack) (asker at f.keeps (drop (operands_of kept) f.stack) f fs mem)
    ≡ leaves following (work (lock_in (numbered image.shapes.items f.procedure) f)) (before_it following at f.keeps f.stack f ∷ fs) mem) →
    ((f : Frame) (fs : List Frame) → list_in old.list.items ≡ f ∷ fs → l ≡ lock_in (numbered image.shapes.items f.procedure) f) →
    HasAnswered image kept at old old mem mem (work l) out out
left_answered image kept work l at old mem out stands asks is_lock f fs is =
    let following = reverse old.following.items in
    let there : at ≡ f.next = (stands f fs is).0 in
    let now : (let x : Frames = record { following = following; frames = before_it following at f.keeps f.stack f ∷ fs } in x) ≡ frames_in old =
    (λ i. (let x : Frames = record { following = following; frames = record f { next = there i } ∷ fs } in x))
    ∙ ap (λ xs. (let x : Frames = record { following = following; frames = xs } in x)) (sym is) in
    subst (λ (t : Turned). Made t false (work l) (frames_in old) mem out out) (sym (asks following f fs))
    (record { store = refl; frames = now; output = sym (append-nil out); begun = refl; left = ap work (sym (is_lock f fs is)) })

-- where this is the question
pub left_in : (image : Image) (q kept : KeptQuestion) (work : LockName → Did) (l : LockName) (at : ℕ) (old : KeptFrames) (mem : Memory) (out : List ℕ) → q ≡ kept → Stands q at old →
    ((following : List ℕ) (f : Frame) (fs : List Frame) → answer following image.shapes.items image.types.items (question_in kept f.stack) (asker at f.keeps (drop (operands_of kept) f.stack) f fs mem)
    ≡ leaves following (work (lock_in (numbered image.shapes.items f.procedure) f)) (before_it following at f.keeps f.stack f ∷ fs) mem) →
    ((f : Frame) (fs : List Frame) → list_in old.list.items ≡ f ∷ fs → l ≡ lock_in (numbered image.shapes.items f.procedure) f) →
    HasAnswered image q at old old mem mem (work l) out out
left_in image q kept work l at old mem out is stands asks is_lock =
    subst (λ (x : KeptQuestion). HasAnswered image x at old old mem mem (work l) out out) (sym is)
    (left_answered image kept work l at old mem out (subst (λ (x : KeptQuestion). Stands x at old) is stands) asks is_lock)
