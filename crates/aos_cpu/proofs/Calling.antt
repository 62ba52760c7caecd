-- A procedure is called, or it traps.
use Rattle.std.proofs.Common.{◌≡◌, ℕ, suc, ◌+◌, ◌-◌, ◌^◌, min, List, [], ◌∷◌, length, take, drop, reverse, inl, inr, refl, sym, ap, ◌∙◌, subst, arith}
use Rattle.std.specs.Prelude.{Option, Some, None, Bool, true, false, nat_lt, sum_by, if◌then◌else◌}
use Rattle.std.specs.Option.{option_map}
use Rattle.std.proofs.lemmas.Bool.Decides.{leb_tells}
use Rattle.std.proofs.lemmas.List.{append-nil}
use Rattle.aos_base.specs.declared.limits.TheConstants.{MOST_FRAME_SCALARS, MOST_FRAMES}
use Rattle.aos_base.specs.declared.kernel.Did.TheVariants.{Went, Trapped}
use Rattle.aos_code.specs.declared.instr.Cell.{Cell}
use Rattle.aos_code.specs.declared.image.ProcShape.{ProcShape}
use Rattle.aos_code.specs.Memory.{Memory}
use Rattle.aos_code.specs.Machine.{asker, object_of, arguments_of, Frame, Frames, rooted, behind, handed, called_frame, enters, calls_with}
use Rattle.aos_store.specs.declared.frames.Frames.{Frames as KeptFrames}
use Rattle.aos_store.specs.Store.{list_in, frames_in, deep}
use Rattle.aos_silent_steps.specs.declared.act.Way.{Way}
use Rattle.aos_silent_steps.specs.declared.act.Way.TheVariants.{Direct, Bound, Free}
use Rattle.aos_silent_steps.specs.Acts.{behind_value, with_object, passed}
use Rattle.aos_cpu.specs.Answers.{Made}
use Rattle.aos_cpu.specs.Calls.{Gift, gifts, all_copied, called_cells, called, may_pass, IsCalled, IsEntered}
use Rattle.aos_cpu.proofs.Behind.{lost_made}
use Rattle.aos_cpu.proofs.Handing.{put_as, handed_gifts}

pub none_of : {A B : Type 0} (f : A → B) (o : Option A) → None ≡ option_map f o → o ≡ None
none_of f None e = refl
none_of f (Some a) e = absurd (cc e)

pub some_of : {A B : Type 0} (f : A → B) (o : Option A) (v : B) → Some v ≡ option_map f o → (a : A) × (o ≡ Some a) × (v ≡ f a)
some_of f None v e = absurd (cc e)
some_of f (Some a) v e = (a, refl, cc e)

-- Scalars that are counted as far as a number goes.

-- n: cells that are copied; m: as far as 64 bits; k: with those of the shape, as far as 32 bits
module _ (c n m k : ℕ) (em : m ≡ min n (2 ^ 64 - 1)) (ek : k ≡ min (c + m) (2 ^ 32 - 1)) where
  past_same : (s : ℕ) → nat_lt MOST_FRAME_SCALARS (k + s) ≡ nat_lt MOST_FRAME_SCALARS (c + n + s)
  past_same s =
      elim (leb_tells (suc MOST_FRAME_SCALARS) (k + s)) [
        | inl p ↦ elim (leb_tells (suc MOST_FRAME_SCALARS) (c + n + s)) [ inl q ↦ p.0 ∙ sym q.0 | inr q ↦ absurd (omega (arith, p.1, q.1, em, ek)) ]
        | inr p ↦ elim (leb_tells (suc MOST_FRAME_SCALARS) (c + n + s)) [ inl q ↦ absurd (omega (arith, p.1, q.1, em, ek)) | inr q ↦ p.0 ∙ sym q.0 ]
      ]

  pub deep_same : (fs : List Frame) → deep k fs ≡ deep (c + n) fs
  deep_same fs = ap (λ b. if nat_lt (length fs) MOST_FRAMES then b else true) (past_same (sum_by (λ (f : Frame). f.counted) fs))

  within : (s : ℕ) (b : Bool) → (if b then nat_lt MOST_FRAME_SCALARS (k + s) else true) ≡ false → k ≡ c + n
  within s true e = elim (leb_tells (suc MOST_FRAME_SCALARS) (k + s)) [ inl p ↦ (let z : true ≡ false = sym p.0 ∙ e in absurd (cc z)) | inr p ↦ omega (arith, p.1, em, ek) ]
  within s false e = absurd (cc e)

  -- where there aren't too many they are counted all
  pub counted_all : (fs : List Frame) → deep k fs ≡ false → k ≡ c + n
  counted_all fs e = within (sum_by (λ (f : Frame). f.counted) fs) (nat_lt (length fs) MOST_FRAMES) e

-- what comes behind the object is the same where a procedure value stands for it
same_arguments : (way : Way) (method : Bool) → may_pass way method ≡ true → (vs : List Cell) → arguments_of method (with_object way vs) ≡ arguments_of method vs
same_arguments Direct method e vs = refl
same_arguments Free method e vs = refl
same_arguments Bound true e [] = refl
same_arguments Bound true e (v ∷ vs) = refl
same_arguments Bound false e vs = absurd (cc e)

module _ (shape : ProcShape) (p : ℕ) (way : Way) (may : may_pass way shape.method ≡ true) (count at : ℕ) (old : KeptFrames) (mem : Memory) (out : List ℕ) (args : List Cell)
    (same : (f : Frame) (fs : List Frame) → list_in old.list.items ≡ f ∷ fs → args ≡ behind_value way (reverse (take count f.stack))) where
  -- what is handed over
  abbrev over : Frame → List Cell
  over f = passed way (reverse (take count f.stack))

  rest_is : (f : Frame) (fs : List Frame) → list_in old.list.items ≡ f ∷ fs → arguments_of shape.method (over f) ≡ arguments_of shape.method args
  rest_is f fs is = same_arguments way shape.method may (behind_value way (reverse (take count f.stack))) ∙ ap (arguments_of shape.method) (sym (same f fs is))

  handed_is : (f : Frame) (fs : List Frame) (o : Option (List Gift)) → list_in old.list.items ≡ f ∷ fs → gifts (rooted (list_in old.list.items) mem) shape.params.items (arguments_of shape.method args) ≡ o →
      handed (reverse old.following.items) (suc (length fs)) (rooted (f ∷ fs) mem) shape.params.items (arguments_of shape.method (over f)) (length shape.kinds.items)
      ≡ option_map (put_as (reverse old.following.items) (suc (length fs)) (rooted (f ∷ fs) mem) (length shape.kinds.items)) o
  handed_is f fs o is e =
      let fol = reverse old.following.items in
      let x = rooted (f ∷ fs) mem in
      handed_gifts fol (suc (length fs)) x shape.params.items (arguments_of shape.method (over f)) (length shape.kinds.items)
      ∙ ap (option_map (put_as fol (suc (length fs)) x (length shape.kinds.items))) ((λ i. gifts (rooted (sym is i) mem) shape.params.items (rest_is f fs is i)) ∙ e)

  pub call_lost : gifts (rooted (list_in old.list.items) mem) shape.params.items (arguments_of shape.method args) ≡ None → IsCalled (Some shape) p way count at old old mem (Trapped 16 0) out
  call_lost e f fs is =
      subst (λ h. Made (calls_with (reverse old.following.items) (option_map (called_frame (reverse old.following.items) p (object_of shape.method (over f)) shape) h) (asker at f.keeps (drop count f.stack) f fs mem)) false (Trapped 16 0) (frames_in old) mem out out) (sym (handed_is f fs None is e)) (lost_made old f fs mem 16 0 out is)

  pub call_deep : (gs : List Gift) → gifts (rooted (list_in old.list.items) mem) shape.params.items (arguments_of shape.method args) ≡ Some gs → deep (shape.counted + length (all_copied gs)) (list_in old.list.items) ≡ true →
      IsCalled (Some shape) p way count at old old mem (Trapped 11 0) out
  call_deep gs e d f fs is =
      let fol = reverse old.following.items in
      let o = object_of shape.method (over f) in
      let h = put_as fol (suc (length fs)) (rooted (f ∷ fs) mem) (length shape.kinds.items) gs in
      let over : deep (shape.counted + length (all_copied gs)) (f ∷ fs) ≡ true = ap (deep (shape.counted + length (all_copied gs))) (sym is) ∙ d in
      subst (λ h. Made (calls_with fol (option_map (called_frame fol p o shape) h) (asker at f.keeps (drop count f.stack) f fs mem)) false (Trapped 11 0) (frames_in old) mem out out) (sym (handed_is f fs (Some gs) is e))
      (subst (λ b. Made (enters fol b (called_frame fol p o shape h) (asker at f.keeps (drop count f.stack) f fs mem)) false (Trapped 11 0) (frames_in old) mem out out) (sym over) (lost_made old f fs mem 11 0 out is))

  pub call_made : (gs : List Gift) (new : KeptFrames) (g : Frame) → gifts (rooted (list_in old.list.items) mem) shape.params.items (arguments_of shape.method args) ≡ Some gs → deep (shape.counted + length (all_copied gs)) (list_in old.list.items) ≡ false →
      g ≡ called p (object_of shape.method (with_object way args)) (shape.counted + length (all_copied gs)) (called_cells (length (list_in old.list.items)) shape.kinds.items gs) → IsEntered at count g old new → IsCalled (Some shape) p way count at old new mem Went out
  call_made gs new g e d is_frame entered f fs is =
      let fol = reverse old.following.items in
      let o = object_of shape.method (over f) in
      let h = put_as fol (suc (length fs)) (rooted (f ∷ fs) mem) (length shape.kinds.items) gs in
      let n = shape.counted + length (all_copied gs) in
      let over : deep n (f ∷ fs) ≡ false = ap (deep n) (sym is) ∙ d in
      let frame : called_frame fol p o shape h ≡ g = (λ i. called p (object_of shape.method (with_object way (sym (same f fs is) i))) n (called_cells (length (sym is i)) shape.kinds.items gs)) ∙ sym is_frame in
      let frames : record { following = fol; frames = called_frame fol p o shape h ∷ behind [] at f.keeps (drop count f.stack) f ∷ fs } ≡ frames_in new =
      ap (λ (g : Frame). let y : Frames = record { following = fol; frames = g ∷ behind [] at f.keeps (drop count f.stack) f ∷ fs } in y) frame ∙ sym (entered f fs is) in
      subst (λ h. Made (calls_with fol (option_map (called_frame fol p o shape) h) (asker at f.keeps (drop count f.stack) f fs mem)) false Went (frames_in new) mem out out) (sym (handed_is f fs (Some gs) is e))
      (subst (λ b. Made (enters fol b (called_frame fol p o shape h) (asker at f.keeps (drop count f.stack) f fs mem)) false Went (frames_in new) mem out out) (sym over)
      (record { store = refl; frames = frames; output = sym (append-nil out); begun = refl; left = refl }))
