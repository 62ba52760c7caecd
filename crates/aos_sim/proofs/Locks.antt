-- Both sides name the lock of a frame alike, and so those of the regions that are open.
use Rattle.std.proofs.Common.{◌≡◌, ℕ, List, [], ◌∷◌, ◌++◌, Bool, true, false, Option, Some, None, if◌then◌else◌, refl, sym, ap, ◌∙◌, subst}
use Rattle.std.specs.Prelude.{is_some}
use Rattle.aos_base.specs.declared.kernel.LockName.TheVariants.{Object as ObjectLock}
use Rattle.aos_base.specs.Rooted.{Made, by_number}
use Rattle.aos_typed.specs.declared.tree.TType.{TType}
use Rattle.aos_typed.specs.Program.{Procedure, Program}
use Rattle.aos_typed.specs.Routines.{self_type, has_self, result_of}
use Rattle.aos_typed.specs.Source as S
use Rattle.aos_code.specs.declared.image.Image.{Image}
use Rattle.aos_code.specs.Numbered.{numbered}
use Rattle.aos_code.specs.Machine as I
use Rattle.aos_sim.specs.Shows.{shape_of}
use Rattle.aos_sim.proofs.Runs.{tables_of}
use Rattle.aos_sim.proofs.Does.{HasShapes, IsSelf}
use Rattle.aos_sim.proofs.Bodies.{home_known}
use Rattle.aos_sim.proofs.States.{locks_open, SameRegions, Placed, Waiting, SameFrames}

module _ (program : Program) (image : Image) (shaped : HasShapes program (tables_of program image)) (made : ℕ → Option Made) where
  named_alike : (home object : ℕ) (t : Option ℕ) → IsSelf program made t object → (t ≡ None → object ≡ 0) → I.own_lock (is_some t) home object ≡ S.own_lock home object
  named_alike home object None self none = sym (ap (S.own_lock home) (none refl))
  named_alike home object (Some t) self none = subst (λ o. ObjectLock o ≡ S.own_lock home o) (sym self.2) refl

  pub frame_lock : (f : S.Frame) (g : I.Frame) → Placed program image made f g → I.lock_in (numbered image.shapes.items g.procedure) g ≡ S.lock_of f
  frame_lock f g h =
      let x = shaped.shapes g.procedure h.routine h.there in
      let home : x.0.module ≡ f.home = sym (ap I.home_in x.1) ∙ home_known program (tables_of program image) shaped g.procedure h.routine h.there ∙ h.home_is in
      let method : x.0.method ≡ has_self h.routine.own = ap (λ z. z.method) x.2 ∙ by h.routine.own in
      ap (λ o. I.lock_in o g) x.1
      ∙ (λ j. I.own_lock (method j) (home j) (h.object_is j))
      ∙ named_alike f.home f.object (self_type h.routine.own) h.self h.none_is
    where
      by : (own : Option Procedure) → (shape_of program.types (record { home = h.routine.home; own = own; body = h.routine.body })).method ≡ has_self own
      by None = refl
      by (Some q) = refl

module _ (program : Program) (image : Image) (shaped : HasShapes program (tables_of program image)) (made : List Made) where
  waiting_regions : (result : Option TType) (fs : List S.Frame) (gs : List I.Frame) → Waiting program image made result fs gs → SameRegions fs gs → S.regions_of fs ≡ I.regions_of image gs
  waiting_regions result [] [] h regions = refl
  waiting_regions result [] (g ∷ gs) h regions = absurd h
  waiting_regions result (f ∷ fs) [] h regions = absurd h
  waiting_regions result (f ∷ fs) (g ∷ gs) h marks =
      let named = frame_lock program image shaped (λ o. by_number o made) f g h.0.place in
      let below = waiting_regions (result_of h.0.place.routine.own) fs gs h.1 marks.1 in
      ap (λ ls. ls ++ S.regions_of fs) marks.0.0 ∙ by g.is_open named below
    where
      by : (b : Bool) → I.lock_in (numbered image.shapes.items g.procedure) g ≡ S.lock_of f → S.regions_of fs ≡ I.regions_of image gs → locks_open b (S.lock_of f) ++ S.regions_of fs ≡ (if b then I.lock_in (numbered image.shapes.items g.procedure) g ∷ I.regions_of image gs else I.regions_of image gs)
      by true named below = λ j. sym named j ∷ below j
      by false named below = below

  pub regions_same : (fs : List S.Frame) (gs : List I.Frame) → SameFrames program image made fs gs → SameRegions fs gs → S.regions_of fs ≡ I.regions_of image gs
  regions_same [] [] h regions = refl
  regions_same [] (g ∷ gs) h regions = absurd h
  regions_same (f ∷ fs) [] h regions = absurd h
  regions_same (f ∷ fs) (g ∷ gs) h marks =
      let named = frame_lock program image shaped (λ o. by_number o made) f g h.0.place in
      let below = waiting_regions (result_of h.0.place.routine.own) fs gs h.1 marks.1 in
      ap (λ ls. ls ++ S.regions_of fs) marks.0.0 ∙ by g.is_open named below
    where
      by : (b : Bool) → I.lock_in (numbered image.shapes.items g.procedure) g ≡ S.lock_of f → S.regions_of fs ≡ I.regions_of image gs → locks_open b (S.lock_of f) ++ S.regions_of fs ≡ (if b then I.lock_in (numbered image.shapes.items g.procedure) g ∷ I.regions_of image gs else I.regions_of image gs)
      by true named below = λ j. sym named j ∷ below j
      by false named below = below
