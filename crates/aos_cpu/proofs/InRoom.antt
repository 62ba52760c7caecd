-- The topmost frame has room for its silent work, and frames that fit a sound image have so behind it.
use Rattle.std.proofs.Common.{◌≡◌, ◌<◌, ◌≤◌, ◌-◌, ◌^◌, ℕ, List, [], ◌∷◌, length, reverse, refl, inl, inr, sym, ap, subst, ◌∙◌, arith}
use Rattle.std.specs.Prelude.{Some, None, slice_get, slice_set, vec_capacity}
use Rattle.std.proofs.lemmas.List.{length-set}
use Rattle.aos_code.specs.declared.image.Image.{Image}
use Rattle.aos_code.specs.Numbered.{numbered}
use Rattle.aos_code.specs.Machine.{Frame, Frames, opened, opened_by, body_frame, code_of}
use Rattle.aos_sound.specs.Fits.{KeepsToPaths, StandsOn, result_of}
use Rattle.aos_sound.specs.FitFrames.{IsSoundImage, HasBody, FitFor, FramesFit, depth_of}
use Rattle.aos_sound.proofs.FitsWalks.{keeps_to_paths}
use Rattle.aos_sound.proofs.FitsFrames.{paths_of}
use Rattle.aos_store.specs.declared.frames.Frame.{Frame as KeptFrame}
use Rattle.aos_store.specs.declared.frames.Frames.{Frames as KeptFrames}
use Rattle.aos_store.specs.Store.{frame_in, list_in, frames_in, kept_cells}
use Rattle.aos_store.specs.Room.{AreRoomyFor}
use Rattle.aos_store.proofs.Rooms.{set_get}
use Rattle.aos_silent_steps.specs.Room.{StandsInRoom, keeps_for, IsRoomy, AreRoomy}
use Rattle.aos_cpu.proofs.Turns.{all_but_top, list_top, list_set}

-- where there is a frame no body is to be opened
pub opened_top : (following : List ℕ) (l : List Frame) (f : Frame) (fs : List Frame) → l ≡ f ∷ fs → (let x : Frames = record { following = following; frames = l } in x) ≡ opened_by l following
opened_top following l f fs e =
    (λ i. (let x : Frames = record { following = following; frames = e i } in x)) ∙ ap (λ m. opened_by m following) (sym e)

-- where there is none, and no body is to be opened, none is to follow
none_follows : (following : List ℕ) → opened_by [] following ≡ record { following = following; frames = [] } → following ≡ []
none_follows [] e = refl
none_follows (p ∷ ps) e = let z : body_frame 0 p ∷ [] ≡ [] = ap (λ (x : Frames). x.frames) e in absurd (cc z)

pub nothing_left : (old : KeptFrames) → opened (frames_in old) ≡ frames_in old → length old.list.items ≡ 0 → frames_in old ≡ record { following = []; frames = [] }
nothing_left old opens none = by old.list.items refl none
  where
    by : (l : List KeptFrame) → old.list.items ≡ l → length l ≡ 0 → frames_in old ≡ record { following = []; frames = [] }
    by [] e z =
        let following = reverse old.following.items in
        let bare : opened_by [] following ≡ record { following = following; frames = [] } =
        subst (λ (l : List KeptFrame). opened_by (list_in l) following ≡ record { following = following; frames = list_in l }) e opens in
        let follow = none_follows following bare in
        λ i. (let x : Frames = record { following = follow i; frames = list_in (e i) } in x)
    by (f ∷ fs) e z = absurd (omega (arith, z))

-- opening a body leaves none that is to be opened
pub opened_twice : (fs : Frames) → opened (opened fs) ≡ opened fs
opened_twice fs = by fs.frames fs.following
  where
    by : (l : List Frame) (following : List ℕ) → opened (opened_by l following) ≡ opened_by l following
    by [] [] = refl
    by [] (p ∷ ps) = refl
    by (f ∷ l) following = refl

module _ (image : Image) (whole : IsSoundImage image) (old : KeptFrames) (fit : FramesFit image (frames_in old)) (room : AreRoomy image old) (n : ℕ) (f : KeptFrame) (len : n ≡ length old.list.items)
    (here : slice_get old.list.items (n - 1) ≡ Some f) where
  -- as the frames fit, so does the topmost one
  tops : FitFor image None (frame_in f ∷ list_in (all_but_top old.list.items))
  tops = subst (FitFor image None) (list_top old.list.items n f len here) fit.0

  pub top_paths : KeepsToPaths image f.procedure (code_of image f.procedure) (depth_of image f.procedure)
  top_paths = keeps_to_paths image f.procedure (code_of image f.procedure) (depth_of image f.procedure) (paths_of image whole f.procedure tops.0)

  pub top_stands : StandsInRoom image (depth_of image f.procedure) (keeps_for image f.procedure) (code_of image f.procedure) f
  top_stands = let roomy = room.each (n - 1) f here in record { stands = tops.1; operands = roomy.operands; kept = roomy.kept }

  pub top_few : n - 1 < 2 ^ 32
  top_few = omega (arith, room.few, len)

  -- and so do all, where the topmost one stands elsewhere on a path
  module _ (g : KeptFrame) (own : g.procedure ≡ f.procedure) (stands : StandsInRoom image (depth_of image f.procedure) (keeps_for image f.procedure) (code_of image f.procedure) g) where
    now_fits : FitFor image None (frame_in g ∷ list_in (all_but_top old.list.items))
    now_fits =
        let rest = list_in (all_but_top old.list.items) in
        let on : StandsOn image g.procedure (code_of image g.procedure) g.next (frame_in g).stack = subst (λ p. StandsOn image g.procedure (code_of image p) g.next (frame_in g).stack) (sym own) stands.stands in (
          subst (HasBody image) (sym own) tops.0,
          on,
          subst (λ p. FitFor image (result_of (numbered image.shapes.items p)) rest) (sym own) tops.2,
        )

    pub still_fit : FramesFit image (record { following = reverse old.following.items; frames = list_in (slice_set old.list.items (n - 1) g) })
    still_fit = (subst (FitFor image None) (sym (list_set old.list.items n f g len here)) now_fits, fit.1)

    is_roomy : IsRoomy image g
    is_roomy =
        record {
          operands = subst (λ p. depth_of image p ≤ vec_capacity g.operands) (sym own) stands.operands;
          kept = subst (λ p. keeps_for image p ≤ length (kept_cells g)) (sym own) stands.kept;
        }

    pub still_roomy : AreRoomyFor (depth_of image) (keeps_for image) (slice_set old.list.items (n - 1) g)
    still_roomy =
        record {
          each = λ i x e. elim (set_get old.list.items (n - 1) i g x e) [ inl same ↦ subst (IsRoomy image) (sym same) is_roomy | inr was ↦ room.each i x was ];
          few = omega (arith, room.few, length-set old.list.items (n - 1) g);
        }
