-- Room in frames, for operands and for what is kept.
use Rattle.std.specs.Prelude.{◌≡◌, ◌<◌, ◌≤◌, ◌^◌, ℕ, List, Some, length, slice_get, vec_capacity}
use Rattle.aos_store.specs.declared.frames.Frame.{Frame as KeptFrame}
use Rattle.aos_store.specs.declared.frames.Frames.{Frames as KeptFrames}
use Rattle.aos_store.specs.Store.{kept_cells}

-- a frame is one of the same procedure as before, and has no less room
pub record HasMoreRoom (old new : KeptFrame) : Type 0 where
  pub procedure : new.procedure ≡ old.procedure
  pub operands : vec_capacity old.operands ≤ vec_capacity new.operands
  pub kept : length (kept_cells old) ≤ length (kept_cells new)

-- where each procedure has so many operands at most, and keeps values under so many numbers, a frame has room for all of its procedure's
pub record IsRoomyFor (depths keeps : ℕ → ℕ) (f : KeptFrame) : Type 0 where
  pub operands : depths f.procedure ≤ vec_capacity f.operands
  pub kept : keeps f.procedure ≤ length (kept_cells f)

-- so has each of these frames, which are fewer than 2^32
pub record AreRoomyFor (depths keeps : ℕ → ℕ) (fs : List KeptFrame) : Type 0 where
  pub each : (i : ℕ) (f : KeptFrame) → slice_get fs i ≡ Some f → IsRoomyFor depths keeps f
  pub few : length fs < 2 ^ 32

-- whatever room procedures need, frames that had it have it still
abbrev pub KeepsRoom : (old new : KeptFrames) → Type 0
KeepsRoom old new = (depths keeps : ℕ → ℕ) → AreRoomyFor depths keeps old.list.items → AreRoomyFor depths keeps new.list.items

-- where this procedure has so many operands at most, and keeps values under so many numbers, the frame has room for them
abbrev pub HasRoom : (procedure depth many : ℕ) → KeptFrame → Type 0
HasRoom p d k f = (depths keeps : ℕ → ℕ) → depths p ≤ d → keeps p ≤ k → IsRoomyFor depths keeps f

-- and frames have all their room still, one more of this procedure among them
abbrev pub MakesRoom : (procedure depth many : ℕ) → (old new : KeptFrames) → Type 0
MakesRoom p d k old new =
    (depths keeps : ℕ → ℕ) → depths p ≤ d → keeps p ≤ k → AreRoomyFor depths keeps old.list.items → AreRoomyFor depths keeps new.list.items
