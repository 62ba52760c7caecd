-- Room in a frame for operands and for what is kept, with which no memory is taken.
use Rattle.std.specs.Prelude.{◌≡◌, ◌<◌, ◌≤◌, ℕ, suc, ◌+◌, List, ◌∷◌, length, vec_len, vec_capacity}
use Rattle.aos_code.specs.declared.instr.Cell.TheVariants.{Ref}
use Rattle.aos_code.specs.declared.instr.Instr.{Instr}
use Rattle.aos_code.specs.declared.instr.Instr.TheVariants as instr
use Rattle.aos_code.specs.declared.image.Image.{Image}
use Rattle.aos_code.specs.Numbered.{numbered}
use Rattle.aos_code.specs.Silent.{Stack, keeps_in}
use Rattle.aos_sound.specs.Fits.{StandsOn}
use Rattle.aos_sound.specs.FitFrames.{depth_of, FramesFit, IsSoundImage}
use Rattle.aos_store.specs.declared.frames.Frame.{Frame as KeptFrame}
use Rattle.aos_store.specs.declared.frames.Frames.{Frames as KeptFrames}
use Rattle.aos_store.specs.Store.{frame_in, frames_in, kept_cells}
use Rattle.aos_store.specs.Room.{IsRoomyFor, AreRoomyFor}

-- there is no room for one operand more
abbrev pub IsFull : KeptFrame → Type 0
IsFull f = vec_capacity f.operands ≤ vec_len f.operands

-- an object is on top, and there is no room for so many lengths and its place instead
abbrev pub HasNoRow : (lengths : ℕ) → KeptFrame → Type 0
HasNoRow j f = (o : ℕ) × (s : Stack) × ((frame_in f).stack ≡ Ref (suc o) ∷ s) × (vec_capacity f.operands < length s + (j + 1))

-- where no memory is had, an instruction is refused only if it gives an operand more, for which there is no room, or so many lengths,
-- or keeps a value under one of so many numbers that is past those under which there are values
abbrev pub IsRefused : (keeps : ℕ) → Instr → KeptFrame → Type 0
IsRefused keeps (instr.Num n) f = IsFull f
IsRefused keeps instr.Nil f = IsFull f
IsRefused keeps instr.NilCall f = IsFull f
IsRefused keeps (instr.Proc p) f = IsFull f
IsRefused keeps instr.SelfRef f = IsFull f
IsRefused keeps instr.Dup f = IsFull f
IsRefused keeps (instr.Frame c) f = IsFull f
IsRefused keeps (instr.Module m c) f = IsFull f
IsRefused keeps (instr.Param c) f = IsFull f
IsRefused keeps (instr.Length c) f = IsFull f
IsRefused keeps (instr.Kept c k) f = IsFull f
IsRefused keeps (instr.Keep c k) f = (c < keeps) × (length (kept_cells f) ≤ c)
IsRefused keeps (instr.OpenRef j) f = HasNoRow j f
IsRefused keeps _ f = ⊥

-- a frame stands on a path of its code, of which no path comes to more operands than the depth, and it has room for all of these and
-- for values under so many numbers
pub record StandsInRoom (image : Image) (depth keeps : ℕ) (code : List Instr) (f : KeptFrame) : Type 0 where
  pub stands : StandsOn image f.procedure code f.next (frame_in f).stack
  pub operands : depth ≤ vec_capacity f.operands
  pub kept : keeps ≤ length (kept_cells f)

-- under how many numbers a procedure keeps values
abbrev pub keeps_for : Image → (procedure : ℕ) → ℕ
keeps_for image p = keeps_in (numbered image.shapes.items p)

-- a frame has room for all operands of its procedure's body, and for all that the procedure keeps
abbrev pub IsRoomy : Image → KeptFrame → Type 0
IsRoomy image f = IsRoomyFor (depth_of image) (keeps_for image) f

-- Frames each of which has such room, and which are fewer than 2^32. Where there is none, a body may be to follow.
abbrev pub AreRoomy : Image → KeptFrames → Type 0
AreRoomy image fs = AreRoomyFor (depth_of image) (keeps_for image) fs.list.items

-- frames fit an image, and have such room
abbrev pub FitInRoom : Image → KeptFrames → Type 0
FitInRoom image fs = FramesFit image (frames_in fs) × AreRoomy image fs

-- where the image is sound, frames that fit it and have room do so still
abbrev pub StayFit : Image → (old new : KeptFrames) → Type 0
StayFit image old new = IsSoundImage image → FitInRoom image old → FitInRoom image new
