-- Frames with which activities begin and end fit a sound image, and have room.
use Rattle.std.proofs.Common.{◌≡◌, ℕ, [], map, length, reverse, refl, sym, ap, subst, arith}
use Rattle.std.proofs.lemmas.List.{length-map, length-reverse}
use Rattle.aos_code.specs.declared.image.Image.{Image}
use Rattle.aos_code.specs.Memory.{Memory}
use Rattle.aos_code.specs.Machine.{Frames, first_frames, body_of}
use Rattle.aos_sound.specs.FitFrames.{IsSoundImage, FramesFit, depth_of}
use Rattle.aos_sound.proofs.FitsFrames.{first_fit, body_fits}
use Rattle.aos_store.specs.declared.frames.Frames.{Frames as Kept}
use Rattle.aos_store.specs.Store.{frame_in, frames_in}
use Rattle.aos_store.proofs.Rooms.{none_roomy}
use Rattle.aos_silent_steps.specs.Room.{keeps_for, AreRoomy, FitInRoom}

-- where no frames are shown there are none
no_frame_roomy : (image : Image) (kept : Kept) (fs : Frames) → frames_in kept ≡ fs → fs.frames ≡ [] → AreRoomy image kept
no_frame_roomy image kept fs e none =
    let shown : length (map frame_in (reverse kept.list.items)) ≡ length fs.frames = ap (λ (x : Frames). length x.frames) e in
    let a = length-map (reverse kept.list.items) frame_in in
    let b = length-reverse kept.list.items in
    let zero : length fs.frames ≡ 0 = ap length none in
    none_roomy (depth_of image) (keeps_for image) kept.list.items (omega (arith, shown, a, b, zero))

pub none_fit : (image : Image) (kept : Kept) → frames_in kept ≡ record { following = []; frames = [] } → FitInRoom image kept
none_fit image kept e = (subst (FramesFit image) (sym e) (tt, tt), no_frame_roomy image kept (record { following = []; frames = [] }) e refl)

pub first_fits : (image : Image) (kept : Kept) → frames_in kept ≡ first_frames image → IsSoundImage image → FitInRoom image kept
first_fits image kept e whole = (subst (FramesFit image) (sym e) (first_fit image whole), no_frame_roomy image kept (first_frames image) e refl)

pub born_fits : (image : Image) (mem : Memory) (o : ℕ) (kept : Kept) → frames_in kept ≡ body_of image mem o → AreRoomy image kept → IsSoundImage image → FitInRoom image kept
born_fits image mem o kept e room whole = (subst (FramesFit image) (sym e) (body_fits image whole mem o), room)
