use Rattle.std.proofs.Common.{◌≡◌, ◌-◌, ℕ, length, true}
use Rattle.std.specs.Prelude.{Option}
use Rattle.std.specs.List.{list_all}
use Rattle.aos_base.specs.Rooted.{Made}
use Rattle.aos_code.specs.Machine.{may_evaluate}
use Rattle.aos_sound.specs.Fits.{KeepsToPaths}
use Rattle.aos_store.specs.Store.{frame_in}
use Rattle.aos_store.specs.Room.{HasMoreRoom}
use Rattle.aos_silent_steps.specs.Known.{known, Knows}
use Rattle.aos_silent_steps.specs.Silent.{seen_with}
use Rattle.aos_silent_steps.specs.Room.{StandsInRoom}
use Rattle.aos_silent_steps.specs.Conditions.{HasRoomFor, HasMoved}
use Rattle.aos_silent_steps.proofs.silent.walk_from.Given as goal

-- from here the same silent work is left, and on a path of sound code the frame stands on one; in a condition it has only moved
abbrev pub invariant-loop-frame : goal.invariant-loop-frame
invariant-loop-frame l = record {
  seen : (all : ℕ → Option Made) → Knows all (known l.heap) → seen_with l.image l.code all l.here (frame_in l.frame) ≡ seen_with l.image l.code all l.here (frame_in l.fn.frame);
  room : (depth : ℕ) → KeepsToPaths l.image l.fn.frame.procedure l.code depth → StandsInRoom l.image depth l.keeps l.code l.fn.frame → StandsInRoom l.image depth l.keeps l.code l.frame;
  more : HasMoreRoom l.fn.frame l.frame;
  moves : list_all may_evaluate l.code ≡ true → HasRoomFor l.code l.fn.frame → HasMoved (frame_in l.fn.frame) (frame_in l.frame) × HasRoomFor l.code l.frame;
}

abbrev pub decreases-loop-frame : goal.decreases-loop-frame
decreases-loop-frame l = length l.code - l.frame.next
