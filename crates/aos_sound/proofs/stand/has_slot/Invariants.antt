-- What the loop of has_slot keeps.
use Rattle.std.proofs.Common.{◌≡◌, drop}
use Rattle.aos_sound.specs.Sound.{has_slot}
use Rattle.aos_sound.proofs.stand.has_slot.Given as goal

-- what is left decides
abbrev pub invariant-loop-desc : goal.invariant-loop-desc
invariant-loop-desc l = has_slot l.types l.slot ≡ has_slot (drop l.desc-index l.types) l.slot
