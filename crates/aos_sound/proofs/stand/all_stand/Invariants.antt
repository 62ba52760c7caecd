-- What the loop of all_stand keeps, and what falls.
use Rattle.std.proofs.Common.{◌≡◌, ◌<◌, ◌-◌, ℕ, length, Some}
use Rattle.std.specs.Prelude.{slice_get, IsTrue}
use Rattle.aos_code.specs.declared.instr.Instr.{Instr}
use Rattle.aos_sound.specs.Sound.{may_stand}
use Rattle.aos_sound.proofs.stand.all_stand.Given as goal

abbrev pub invariant-loop-at : goal.invariant-loop-at
invariant-loop-at l = (at : ℕ) (i : Instr) → at < l.at → slice_get l.code at ≡ Some i → IsTrue (may_stand l.image l.fn.own l.role l.code at i)

abbrev pub decreases-loop-at : goal.decreases-loop-at
decreases-loop-at l = length l.code - l.at
