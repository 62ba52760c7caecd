-- Machines whose activities never come to stand in a lock's list.
use Rattle.aos_base.specs.declared.kernel.Did.{Did}
use Rattle.aos_base.specs.declared.kernel.Did.TheVariants.{Went, Ended, Enter, Leave, Await, Start, Trapped}
use Rattle.aos_base.specs.Machine.{Machine}
use Rattle.aos_concurrency.specs.LocalState.{NoOne}
use Rattle.aos_concurrency.specs.Regions.{KeepsFits}

-- work at which an activity may come to wait for a lock
abbrev pub MayWait : Did → Type 0
MayWait Went = ⊥
MayWait Ended = ⊥
MayWait (Enter l) = Unit {0}
MayWait (Leave l) = ⊥
MayWait (Await l c) = Unit {0}
MayWait (Start o) = ⊥
MayWait (Trapped n c) = ⊥

-- no turn enters a region or awaits a condition
pub record NeverWaits {S F : Type 0} (m : Machine S F) (Fits : S → Did → F → Type 0) : Type 0 where
  pub fits : KeepsFits m NoOne Fits
  pub turn : (s : S) (f : F) → Fits s Went f → MayWait (m.turn s f).left → ⊥
