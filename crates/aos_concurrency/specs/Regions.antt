-- What a machine has to keep of its frames, and of the regions in which they are.
use Rattle.std.specs.Prelude.{◌≡◌, ℕ, suc, ◌<◌, Some, List, [], ◌∷◌, if◌then◌else◌}
use Rattle.aos_base.specs.declared.kernel.LockName.{LockName}
use Rattle.aos_base.specs.declared.kernel.Did.{Did}
use Rattle.aos_base.specs.declared.kernel.Did.TheVariants.{Went, Ended, Enter, Leave, Await, Start, Trapped}
use Rattle.aos_base.specs.Lock.{is_lock}
use Rattle.aos_base.specs.Book.{Next, Runs, WillTrap, Unwinds, Gone}
use Rattle.aos_base.specs.Machine.{Machine}
use Rattle.aos_concurrency.specs.LocalState.{GoesPast, MayTrap}

-- how often a lock stands in a list
abbrev pub times : LockName → List LockName → ℕ
times l [] = 0
times l (k ∷ ks) = if is_lock l k then suc (times l ks) else times l ks

module _ {S F : Type 0} (m : Machine S F) where
  -- frames in no region of the lock
  abbrev pub Outside : LockName → F → Type 0
  Outside l f = times l (m.regions f) ≡ 0

  -- what going past the work does to the open regions; a region is entered from outside of its lock's, as its owner traps there;
  -- Await stands in a region of its lock, and the end in none
  abbrev pub Passes : Did → F → Type 0
  Passes Went f = Unit {0}
  Passes Ended f = m.regions f ≡ []
  Passes (Enter l) f = Outside l f → m.regions (m.past f) ≡ l ∷ m.regions f
  Passes (Leave l) f = m.regions f ≡ l ∷ m.regions (m.past f)
  Passes (Await l c) f = (m.regions (m.past f) ≡ m.regions f) × (0 < times l (m.regions f))
  Passes (Start o) f = m.regions (m.past f) ≡ m.regions f
  Passes (Trapped n c) f = Unit {0}

  -- the frames that a machine can have: `Fits s w f` where they stand before the work w over the store s, or at rest (Went);
  -- `Admitted l f`: those with which it is let into a region of the lock l
  pub record KeepsFits (Admitted : LockName → F → Type 0) (Fits : S → Did → F → Type 0) : Type 0 where
    pub turn : (s : S) (f : F) → Fits s Went f → Fits (m.turn s f).store (m.turn s f).left (m.turn s f).frames
    -- a turn leaves the others' frames fitting
    pub kept : (s : S) (f : F) → Fits s Went f → (w : Did) (g : F) → Fits s w g → Fits (m.turn s f).store w g
    pub past : (s : S) (w : Did) (f : F) → GoesPast Admitted w f → Fits s w f → Fits s Went (m.past f)
    pub body : (s : S) (o : ℕ) (f : F) → Fits s (Start o) f → Fits s Went (m.body s o)
    pub anew : (s : S) (w : Did) (f g : F) → MayTrap w → Fits s w f → m.anew f ≡ Some g → Fits s Went g

  -- a turn leaves the open regions to the kernel; a body begins with none
  pub record KeepsRegions (Fits : S → Did → F → Type 0) : Type 0 where
    pub fits : KeepsFits Outside Fits
    pub turn : (s : S) (f : F) → Fits s Went f → m.regions (m.turn s f).frames ≡ m.regions f
    pub passes : (s : S) (w : Did) (f : F) → Fits s w f → Passes w f
    pub body : (s : S) (o : ℕ) (f : F) → Fits s (Start o) f → m.regions (m.body s o) ≡ []
    pub anew : (s : S) (w : Did) (f g : F) → MayTrap w → Fits s w f → m.anew f ≡ Some g → m.regions g ≡ []

  -- the locks of the regions that an activity is in
  abbrev pub regions_of : Next → F → List LockName
  regions_of Runs f = m.regions f
  regions_of (WillTrap n) f = m.regions f
  regions_of (Unwinds locks) f = locks
  regions_of Gone f = []
