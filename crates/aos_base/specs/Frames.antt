-- The frames of an activity under a machine, what its turns come to, and where it stands.
use Rattle.std.specs.Prelude.{ℕ, ◌+◌, List, [], ◌∷◌, length, sum_by, nat_lt, Bool, true, false, Option, Some, None, if◌then◌else◌}
use Rattle.aos_base.specs.declared.limits.TheConstants.{MOST_FRAME_SCALARS, MOST_FRAMES}
use Rattle.aos_base.specs.declared.text.Pos.{Pos}
use Rattle.aos_base.specs.declared.root.Root.{Root}
use Rattle.aos_base.specs.declared.root.Root.TheVariants.{Frame, Module, Object}
use Rattle.aos_base.specs.declared.kernel.Did.{Did}
use Rattle.aos_base.specs.declared.kernel.Did.TheVariants.{Went}
use Rattle.aos_base.specs.Book.{Where}
use Rattle.aos_base.specs.Machine.{Turn}
use Rattle.aos_base.specs.Rooted.{change_from_last}

-- the topmost first, and by their numbers the bodies of modules that are to follow once there is none; F: frames
pub record Frames (F : Type 0) : Type 0 where
  pub following : List ℕ
  pub frames : List F

-- where a frame's work is carried out: how many frames of the activity are below it, and the object whose method or body it is, 0 for
-- none
pub record Here : Type 0 where
  pub below : ℕ
  pub self : ℕ

module _ {F : Type 0} where
  abbrev pub all_frames : List ℕ → List F → Frames F
  all_frames following fs = record { following = following; frames = fs }

  -- one of them changes, where a root is a frame
  abbrev pub change_frame : Root → (F → F) → List F → List F
  change_frame (Frame d) g fs = change_from_last d g fs
  change_frame (Module m) g fs = fs
  change_frame (Object o) g fs = fs

  -- the topmost changes, where there is one
  abbrev pub change_top : (F → F) → List F → List F
  change_top g [] = []
  change_top g (f ∷ fs) = g f ∷ fs

  -- whether a frame more passes the most frames of an activity, or the most scalars in them
  abbrev pub is_deep_by : (counted : F → ℕ) → F → List F → Bool
  is_deep_by counted g fs = if nat_lt (length fs) MOST_FRAMES then nat_lt MOST_FRAME_SCALARS (counted g + sum_by counted fs) else true

-- What a turn comes to. S: what activities share
module _ {F S : Type 0} (following : List ℕ) where
  -- it leaves nothing to the kernel
  abbrev pub goes_on : List F → S → Turn S (Frames F)
  goes_on fs s = record { store = s; frames = all_frames following fs; output = []; begun = false; left = Went }

  -- nor does it where it writes bytes out, or begins a statement
  abbrev pub puts : List ℕ → List F → S → Turn S (Frames F)
  puts bytes fs s = record { store = s; frames = all_frames following fs; output = bytes; begun = false; left = Went }

  abbrev pub begins_one : List F → S → Turn S (Frames F)
  begins_one fs s = record { store = s; frames = all_frames following fs; output = []; begun = true; left = Went }

  abbrev pub leaves : Did → List F → S → Turn S (Frames F)
  leaves work fs s = record { store = s; frames = all_frames following fs; output = []; begun = false; left = work }

-- Where an activity stands. Of a frame: the statement that it began last, and the module of its text.

abbrev pub or_below : Option Pos → ℕ → Where → Where
or_below None home below = below
or_below (Some p) home below = record { module_ = home; pos = p }

-- the module of the lowest frame, or this one where there is none
abbrev pub lowest_home_by : {F : Type 0} → (home : F → ℕ) → ℕ → List F → ℕ
lowest_home_by home first [] = first
lowest_home_by home first (f ∷ fs) = lowest_home_by home (home f) fs

module _ {F : Type 0} (at : F → Option Pos) (home : F → ℕ) where
  abbrev pub position_by : Where → List F → Where
  position_by none [] = none
  position_by none (f ∷ fs) = or_below (at f) (home f) (position_by none fs)

  -- where the topmost frame that has begun a statement stands; where none has, line 0 and column 0 of the module of the body with which
  -- the activity began
  abbrev pub position_in_by : List F → Where
  position_in_by fs = position_by (record { module_ = lowest_home_by home 0 fs; pos = record { line = 0; col = 0 } }) fs
