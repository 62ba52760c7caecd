-- Who names an object that is being built, in every state of every execution.
use Rattle.std.specs.Prelude.{◌≡◌, ℕ, List, Option, Some, option_map}
use Rattle.aos_base.specs.Machine.{Choice, State, execution}
use Rattle.aos_concurrency.specs.Acting.{acting}
use Rattle.aos_typed.specs.Program.{Program}
use Rattle.aos_typed.specs.Store.{Store}
use Rattle.aos_typed.specs.Source.{Frames, first_state, source}
use Rattle.aos_escape.specs.Naming.{AreOf, Tidy}

-- an activity's frames, with the numbers of their routines
abbrev pub Numbered : Type 0
Numbered = Frames × List ℕ

module _ (p : Program) where
  -- those of each activity that acts
  abbrev pub numbered : State Store Frames → (ℕ → List ℕ) → ℕ → Option Numbered
  numbered st numbers a = option_map (λ f. (f, numbers a)) (acting (source p) st a)

  -- The frames are of routines with such numbers, and an object that is being built is named by whoever builds it alone: neither the store nor
  -- the frames of others have a value that is the object or a method of it, no frame of others is of a method or body of it, and among the
  -- builder's own those alone that are of its initializers.
  pub record HidesNew (st : State Store Frames) : Type 0 where
    pub numbers : ℕ → List ℕ
    pub are : (a : ℕ) (f : Frames) → acting (source p) st a ≡ Some f → AreOf p (numbers a) f.frames
    pub tidy : Tidy p (λ (x : Numbered). x.1) (λ (x : Numbered). x.0.frames) st.store (numbered st numbers)

  abbrev pub NewAreHidden : Type 0
  NewAreHidden = (budget : ℕ) (choices : List Choice) → HidesNew (execution (source p) choices (first_state p budget))
