-- Who names an object: the invariant that nobody but whoever builds it does while its quiet initializer runs.
use Rattle.std.specs.Prelude.{◌≡◌, ◌≢◌, ◌⊎◌, ◌<◌, ◌≤◌, ℕ, List, [], ◌∷◌, false, Option, Some, None, map}
use Rattle.aos_base.specs.Question.{Manner, Initially, Calls}
use Rattle.aos_base.specs.Rooted.{by_number}
use Rattle.aos_types.specs.Content.{Content, Scalar, Empty, Row}
use Rattle.aos_typed.specs.Program.{Program}
use Rattle.aos_typed.specs.Routines.{Routine, has_self, routines}
use Rattle.aos_typed.specs.Value.{Value, Int, Flag, Char, Set, Object, Callable, Place}
use Rattle.aos_typed.specs.Store.{Store, new_number}
use Rattle.aos_typed.specs.Meaning.{object_in, Item}
use Rattle.aos_handover.specs.Items.{ItemsGive}
use Rattle.aos_typed.specs.Source.{Frame}
use Rattle.aos_uses.specs.Guarded.{IsQuiet}
use Rattle.aos_handover.specs.Kinds.{IsAsking}
use Rattle.aos_escape.specs.Items.{ItemsFine}

-- Facts on values, of all that a store and a frame hold.

module _ (C : Value → Type 0) where
  abbrev pub ContentIs : Content Value → Type 0
  ContentIs (Scalar v) = C v
  ContentIs Empty = Unit {0}
  ContentIs (Row a b) = ContentIs a × ContentIs b

  abbrev pub ContentsAre : List (Content Value) → Type 0
  ContentsAre [] = Unit {0}
  ContentsAre (c ∷ cs) = ContentIs c × ContentsAre cs

  abbrev pub AllAre : List Value → Type 0
  AllAre [] = Unit {0}
  AllAre (v ∷ vs) = C v × AllAre vs

  abbrev pub AnswersAre : Option (List Value) → Type 0
  AnswersAre None = Unit {0}
  AnswersAre (Some vs) = AllAre vs

  abbrev pub ResultIs : Option Value → Type 0
  ResultIs None = Unit {0}
  ResultIs (Some v) = C v

  abbrev pub ItemsAre : List Item → Type 0
  ItemsAre is = ItemsGive ResultIs is

  pub record StoreIs (s : Store) : Type 0 where
    pub modules : ContentsAre s.modules
    pub objects : ContentsAre s.objects

  pub record FrameIs (f : Frame) : Type 0 where
    pub variables : ContentIs f.variables
    pub items : ItemsAre f.items
    pub answers : AnswersAre f.answers

  -- what the variables of frames hold
  abbrev pub VariablesAre : List Frame → Type 0
  VariablesAre fs = ContentsAre (map (λ f. f.variables) fs)

  abbrev pub FramesAre : List Frame → Type 0
  FramesAre [] = Unit {0}
  FramesAre (f ∷ fs) = FrameIs f × FramesAre fs

-- a value doesn't name an object. A place names none: what it leads to is read, and is a value again
abbrev pub IsOther : (object : ℕ) → Value → Type 0
IsOther o (Int z) = Unit {0}
IsOther o (Flag b) = Unit {0}
IsOther o (Char c) = Unit {0}
IsOther o (Set x) = Unit {0}
IsOther o (Object m) = m ≢ o
IsOther o (Callable q m) = m ≢ o
IsOther o (Place s) = Unit {0}

abbrev pub SelvesOther : (object : ℕ) → List Frame → Type 0
SelvesOther o [] = Unit {0}
SelvesOther o (f ∷ fs) = (f.object ≢ o) × SelvesOther o fs

-- no frame names it, and none is of its method or body
pub record HideAll (o : ℕ) (fs : List Frame) : Type 0 where
  pub selves : SelvesOther o fs
  pub values : FramesAre (IsOther o) fs

module _ (p : Program) where
  -- no procedure value is a quiet initializer
  abbrev pub IsLoud : Value → Type 0
  IsLoud (Int z) = Unit {0}
  IsLoud (Flag b) = Unit {0}
  IsLoud (Char c) = Unit {0}
  IsLoud (Set x) = Unit {0}
  IsLoud (Object m) = Unit {0}
  IsLoud (Callable q m) = IsQuiet p q → ⊥
  IsLoud (Place s) = Unit {0}

  -- the frame of the routine with this number
  pub record IsOf (number : ℕ) (f : Frame) : Type 0 where
    pub routine : Routine
    pub there : by_number number (routines p) ≡ Some routine
    pub home : f.home ≡ routine.home
    pub object : has_self routine.own ≡ false → f.object ≡ 0
    pub items : ItemsFine p number routine f.items

  -- a frame waits for the end of the one above, which is of the routine that it called: that of a quiet initializer for that of a quiet one on
  -- the same object
  pub record StandsOn (number : ℕ) (f : Frame) (below : ℕ) (g : Frame) (gs : List Frame) : Type 0 where
    pub how : Manner
    pub arguments : List Value
    pub asks : IsAsking p g gs (Calls how number arguments)
    pub quiet : IsQuiet p below → IsQuiet p number × (f.object ≡ g.object)

  abbrev pub StandsOnAll : (number : ℕ) → Frame → List ℕ → List Frame → Type 0
  StandsOnAll n f [] [] = Unit {0}
  StandsOnAll n f [] (g ∷ gs) = ⊥
  StandsOnAll n f (m ∷ ms) [] = ⊥
  StandsOnAll n f (m ∷ ms) (g ∷ gs) = StandsOn n f m g gs

  -- frames of the routines with these numbers, one on the other
  abbrev pub AreOf : List ℕ → List Frame → Type 0
  AreOf [] [] = Unit {0}
  AreOf [] (f ∷ fs) = ⊥
  AreOf (n ∷ ns) [] = ⊥
  AreOf (n ∷ ns) (f ∷ fs) = IsOf n f × (StandsOnAll n f ns fs × AreOf ns fs)

  -- a frame calls the initializer of an object that it has made and has yet to store
  pub record Pends (o : ℕ) (f : Frame) (fs : List Frame) : Type 0 where
    pub number : ℕ
    pub value : Value
    pub arguments : List Value
    pub asks : IsAsking p f fs (Calls Initially number (value ∷ arguments))
    pub is : object_in value ≡ o

  -- a frame of a quiet initializer on the object
  pub record IsInitial (o number : ℕ) (f : Frame) : Type 0 where
    pub quiet : IsQuiet p number
    pub object : f.object ≡ o
    pub values : FrameIs (IsOther o) f

  pub record IsPending (o : ℕ) (f : Frame) (fs : List Frame) : Type 0 where
    pub object : f.object ≢ o
    pub variables : ContentIs (IsOther o) f.variables
    pub items : ItemsAre (IsOther o) f.items
    pub pends : Pends o f fs
    pub arguments : AllAre (IsOther o) pends.arguments

  -- frames of quiet initializers on the object stand on each other and on the NEW that made it, whose frame stands on others, which
  -- don't name it
  abbrev pub Inside : (object : ℕ) → (numbers : List ℕ) → List Frame → Type 0
  Inside o [] fs = ⊥
  Inside o (n ∷ ns) [] = ⊥
  Inside o (n ∷ ns) (f ∷ fs) = (IsInitial o n f × Inside o ns fs) ⊎ (IsPending o f fs × HideAll o fs)

  -- an initializer is about to be called on it, or a quiet one runs on it
  abbrev pub Builds : (object : ℕ) → (numbers : List ℕ) → List Frame → Type 0
  Builds o [] fs = ⊥
  Builds o (n ∷ ns) [] = ⊥
  Builds o (n ∷ ns) (f ∷ fs) = (IsQuiet p n × (f.object ≡ o)) ⊎ Pends o f fs

  -- what is known of an object that is being built; Others: that no other activity names it
  pub record IsKept (Others : ℕ → Type 0) (s : Store) (numbers : List ℕ) (fs : List Frame) (o : ℕ) : Type 0 where
    pub old : o < new_number s
    pub real : 0 ≢ o
    pub inside : Inside o numbers fs
    pub store : StoreIs (IsOther o) s
    pub others : Others o

  -- F: an activity's frames, with the numbers of their routines
  module _ {F : Type 0} (numbers_of : F → List ℕ) (frames_of : F → List Frame) where
    abbrev pub OthersHide : (ℕ → Option F) → ℕ → ℕ → Type 0
    OthersHide t a o = (b : ℕ) (g : F) → b ≢ a → t b ≡ Some g → HideAll o (frames_of g)

    -- over the store and the frames of those that act
    pub record Tidy (s : Store) (t : ℕ → Option F) : Type 0 where
      pub loud : StoreIs IsLoud s
      pub loud_frames : (a : ℕ) (f : F) → t a ≡ Some f → FramesAre IsLoud (frames_of f)
      -- a number that no object has yet is named nowhere
      pub unmade : (o : ℕ) → new_number s ≤ o → StoreIs (IsOther o) s
      pub unmade_frames : (o : ℕ) → new_number s ≤ o → (a : ℕ) (f : F) → t a ≡ Some f → HideAll o (frames_of f)
      -- nobody but whoever builds an object names it
      pub built : (a : ℕ) (f : F) (o : ℕ) → t a ≡ Some f → Builds o (numbers_of f) (frames_of f) → IsKept (OthersHide t a) s (numbers_of f) (frames_of f) o
