-- Types are preserved: what the variables of a program hold is of their types, in every state of every execution.
use Rattle.std.specs.Prelude.{◌≡◌, ℕ, List, [], ◌∷◌, map, Some}
use Rattle.aos_base.specs.Machine.{Choice, State, execution}
use Rattle.aos_base.specs.Rooted.{Made, by_number}
use Rattle.aos_concurrency.specs.Acting.{acting}
use Rattle.aos_types.specs.Content.{Content, Fits}
use Rattle.aos_types.specs.Shape.{Shape, part}
use Rattle.aos_types.specs.World.{Scheme, World, world}
use Rattle.aos_typed.specs.declared.tree.TType.{TType}
use Rattle.aos_typed.specs.Numbers.{id_of}
use Rattle.aos_typed.specs.Program.{Program}
use Rattle.aos_typed.specs.Routines.{Routine, routines}
use Rattle.aos_typed.specs.Sort.{Sort, variable_shape}
use Rattle.aos_typed.specs.Source.{Frame, Frames, first_state, made_shape, module_shape, source}
use Rattle.aos_typed.specs.Store.{Store}
use Rattle.aos_typed.specs.Typing.{Is}
use Rattle.aos_typed.specs.Value.{Value}
use Rattle.aos_typed.specs.WellTyped.{IsLocal}

-- the shapes of a program's modules, and of what is made
abbrev pub scheme_of : Program → Scheme Sort
scheme_of p = record { modules = map (module_shape p) p.modules; made = made_shape p.types }

module _ (p : Program) where
  -- what is known where the topmost of these frames runs, and objects were made so
  abbrev pub world_at : List Made → List Frame → World Sort
  world_at made fs = world (scheme_of p) made (map (λ f. f.shape) fs)

  -- contents of these shapes, one by one
  abbrev pub AllFit : World Sort → List (Shape Sort) → List (Content Value) → Type 0
  AllFit w [] [] = Unit {0}
  AllFit w [] (c ∷ cs) = ⊥
  AllFit w (s ∷ ss) [] = ⊥
  AllFit w (s ∷ ss) (c ∷ cs) = Fits (Is p w) s c × AllFit w ss cs

  -- what the variables of each module hold is of their types, and what each object holds is of what it was made as
  pub record IsTypedStore (s : Store) : Type 0 where
    pub modules : AllFit (world_at s.made []) (map (module_shape p) p.modules) s.modules
    pub objects : AllFit (world_at s.made []) (map (made_shape p.types) s.made) s.objects

  -- a frame of the routine with this number, on top of others: it holds what is of its shape, of which each local is a part, of its type
  pub record IsTypedFrame (made : List Made) (number : ℕ) (f : Frame) (fs : List Frame) : Type 0 where
    pub routine : Routine
    pub there : by_number number (routines p) ≡ Some routine
    pub locals : (k : ℕ) (t : TType) → IsLocal p routine.own k t → part k f.shape ≡ Some (variable_shape p.types (id_of t))
    pub holds : Fits (Is p (world_at made (f ∷ fs))) f.shape f.variables

  abbrev pub AreTypedFrames : List Made → (numbers : List ℕ) → List Frame → Type 0
  AreTypedFrames made [] [] = Unit {0}
  AreTypedFrames made [] (f ∷ fs) = ⊥
  AreTypedFrames made (n ∷ ns) [] = ⊥
  AreTypedFrames made (n ∷ ns) (f ∷ fs) = IsTypedFrame made n f fs × AreTypedFrames made ns fs

  -- the frames of each activity that acts are of routines with such numbers
  pub record IsTyped (st : State Store Frames) : Type 0 where
    pub store : IsTypedStore st.store
    pub numbers : ℕ → List ℕ
    pub frames : (a : ℕ) (f : Frames) → acting (source p) st a ≡ Some f → AreTypedFrames st.store.made (numbers a) f.frames

  abbrev pub TypesArePreserved : Type 0
  TypesArePreserved = (budget : ℕ) (choices : List Choice) → IsTyped (execution (source p) choices (first_state p budget))
