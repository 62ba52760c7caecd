-- Which variables the places of a running program are parts of, by what objects are made as.
use Rattle.std.specs.Prelude.{◌≡◌, ◌⊎◌, ℕ, suc, List, [], ◌∷◌, drop, Bool, true, false, IsTrue, Option, Some, if◌then◌else◌, slice_get}
use Rattle.aos_base.specs.declared.root.Root.{Root}
use Rattle.aos_base.specs.declared.root.Root.TheVariants as root
use Rattle.aos_base.specs.Question.{Reads, Calls, Makes, ComparesTexts, Lengths, Sizes, Places, Opens, Tests, Asks, Val, Traps}
use Rattle.aos_base.specs.Rooted.{Made, by_number}
use Rattle.aos_types.specs.declared.row.TypeId.{TypeId}
use Rattle.aos_types.specs.Extension.{comes_to}
use Rattle.aos_types.specs.Table.{row_of, is_object, is_open}
use Rattle.aos_typed.specs.declared.tree.TType.{TType}
use Rattle.aos_typed.specs.Fields.{declarer}
use Rattle.aos_typed.specs.Formals.{HasFormals, pattern_of}
use Rattle.aos_typed.specs.CallFrame.{head}
use Rattle.aos_typed.specs.Numbers.{id_of, id_of_made}
use Rattle.aos_typed.specs.Open.{open_dimensions}
use Rattle.aos_typed.specs.Program.{Parameter, Procedure, Program}
use Rattle.aos_typed.specs.Routines.{Routine, has_self, parameters_of, result_of, routine_of, routines}
use Rattle.aos_typed.specs.Location.{Location}
use Rattle.aos_typed.specs.Value.{Value, Int, Flag, Char, Set, Object, Callable, Place}
use Rattle.aos_typed.specs.Meaning.{Question, Doing, instance_in, object_in, on_instance, place_in, procedure_in}
use Rattle.aos_typed.specs.Source.{arguments_in, object_place}
use Rattle.aos_typed.specs.WellTyped.{is_reference, target}
use Rattle.aos_uses.specs.declared.uses.Target.{Target}
use Rattle.aos_uses.specs.declared.uses.Variable.{Variable}
use Rattle.aos_uses.specs.declared.uses.Variable.TheVariants as variable
use Rattle.aos_uses.specs.Guarded.{IsGuarded, is_by_value}

abbrev pub InFrame : Root → Type 0
InFrame r = (d : ℕ) × (r ≡ root.Frame d)

-- a way begins with this part, or leads to the whole
abbrev pub Begins : ℕ → List ℕ → Type 0
Begins k [] = Unit {0}
Begins k (j ∷ js) = j ≡ k

-- a way begins with this part
abbrev pub StartsWith : ℕ → List ℕ → Type 0
StartsWith k path = (rest : List ℕ) × (path ≡ k ∷ rest)

module _ (p : Program) where
  -- a field of an object that is made so, by the type that declares it
  abbrev pub field_of : Made → ℕ → Variable
  field_of m k = variable.Field (declarer p.types (id_of_made m.type) k).0 k

  -- it is an object, and no record or array
  abbrev pub HasFields : Made → Type 0
  HasFields m = is_object (row_of p.types (id_of_made m.type)) ≡ true

  -- a procedure's open array parameter by value, of which each call makes a copy
  pub record HasCopy (own : Option Procedure) (k : ℕ) : Type 0 where
    pub parameter : Parameter
    pub there : slice_get (parameters_of own) k ≡ Some parameter
    pub is_opened : is_open (row_of p.types (id_of parameter.of)) ≡ true
    pub by_value : parameter.by_reference ≡ false

  -- what the cell of such a parameter holds is a place in a frame: that of the copy
  abbrev pub IsCopied : Option Procedure → (path : List ℕ) → Value → Type 0
  IsCopied own path v = (k : ℕ) → HasCopy own k → path ≡ k ∷ 0 ∷ [] → InFrame (place_in v).root

  module _ (made : ℕ → Option Made) where
    -- what stands there is of no guarded variable, in whole or in part
    abbrev pub IsFreeAt : Root → List ℕ → Type 0
    IsFreeAt (root.Frame d) path = Unit {0}
    IsFreeAt (root.Module m) path = (k : ℕ) → Begins k path → IsGuarded p (variable.Module m k) → ⊥
    IsFreeAt (root.Object o) path = (m : Made) × (made o ≡ Some m) × (HasFields m → (k : ℕ) → Begins k path → IsGuarded p (field_of m k) → ⊥)

    -- a value is no place of a guarded variable
    abbrev pub IsFree : Value → Type 0
    IsFree (Place s) = IsFreeAt s.root s.path
    IsFree (Int z) = Unit {0}
    IsFree (Flag b) = Unit {0}
    IsFree (Char c) = Unit {0}
    IsFree (Set x) = Unit {0}
    IsFree (Object o) = Unit {0}
    IsFree (Callable q o) = Unit {0}

    -- Values of a type: an object whose type extends the one to which it leads, or NIL; a procedure with the formals of the type, or none; and
    -- no place of a guarded variable.
    abbrev pub IsMadeFor : TType → ℕ → Type 0
    IsMadeFor t o = (m : Made) × (made o ≡ Some m) × ((b : TypeId) → target p.types t ≡ Some b → comes_to p.types (id_of_made m.type) b ≡ true)

    pub record StandsFor (q : Procedure) (v : Value) : Type 0 where
      pub home : ℕ
      pub procedure : Procedure
      pub there : by_number (procedure_in v) (routines p) ≡ Some (routine_of home procedure)
      pub formals : HasFormals p.types procedure q
      pub handed : (vs : List Value) → arguments_in (has_self (Some procedure)) (on_instance (instance_in v) vs) ≡ vs

    pub record Serves (t : TType) (v : Value) : Type 0 where
      pub points : is_reference p.types t ≡ true → (object_in v ≡ 0) ⊎ IsMadeFor t (object_in v)
      pub calls : (q : Procedure) → pattern_of p t ≡ Some q → (procedure_in v ≡ 0) ⊎ StandsFor q v
      pub free : IsFree v

    -- no VAR parameter of these is handed a place of a guarded variable
    abbrev pub AreFreeFor : List Parameter → List Value → Type 0
    AreFreeFor [] vs = Unit {0}
    AreFreeFor (a ∷ as') vs =
        let t = id_of a.of in
        (a.by_reference ≡ true → IsFree (head vs))
        × AreFreeFor as' (drop (if is_open (row_of p.types t) then suc (open_dimensions p.types t) else 1) vs)

    -- In a frame of this procedure, or of none.
    module _ (own : Option Procedure) where
      -- a place is the variable that a designator names, or a part of it; of a parameter or of what a pointer leads to it is no guarded one,
      -- and of an open array that is passed by value it is one in a frame
      abbrev pub IsOf : (self : ℕ) → Location → (through_self : Bool) → Variable → Type 0
      IsOf self s through (variable.Module m k) = (s.root ≡ root.Module m) × StartsWith k s.path
      IsOf self s through (variable.Field u k) =
          (o : ℕ) × (m : Made) × (s.root ≡ root.Object (suc o)) × (made (suc o) ≡ Some m) × HasFields m × (field_of m k ≡ variable.Field u k)
          × StartsWith k s.path × (IsTrue through → suc o ≡ self)
      IsOf self s through variable.Local = InFrame s.root
      IsOf self s through variable.Passed = IsFreeAt s.root s.path
      IsOf self s through (variable.Opened k) = IsFreeAt s.root s.path × (IsTrue (is_by_value own k) → InFrame s.root)
      IsOf self s through variable.Heap = IsFreeAt s.root s.path

      abbrev pub IsAt : (self : ℕ) → Location → Target → Type 0
      IsAt self s t = IsOf self s t.through_self t.of

      -- an answer is true; a length is no place
      abbrev pub IsTold : Question → Value → Type 0
      IsTold (Reads t s) v = Serves t v
      IsTold (Calls how n vs) v = (r : Routine) (t : TType) → by_number n (routines p) ≡ Some r → result_of r.own ≡ Some t → Serves t v
      IsTold (Opens u) v = (m : Made) × (made (object_in u) ≡ Some m) × (v ≡ object_place (object_in u) (Some m))
      IsTold (Tests u t) v = (m : Made) × (made (object_in u) ≡ Some m) × (v ≡ Flag (comes_to p.types (id_of_made m.type) (id_of_made t)))
      IsTold (Places s) v = IsFree v × IsCopied own s.path v
      IsTold (Lengths s) v = IsFree v
      IsTold (Sizes u d) v = IsFree v
      IsTold (ComparesTexts c a i b j) v = (x : Bool) × (v ≡ Flag x)
      IsTold (Makes t vs) v = IsFree v
      IsTold q v = Unit {0}

      -- these answers are
      abbrev pub AreTold : {A : Type 0} → List Value → Doing A → Type 0
      AreTold [] d = Unit {0}
      AreTold (v ∷ vs) (Val a) = Unit {0}
      AreTold (v ∷ vs) (Traps n c) = Unit {0}
      AreTold (v ∷ vs) (Asks q k) = IsTold q v × AreTold vs (k v)
