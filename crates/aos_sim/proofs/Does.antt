-- Code that does what the source does: it asks the same questions, of places that there are and values of the right types, and traps
-- alike, in each world that has grown.
use Rattle.std.proofs.Common.{◌≡◌, true, false, Bool, if◌then◌else◌, ℕ, zero, suc, ◌+◌, ◌≤◌, ◌<◌, ◌^◌, Option, Some, None, List, [], ◌∷◌, ◌++◌, length, map, refl, sym, ap, ◌∙◌, subst, arith}
use Rattle.std.specs.Prelude.{pos, All, is_some, drop, option_map, option_and_then, slice_get}
use Rattle.std.specs.Option.{unwrap_or}
use Rattle.std.proofs.lemmas.Option.{slice_get-map}
use Rattle.std.proofs.lemmas.List.{map-append}
use Rattle.aos_base.specs.declared.limits.TheConstants.{MOST_SCALARS}
use Rattle.aos_base.specs.declared.number.Width.TheVariants.{W64}
use Rattle.aos_base.specs.Question.{Tree, Val, Asks, Traps, bind, feed, Reads, Stores, Copies, PutsText, ComparesTexts, Calls, Ends, Makes, Starts, Enters, Leaves, Awaits, PutsInt, PutsChar, PutsString, PutsNothing, PutsLn, Places, Lengths, Opens, Sizes, Tests, ByName}
use Rattle.aos_base.specs.declared.root.Root.TheVariants.{Frame, Module, Object as ObjectRoot}
use Rattle.aos_base.specs.Rooted.{Made, by_number}
use Rattle.aos_base.specs.Number.{array_lengths}
use Rattle.aos_base.specs.Operators.{flag}
use Rattle.aos_types.specs.declared.row.TypeId.{TypeId}
use Rattle.aos_types.specs.declared.row.TypeRow.{TypeRow}
use Rattle.aos_types.specs.Shape.{Shape, One, Pair, size, join, repeated, part, inside, offset, number_of, row}
use Rattle.aos_types.specs.Content.{Content, Scalar, Empty, Row, flatten, found, Fits, EachSort}
use Rattle.aos_types.specs.Table.{row_of, base_of, has_fields, is_open, is_record, is_scalar}
use Rattle.aos_types.specs.Extension.{comes_to}
use Rattle.aos_types.specs.Chain.{IsRanked}
use Rattle.aos_types.specs.World.{World, Grows, Scheme, shape_at, cell_at}
use Rattle.aos_typed.specs.declared.tree.TType.{TType}
use Rattle.aos_typed.specs.declared.tree.TType.TheVariants as type
use Rattle.aos_typed.specs.Numbers.{id_of, id_of_made, predeclared_types, predeclared_rows}
use Rattle.aos_typed.specs.Open.{open_dimensions, open_element}
use Rattle.aos_typed.specs.Program.{Parameter, Procedure, Program}
use Rattle.aos_typed.specs.Methods.{slots, own_numbers, body_type, is_active}
use Rattle.aos_code.specs.Machine.{has_active_body}
use Rattle.aos_typed.specs.Routines.{Routine, parameters_of, self_type, has_self, result_of, routines}
use Rattle.aos_typed.specs.Sort.{Sort, Plain, Variable, Alias, Elements, Length, variable_shape}
use Rattle.aos_typed.specs.Location.{Location}
use Rattle.aos_typed.specs.Value.{Value, Int, Flag, Object, Place, number_of as number_of_value}
use Rattle.aos_typed.specs.Typing.{Is, IsPlace, OnPlace, IsPlain, IsInteger, IsFlag, IsCharacter, HasLengths, nested}
use Rattle.aos_typed.specs.Source.{module_shape, made_shape, object_place, length_in, known}
use Rattle.aos_typed.specs.Source as S
use Rattle.aos_typed.specs.Store.{scalar_in}
use Rattle.aos_typed.specs.Conditions.{Condition, conditions, HasNoCalls}
use Rattle.aos_typed.specs.WellTyped.{IsOf, is_value, is_whole, IsLength, procedure_in, IsParameter, IsLocal}
use Rattle.aos_typed.specs.Meaning as source
use Rattle.aos_typed.specs.Meaning.{Here, Doing}
use Rattle.aos_code.specs.declared.instr.Cell.{Cell}
use Rattle.aos_code.specs.declared.instr.Cell.TheVariants as cell
use Rattle.aos_code.specs.declared.instr.Kind.TheVariants.{N, A}
use Rattle.aos_code.specs.declared.image.ProcShape.{ProcShape}
use Rattle.aos_code.specs.declared.image.TypeDesc.{TypeDesc}
use Rattle.aos_code.specs.Memory.{Addr}
use Rattle.aos_code.specs.Numbered.{numbered}
use Rattle.aos_code.specs.Silent.{Question, Noted as Notice, Visible, Answered, extends, method_at, noted_as}
use Rattle.aos_layout.specs.Layout.{is_made, made_kinds}
use Rattle.aos_layout.specs.Seen.{seen_shape}
use Rattle.aos_memory_laws.specs.Shows.{Shown}
use Rattle.aos_memory_laws.proofs.Grow.{grows_same, grows_twice, shape_grows, cell_grows}
use Rattle.aos_memory_laws.proofs.Zoom.{zoomed}
use Rattle.aos_memory_laws.proofs.Places.{get_behind}
use Rattle.aos_sim.specs.Code.{kind_of, own_cell}
use Rattle.aos_types.specs.Contents.{variable_scalars}
use Rattle.aos_sim.specs.Cells.{cell_of}
use Rattle.aos_sim.specs.Shows.{shape_of}
use Rattle.aos_memory_laws.proofs.Makes.{shown_grows}
use Rattle.aos_sim.proofs.Runs.{Run, Tables, answered, told_as, or_unknown, calm, calm_visible, calm_answered}
use Rattle.aos_sim.proofs.Kept.{values_kept}
use Rattle.aos_sim.proofs.Methods.{HasMethods}
use Rattle.aos_sim.proofs.Parts.{within_root}
use Rattle.aos_sim.proofs.Types.{IsValueOf, number_cell, integer_is, character_is}

-- the shapes of a program's modules and objects
abbrev pub scheme : Program → Scheme Sort
scheme p = record { modules = map (module_shape p) p.modules; made = made_shape p.types }

abbrev pub addr_of : World Sort → Location → Addr
addr_of w p = record { root = p.root; cell = cell_at w p.root p.path }

-- a length that there is
some_length : (ns : List ℕ) (d : ℕ) → d < length ns → (n : ℕ) × (slice_get ns d ≡ Some n)
some_length [] d l = absurd (omega (arith, l))
some_length (n ∷ ns) zero l = (n, refl)
some_length (n ∷ ns) (suc d) l = some_length ns d (omega (arith, l))

-- lengths are in cells as they are
pub lengths_are : (w : World Sort) (ns : List ℕ) → map (cell_of w) (map (λ n. Int (pos n)) ns) ≡ map (λ n. cell.Num (pos n)) ns
lengths_are w [] = refl
lengths_are w (n ∷ ns) = ap (λ l. cell.Num (pos n) ∷ l) (lengths_are w ns)

-- an object, and not NIL
abbrev pub IsMade : Value → Type 0
IsMade v = (k : ℕ) × (v ≡ Object (suc k))

-- integers, as those that are to be lengths
abbrev pub AreIntegers : List Value → Type 0
AreIntegers [] = Unit {0}
AreIntegers (v ∷ vs) = IsInteger W64 v × AreIntegers vs

-- so many characters
abbrev pub characters : ℕ → Shape Sort
characters n = repeated n (One (Plain (id_of type.Char)))

-- there are so many characters at a place
abbrev pub HasCharacters : World Sort → Location → ℕ → Type 0
HasCharacters w p n = shape_at w p.root p.path ≡ Some (characters n)

-- as many as this value says
abbrev pub HasText : World Sort → Location → Value → Type 0
HasText w p v = (n : ℕ) × (v ≡ Int (pos n)) × HasCharacters w p n

-- and there is room for a 0X
abbrev pub HasRoom : World Sort → Location → Value → Type 0
HasRoom w p v = (n : ℕ) × (v ≡ Int (pos n)) × HasCharacters w p n × (0 < n)

-- the predeclared types stand first
abbrev pub HasPredeclared : Program → Type 0
HasPredeclared p = (k : ℕ) → k < predeclared_types → slice_get p.types k ≡ slice_get predeclared_rows k

-- a module has so few scalars that their cells have numbers of 32 bits
abbrev pub HasFewCells : Program → Type 0
HasFewCells p = (m : ℕ) (s : Shape Sort) → slice_get (map (module_shape p) p.modules) m ≡ Some s → size s < 2 ^ 32

-- what holds of a program's types, and of its modules: the predeclared types stand first, no type contains itself, a base has
-- fields, a module's procedure is no method, and methods override one another in their slots
pub record HasTypes (p : Program) : Type 0 where
  pub predeclared : HasPredeclared p
  pub ranked : IsRanked p.types
  pub bases : (t b : TypeId) → base_of (row_of p.types t) ≡ Some b → has_fields (row_of p.types b) ≡ true
  pub record_bases : (t b : TypeId) → base_of (row_of p.types t) ≡ Some b → is_record (row_of p.types b) ≡ is_record (row_of p.types t)
  pub beside : length p.types ≡ length p.objects + predeclared_types
  pub plain : (m k : ℕ) (q : Procedure) → procedure_in p m k ≡ Some q → q.of ≡ None
  pub methods : HasMethods p

-- the shapes are those of the program's routines, in the order of their numbers, and types extend one another as the program's do,
-- have cells of the same kinds, the methods with the same numbers, and active bodies where the program's do; and modules have few
-- cells
pub record HasShapes (p : Program) (tables : Tables) : Type 0 where
  pub shapes : (q : ℕ) (r : Routine) → by_number q (routines p) ≡ Some r → (x : ProcShape) × (numbered tables.procedures q ≡ Some x) × (seen_shape x ≡ shape_of p.types r)
  pub extend : (d t : ℕ) → extends tables.types d (suc t) ≡ comes_to p.types (id_of_made d) (id_of_made (suc t))
  pub kinds : (k : ℕ) → k < length p.objects → (d : TypeDesc) × (numbered tables.types (suc k) ≡ Some d) × (d.kinds.items ≡ made_kinds p.types (id_of_made (suc k)))
  pub methods : (t k n : ℕ) → t < length p.objects → slice_get (slots p (own_numbers p) t) k ≡ Some n → method_at tables.types (suc t) k ≡ Some n
  pub few : HasFewCells p
  pub dimensions : (t : ℕ) → tables.dimensions t ≡ open_dimensions p.types (id_of_made t)
  pub starts : (t b : ℕ) → body_type p t ≡ Some b → is_active p b ≡ true → has_active_body (numbered tables.types (suc t)) ≡ true

-- the type of what is made so has an active body
pub record HasActiveBody (p : Program) (m : Made) : Type 0 where
  pub of : ℕ
  pub body : ℕ
  pub made : m.type ≡ suc of
  pub has : body_type p of ≡ Some body
  pub active : is_active p body ≡ true

-- What code knows of a world: the shapes of the program's modules, and that of its own frame.

abbrev pub KnowsModules : Program → World Sort → Type 0
KnowsModules p w = (m : ℕ) (s : Shape Sort) → slice_get (map (module_shape p) p.modules) m ≡ Some s → w.shape (Module m) ≡ Some s

-- what a VAR parameter's cell stands for: a record, whose type the place names, or another variable
abbrev pub alias_sort : List TypeRow → TypeId → Sort
alias_sort rows t = if is_record (row_of rows t) then Variable t else Alias t

-- the part of a frame that is a parameter of a type: an open array's place, with the lengths of its dimensions; the place of a variable;
-- or a variable
abbrev pub IsPart : Program → (opens by_reference : Bool) → TypeId → Shape Sort → Type 0
IsPart p true b t s =
    (ns : List ℕ) × (length ns ≡ open_dimensions p.types t) × All IsLength ns
    × (s ≡ Pair (One (Elements (open_element p.types t) ns)) (row (map (λ n. One (Length n)) ns)))
IsPart p false true t s = s ≡ One (alias_sort p.types t)
IsPart p false false t s = s ≡ variable_shape p.types t

-- part k of a frame's shape is this, and stands at the cell that its code takes for it
pub record IsStood (p : Program) (own : Option Procedure) (s : Shape Sort) (k : ℕ) (m : Shape Sort) : Type 0 where
  pub there : part k s ≡ Some m
  pub cell : offset (k ∷ []) s ≡ own_cell p own k

-- a frame of a procedure: its parameters and locals are parts of it
pub record IsFrameOf (p : Program) (own : Option Procedure) (s : Shape Sort) : Type 0 where
  pub parameters : (k : ℕ) (a : Parameter) → IsParameter p own k a → (m : Shape Sort) × IsStood p own s k m × IsPart p (is_open (row_of p.types (id_of a.of))) a.by_reference (id_of a.of) m
  pub locals : (k : ℕ) (t : TType) → IsLocal p own k t → IsStood p own s k (variable_shape p.types (id_of t))
  pub few : size s < 2 ^ 32

-- the object that a method is called on, or whose body it is: its type extends this one
abbrev pub IsSelf : Program → (ℕ → Option Made) → Option ℕ → (object : ℕ) → Type 0
IsSelf p made None o = Unit {0}
IsSelf p made (Some t) o =
    (k : ℕ) × (m : Made) × (o ≡ suc k) × (made (suc k) ≡ Some m) × HasLengths p (row_of p.types (id_of_made m.type)) m
    × (comes_to p.types (id_of_made m.type) (id_of_made (suc t)) ≡ true)

abbrev pub KnowsFrame : Program → Option Procedure → (here : Here) → World Sort → Type 0
KnowsFrame p own here w = (s : Shape Sort) × (w.shape (Frame here.below) ≡ Some s) × IsFrameOf p own s

pub record Knows (p : Program) (own : Option Procedure) (here : Here) (w : World Sort) : Type 0 where
  pub modules : KnowsModules p w
  pub frame : KnowsFrame p own here w
  pub self : IsSelf p w.made (self_type own) here.self

-- Parameters' cells.

-- what stands in one is a place
abbrev pub IsPlaceSort : Sort → Type 0
IsPlaceSort (Plain t) = ⊥
IsPlaceSort (Variable t) = Unit {0}
IsPlaceSort (Alias t) = Unit {0}
IsPlaceSort (Elements t ns) = Unit {0}
IsPlaceSort (Length n) = ⊥

-- what stands at a place has cells with numbers of 32 bits
abbrev pub IsReached : World Sort → Location → Type 0
IsReached w p = (s : Shape Sort) → shape_at w p.root p.path ≡ Some s → cell_at w p.root p.path + size s < 2 ^ 32

-- so has all that stands below the roots of a world
abbrev pub AreReached : World Sort → Type 0
AreReached w = (r : _) (s : Shape Sort) → w.shape r ≡ Some s → size s < 2 ^ 32

-- what is known of all objects of a world: what stands below an object has the shape that it's made as, and each root has cells with
-- numbers of 32 bits
pub record IsWhole (p : Program) (w : World Sort) : Type 0 where
  pub reached : AreReached w
  pub objects : (o : ℕ) (m : Made) → w.made o ≡ Some m → w.shape (ObjectRoot o) ≡ Some (made_shape p.types m)

-- an object that isn't NIL, and what it's made as
pub record IsObject (w : World Sort) (v : Value) (m : Made) : Type 0 where
  pub number : ℕ
  pub is : v ≡ Object (suc number)
  pub made : w.made (suc number) ≡ Some m

module _ (program : Program) where
  -- the question that the code asks where the source asks this one
  abbrev pub placed : World Sort → source.Question → Question
  placed w (Reads t p) = Reads (kind_of program.types t) (addr_of w p)
  placed w (Stores p v) = Stores (addr_of w p) (cell_of w v)
  placed w (Copies t p q) = Copies (variable_scalars program.types (id_of t)) (addr_of w p) (addr_of w q)
  placed w (PutsText strict p n q m) = PutsText strict (addr_of w p) (cell_of w n) (addr_of w q) (cell_of w m)
  placed w (ComparesTexts r p n q m) = ComparesTexts r (addr_of w p) (cell_of w n) (addr_of w q) (cell_of w m)
  placed w (Calls how p vs) = Calls ByName p (map (cell_of w) vs)
  placed w (Ends r) = Ends (option_map (cell_of w) r)
  placed w (Makes t vs) = Makes t (map (cell_of w) vs)
  placed w (Starts v) = Starts (cell_of w v)
  placed w Enters = Enters
  placed w Leaves = Leaves
  placed w (Awaits c) = Awaits c
  placed w (PutsInt v n) = PutsInt (cell_of w v) (cell_of w n)
  placed w (PutsChar v) = PutsChar (cell_of w v)
  placed w (PutsString p n) = PutsString (addr_of w p) (cell_of w n)
  placed w PutsNothing = PutsNothing
  placed w PutsLn = PutsLn
  placed w (Places p) = Places (addr_of w p)
  placed w (Lengths p) = Lengths (addr_of w p)
  placed w (Opens v) = Opens (cell_of w v)
  placed w (Sizes v d) = Sizes (cell_of w v) d
  placed w (Tests v t) = Tests (cell_of w v) t

  -- there is a scalar of this sort at a place
  abbrev pub HasScalar : World Sort → Location → Sort → Type 0
  HasScalar w p k = shape_at w p.root p.path ≡ Some (One k)

  -- there is a variable of this type
  abbrev pub HasPlace : World Sort → Location → TType → Type 0
  HasPlace w p t = shape_at w p.root p.path ≡ Some (variable_shape program.types (id_of t))

  -- what stands at a place begins with a variable of this type
  abbrev pub HasWhole : World Sort → Location → TypeId → Type 0
  HasWhole w p t = (more : Shape Sort) × (shape_at w p.root p.path ≡ Some (join (variable_shape program.types t) more)) × EachSort IsPlain more

  -- What a call hands over for a parameter: a value, a place, or an open array's place and the lengths of its dimensions.
  abbrev pub Handles : (opens by_reference scalar : Bool) → World Sort → TypeId → List Value → Type 0
  Handles true b c w t us =
      (p : Location) × (ns : List ℕ) × (us ≡ Place p ∷ map (λ n. Int (pos n)) ns) × (length ns ≡ open_dimensions program.types t)
      × IsPlace program w (Elements (open_element program.types t) ns) p × All IsLength ns
  Handles false true c w t us = (v : Value) × (us ≡ v ∷ []) × Is program w (alias_sort program.types t) v
  Handles false false true w t us = (v : Value) × (us ≡ v ∷ []) × Is program w (Plain t) v
  Handles false false false w t us = (p : Location) × (us ≡ Place p ∷ []) × HasWhole w p t

  abbrev pub HandlesFor : World Sort → Parameter → List Value → Type 0
  HandlesFor w a us =
      Handles (is_open (row_of program.types (id_of a.of))) a.by_reference (is_scalar (row_of program.types (id_of a.of))) w (id_of a.of) us

  -- these values are handed over for these parameters, in order
  abbrev pub Given : World Sort → List Parameter → List Value → Type 0
  Given w [] vs = vs ≡ []
  Given w (a ∷ as') vs = (us rest : List Value) × (vs ≡ us ++ rest) × HandlesFor w a us × Given w as' rest

  -- a method is called on its first argument
  abbrev pub IsCalledOn : (ℕ → Option Made) → Option ℕ → List Value → Type 0
  IsCalledOn made None vs = Unit {0}
  IsCalledOn made (Some t) vs = (o : ℕ) × (us : List Value) × (vs ≡ Object o ∷ us) × IsSelf program made (Some t) o

  -- the answer of a call: a function's result, and of a procedure any value
  abbrev pub IsAnswer : World Sort → Option TType → Value → Type 0
  IsAnswer w None v = Unit {0}
  IsAnswer w (Some t) v = Is program w (Plain (id_of t)) v

  -- what a frame ends with: a function's result, and a procedure without one
  abbrev pub IsResult : World Sort → Option TType → Option Value → Type 0
  IsResult w None None = Unit {0}
  IsResult w None (Some v) = ⊥
  IsResult w (Some t) None = ⊥
  IsResult w (Some t) (Some v) = Is program w (Plain (id_of t)) v

  -- an answer of the sort that the question has, where the answer matters
  abbrev pub Conforms : World Sort → source.Question → Value → Type 0
  Conforms w (Reads t p) v = Is program w (Plain (id_of t)) v
  Conforms w (Makes t vs) v = (ns : List ℕ) × (array_lengths (map number_of_value vs) ≡ Some ns) × IsObject w v (record { type = t; lengths = ns }) × All (λ n. n ≤ MOST_SCALARS) ns
  Conforms w (ComparesTexts r p n q m) v = IsFlag v
  Conforms w (Calls how q vs) v = (r : Routine) → by_number q (routines program) ≡ Some r → IsAnswer w (result_of r.own) v
  Conforms w (Places p) v = ((k : Sort) → HasScalar w p k → Is program w k v) × OnPlace (IsReached w) v
  Conforms w (Lengths p) v = (k : Sort) → HasScalar w p k → Is program w k v
  Conforms w (Opens u) v =
      (m : Made) → IsObject w u m
      → (v ≡ object_place (source.object_in u) (Some m)) × (w.shape (ObjectRoot (source.object_in u)) ≡ Some (made_shape program.types m)) × OnPlace (IsReached w) v
  Conforms w (Sizes u d) v = (m : Made) → IsObject w u m → v ≡ length_in d (Some m)
  Conforms w (Tests u t) v = (m : Made) → IsObject w u m → v ≡ Flag (comes_to program.types (id_of_made m.type) (id_of_made t))
  Conforms w q v = Unit {0}

  -- in a frame above so many others
  module _ (here : Here) where
    -- a question is at places that there are, and its values are of the sorts that it takes: what is read is a scalar, whose cell
    -- is of the kind that its code takes, what is copied is a record or an array, a text is so many characters, of which one that is
    -- put somewhere has room for a 0X, what is called gets what its parameters take, what is started has an active body, a condition is
    -- one over the frame, and what a
    -- parameter stands for is asked of the frame itself; no program asks for an end, which follows its statements, nor for a region
    abbrev pub Valid : World Sort → source.Question → Type 0
    Valid w (Reads t p) = (is_value program.types t ≡ true) × HasScalar w p (Plain (id_of t))
    Valid w (Stores p v) = (k : Sort) × IsPlain k × HasScalar w p k × Is program w k v
    Valid w (Copies t p q) = HasWhole w p (id_of t) × HasWhole w q (id_of t) × (is_whole (row_of program.types (id_of t)) ≡ true)
    Valid w (Makes t vs) =
        (k : ℕ) × (t ≡ suc k) × (k < length program.objects) × (length vs ≡ open_dimensions program.types (id_of_made t)) × AreIntegers vs
        × (is_made program.types (id_of_made t) ≡ true)
    Valid w (Starts v) = (k : ℕ) × (v ≡ Object (suc k)) × (m : Made) × (w.made (suc k) ≡ Some m) × HasActiveBody program m
    Valid w Enters = ⊥
    Valid w Leaves = ⊥
    Valid w (Awaits c) =
        (d : Condition) × (slice_get (conditions program) c ≡ Some d) × IsOf program d.own d.expression type.Boolean × HasNoCalls d.expression
        × Knows program d.own here w
    Valid w (PutsInt v n) = IsInteger W64 v × IsInteger W64 n
    Valid w (PutsChar v) = IsCharacter v
    Valid w PutsNothing = Unit {0}
    Valid w PutsLn = Unit {0}
    Valid w (PutsText strict p n q m) = HasText w p n × HasRoom w q m
    Valid w (ComparesTexts r p n q m) = HasText w p n × HasText w q m
    Valid w (Calls how q vs) =
        (r : Routine) × (by_number q (routines program) ≡ Some r) × Given w (parameters_of r.own) (S.arguments_in (has_self r.own) vs)
        × IsCalledOn w.made (self_type r.own) vs
    Valid w (Ends r) = ⊥
    Valid w (PutsString p n) = HasText w p n
    Valid w (Places p) = (p.root ≡ Frame here.below) × (k : Sort) × IsPlaceSort k × HasScalar w p k
    Valid w (Lengths p) = (p.root ≡ Frame here.below) × (n : ℕ) × HasScalar w p (Length n)
    Valid w (Opens v) = (m : Made) × IsObject w v m
    Valid w (Sizes v d) = (m : Made) × IsObject w v m × (d < length m.lengths)
    Valid w (Tests v t) = (m : Made) × IsObject w v m × (k : ℕ) × (t ≡ suc k)

    -- the code does what the source does, for all answers of the right sorts: it asks the same questions and has the same traps, which
    -- are those of the language, and where the source comes to a value a, the run that is left is related to a by R
    abbrev pub Does : {A : Type 0} → (World Sort → A → Run → Type 0) → World Sort → Run → Doing A → Type 0
    Does R w m (Val a) = R w a m
    Does R w m (Asks q f) =
        (g : Cell → Run) × (m ≡ Asks (placed w q) g) × Valid w q
        × ((w' : World Sort) → Grows w w' → (v : Value) → Conforms w' q v → Does R w' (g (cell_of w' v)) (f v))
    Does R w m (Traps n c) = (m ≡ Traps n c) × (n < 16)

    -- so it does behind the silent questions that stand first, which the frame's own cells answer, or what objects are made as; where
    -- nothing is left behind them, it is behind them that the run is related to the value
    abbrev pub Calmly : {A : Type 0} → (World Sort → A → Run → Type 0) → List TypeDesc → List Cell → World Sort → Run → Doing A → Type 0
    Calmly R types cells w m (Val a) = (m' : Run) × (m ≡ calm types w.made cells m') × R w a m'
    Calmly R types cells w m (Asks q f) = Does R w m (Asks q f)
    Calmly R types cells w m (Traps n c) = (m ≡ Traps n c) × (n < 16)

    -- and so it does in each whole world that has grown, where no silent question that stands first is answered otherwise
    pub record Lasts {A : Type 0} (R : World Sort → A → Run → Type 0) (types : List TypeDesc) (c : Content Value) (cells : List Cell) (w : World Sort) (m : Run) (r : Doing A) : Type 0 where
      pub heard : (w' : World Sort) → Grows w w' → S.calm program.types w'.made c r ≡ S.calm program.types w.made c r
      pub does : (w' : World Sort) → Grows w w' → IsWhole program w' → Calmly R types cells w' (calm types w'.made cells m) (S.calm program.types w'.made c r)

pub self_grows : (p : Program) (made made' : ℕ → Option Made) → ((o : ℕ) (m : Made) → made o ≡ Some m → made' o ≡ Some m) → (t : Option ℕ) (o : ℕ) → IsSelf p made t o → IsSelf p made' t o
self_grows p made made' up None o h = tt
self_grows p made made' up (Some t) o h = (h.0, h.1, h.2, up (suc h.0) h.1 h.3, h.4, h.5)

pub knows_grows : (p : Program) (own : Option Procedure) (here : Here) (w w' : World Sort) → Grows w w' → Knows p own here w → Knows p own here w'
knows_grows p own here w w' g k =
    record {
      modules = λ m s e. g.shapes (Module m) s (k.modules m s e);
      frame = (k.frame.0, g.shapes (Frame here.below) k.frame.0 k.frame.1, k.frame.2);
      self = self_grows p w.made w'.made g.made (self_type own) here.self k.self;
    }

-- what is at a place is at the same cell in a world that has grown
pub location_cell : (w w' : World Sort) → Grows w w' → (p : Location) (s : Shape Sort) → shape_at w p.root p.path ≡ Some s → cell_of w (Place p) ≡ cell_of w' (Place p)
location_cell w w' g p s h = ap (λ n. cell.Place p.root n p.type) (cell_grows w w' g p.root p.path s h)

pub bind_val : {Q V A : Type 0} (r : Tree Q V A) → bind r (λ a. Val a) ≡ r
bind_val (Val a) = refl
bind_val (Asks q f) = ap (Asks q) (λ i v. bind_val (f v) i)
bind_val (Traps n c) = refl

module _ (program : Program) (here : Here) where
  -- `Does` along equal runs
  pub along : {A : Type 0} (R : World Sort → A → Run → Type 0) (w : World Sort) (m m' : Run) (r : Doing A) → m ≡ m' → Does program here R w m' r → Does program here R w m r
  along R w m m' r e d = subst (λ x. Does program here R w x r) (sym e) d

  -- one piece after another, which goes on in a world that has grown
  pub does_bind : {A C : Type 0} (R : World Sort → A → Run → Type 0) (Q : World Sort → C → Run → Type 0) (w : World Sort) (m : Run) (r : Doing A) (f : A → Doing C) → Does program here R w m r → ((w' : World Sort) → Grows w w' → (a : A) (m' : Run) → R w' a m' → Does program here Q w' m' (f a)) → Does program here Q w m (bind r f)
  does_bind R Q w m (Val a) f d go = go w (grows_same w) a m d
  does_bind R Q w m (Asks q g) f d go =
      (d.0, d.1, d.2, λ w1 up v c. does_bind R Q w1 (d.0 (cell_of w1 v)) (g v) f (d.3 w1 up v c) (λ w2 up' a m' h. go w2 (grows_twice w w1 w2 up up') a m' h))
  does_bind R Q w m (Traps n c) f d go = d

  -- and where the same is known of more
  pub does_more : {A : Type 0} (R Q : World Sort → A → Run → Type 0) (w : World Sort) (m : Run) (r : Doing A) → Does program here R w m r → ((w' : World Sort) → Grows w w' → (a : A) (m' : Run) → R w' a m' → Q w' a m') → Does program here Q w m r
  does_more R Q w m (Val a) d go = go w (grows_same w) a m d
  does_more R Q w m (Asks q f) d go =
      (d.0, d.1, d.2, λ w1 up v c. does_more R Q w1 (d.0 (cell_of w1 v)) (f v) (d.3 w1 up v c) (λ w2 up' a m' h. go w2 (grows_twice w w1 w2 up up') a m' h))
  does_more R Q w m (Traps n c) d go = d

  module _ (w w' : World Sort) (g : Grows w w') where
    -- a place stays there, at its cell
    pub place_grows : (p : Location) (s : Shape Sort) → shape_at w p.root p.path ≡ Some s → shape_at w' p.root p.path ≡ Some s
    place_grows p s h = shape_grows w w' g p.root p.path s h

    pub addr_grows : (p : Location) (s : Shape Sort) → shape_at w p.root p.path ≡ Some s → addr_of w p ≡ addr_of w' p
    addr_grows p s h = ap (λ n. record { root = p.root; cell = n }) (cell_grows w w' g p.root p.path s h)

    whole_grows : (p : Location) (t : TypeId) → HasWhole program w p t → HasWhole program w' p t
    whole_grows p t h = (h.0, place_grows p (join (variable_shape program.types t) h.0) h.1, h.2)

    pub object_grows : (v : Value) (m : Made) → IsObject w v m → IsObject w' v m
    object_grows v m h = record { number = h.number; is = h.is; made = g.made (suc h.number) m h.made }

    object_cell : (v : Value) (m : Made) → IsObject w v m → cell_of w v ≡ cell_of w' v
    object_cell v m h = ap (cell_of w) h.is ∙ sym (ap (cell_of w') h.is)

    made_cell : (v : Value) → IsMade v → cell_of w v ≡ cell_of w' v
    made_cell v h = ap (cell_of w) h.1 ∙ sym (ap (cell_of w') h.1)

    -- a value of a basic type has the same cell everywhere
    pub value_cell : (t : TType) (v : Value) → IsValueOf t v → cell_of w v ≡ cell_of w' v
    value_cell t v h = number_cell w t v h ∙ sym (number_cell w' t v h)

    integer_cell : (v : Value) → IsInteger W64 v → cell_of w v ≡ cell_of w' v
    integer_cell v h = value_cell (type.Integer W64) v (integer_is W64 v h)

    integers_cells : (vs : List Value) → AreIntegers vs → map (cell_of w) vs ≡ map (cell_of w') vs
    integers_cells [] h = refl
    integers_cells (v ∷ vs) h = λ i. integer_cell v h.0 i ∷ integers_cells vs h.1 i

    length_cell : (v : Value) (n : ℕ) → v ≡ Int (pos n) → cell_of w v ≡ cell_of w' v
    length_cell v n e = ap (cell_of w) e ∙ sym (ap (cell_of w') e)

    text_grows : (p : Location) (v : Value) → HasText w p v → HasText w' p v
    text_grows p v h = (h.0, h.1, place_grows p (characters h.0) h.2)

    -- what is handed over
    handles_grow : (o b c : Bool) (t : TypeId) (us : List Value) → Handles program o b c w t us → Handles program o b c w' t us
    handles_grow true b c t us h =
        (h.0, h.1, h.2, h.3, place_grows h.0 (nested h.1 (variable_shape program.types (open_element program.types t))) h.4, h.5)
    handles_grow false true c t us h = (h.0, h.1, (values_kept program).is w w' g (alias_sort program.types t) h.0 h.2)
    handles_grow false false true t us h = (h.0, h.1, (values_kept program).is w w' g (Plain t) h.0 h.2)
    handles_grow false false false t us h = (h.0, h.1, whole_grows h.0 t h.2)

    handles_cells : (o b c : Bool) (t : TypeId) (us : List Value) → Handles program o b c w t us → map (cell_of w) us ≡ map (cell_of w') us
    handles_cells true b c t us h =
        ap (map (cell_of w)) h.2
        ∙ (λ i. location_cell w w' g h.0 (nested h.1 (variable_shape program.types (open_element program.types t))) h.4 i ∷ (lengths_are w h.1 ∙ sym (lengths_are w' h.1)) i)
        ∙ sym (ap (map (cell_of w')) h.2)
    handles_cells false true c t us h =
        ap (map (cell_of w)) h.1 ∙ ap (λ x. x ∷ []) ((values_kept program).cells w w' g (alias_sort program.types t) h.0 h.2) ∙ sym (ap (map (cell_of w')) h.1)
    handles_cells false false true t us h =
        ap (map (cell_of w)) h.1 ∙ ap (λ x. x ∷ []) ((values_kept program).cells w w' g (Plain t) h.0 h.2) ∙ sym (ap (map (cell_of w')) h.1)
    handles_cells false false false t us h =
        ap (map (cell_of w)) h.1 ∙ ap (λ x. x ∷ []) (location_cell w w' g h.0 (join (variable_shape program.types t) h.2.0) h.2.1) ∙ sym (ap (map (cell_of w')) h.1)

    pub given_grows : (as' : List Parameter) (vs : List Value) → Given program w as' vs → Given program w' as' vs
    given_grows [] vs h = h
    given_grows (a ∷ as') vs h =
        let t = id_of a.of in
        (h.0, h.1, h.2, handles_grow (is_open (row_of program.types t)) a.by_reference (is_scalar (row_of program.types t)) t h.0 h.3, given_grows as' h.1 h.4)

    pub given_cells : (as' : List Parameter) (vs : List Value) → Given program w as' vs → map (cell_of w) vs ≡ map (cell_of w') vs
    given_cells [] vs h = ap (map (cell_of w)) h ∙ sym (ap (map (cell_of w')) h)
    given_cells (a ∷ as') vs h =
        let t = id_of a.of in
        let first = handles_cells (is_open (row_of program.types t)) a.by_reference (is_scalar (row_of program.types t)) t h.0 h.3 in
        let rest = given_cells as' h.1 h.4 in
        ap (map (cell_of w)) h.2 ∙ map-append (cell_of w) h.0 h.1 ∙ (λ i. first i ++ rest i)
        ∙ sym (map-append (cell_of w') h.0 h.1) ∙ sym (ap (map (cell_of w')) h.2)

    called_grows : (t : Option ℕ) (vs : List Value) → IsCalledOn program w.made t vs → IsCalledOn program w'.made t vs
    called_grows None vs h = tt
    called_grows (Some t) vs h = (h.0, h.1, h.2, self_grows program w.made w'.made g.made (Some t) h.0 h.3)

    called_cells : (t : Option ℕ) (as' : List Parameter) (vs : List Value) → Given program w as' (S.arguments_in (is_some t) vs) → IsCalledOn program w.made t vs → map (cell_of w) vs ≡ map (cell_of w') vs
    called_cells None as' vs given h = given_cells as' vs given
    called_cells (Some t) as' vs given h =
        let rest = subst (Given program w as') (ap (drop 1) h.2) given in
        ap (map (cell_of w)) h.2 ∙ ap (λ l. cell.Ref h.0 ∷ l) (given_cells as' h.1 rest) ∙ sym (ap (map (cell_of w')) h.2)

    -- a valid question is the same one in a world that has grown
    pub placed_same : (q : source.Question) → Valid program here w q → placed program w q ≡ placed program w' q
    placed_same (Reads t p) h = ap (Reads (kind_of program.types t)) (addr_grows p (One (Plain (id_of t))) h.1)
    placed_same (Stores p v) h = λ i. Stores (addr_grows p (One h.0) h.2 i) ((values_kept program).cells w w' g h.0 v h.3 i)
    placed_same (Makes t vs) h = ap (Makes t) (integers_cells vs h.4)
    placed_same (Starts v) h = ap Starts (made_cell v (h.0, h.1))
    placed_same Enters h = absurd h
    placed_same Leaves h = absurd h
    placed_same (Awaits c) h = refl
    placed_same (PutsInt v n) h = λ i. PutsInt (integer_cell v h.0 i) (integer_cell n h.1 i)
    placed_same (PutsChar v) h = ap PutsChar (value_cell type.Char v (character_is v h))
    placed_same PutsNothing h = refl
    placed_same PutsLn h = refl
    placed_same (Copies t p q) h =
        let s = variable_shape program.types (id_of t) in
        λ i. Copies (variable_scalars program.types (id_of t)) (addr_grows p (join s h.0.0) h.0.1 i) (addr_grows q (join s h.1.0) h.1.1 i)
    placed_same (PutsText strict p n q m) h =
        λ i. PutsText strict (addr_grows p (characters h.0.0) h.0.2 i) (length_cell n h.0.0 h.0.1 i) (addr_grows q (characters h.1.0) h.1.2 i) (length_cell m h.1.0 h.1.1 i)
    placed_same (ComparesTexts r p n q m) h =
        λ i. ComparesTexts r (addr_grows p (characters h.0.0) h.0.2 i) (length_cell n h.0.0 h.0.1 i) (addr_grows q (characters h.1.0) h.1.2 i) (length_cell m h.1.0 h.1.1 i)
    placed_same (Calls how q vs) h = ap (Calls ByName q) (called_cells (self_type h.0.own) (parameters_of h.0.own) vs h.2 h.3)
    placed_same (Ends r) h = absurd h
    placed_same (PutsString p n) h = λ i. PutsString (addr_grows p (characters h.0) h.2 i) (length_cell n h.0 h.1 i)
    placed_same (Places p) h = ap Places (addr_grows p (One h.1) h.3)
    placed_same (Lengths p) h = ap Lengths (addr_grows p (One (Length h.1)) h.2)
    placed_same (Opens v) h = ap Opens (object_cell v h.0 h.1)
    placed_same (Sizes v d) h = ap (λ x. Sizes x d) (object_cell v h.0 h.1)
    placed_same (Tests v t) h = ap (λ x. Tests x t) (object_cell v h.0 h.1)

    pub valid_grows : (q : source.Question) → Valid program here w q → Valid program here w' q
    valid_grows (Reads t p) h = (h.0, place_grows p (One (Plain (id_of t))) h.1)
    valid_grows (Stores p v) h = (h.0, h.1, place_grows p (One h.0) h.2, (values_kept program).is w w' g h.0 v h.3)
    valid_grows (Makes t vs) h = h
    valid_grows (Starts v) h = (h.0, h.1, h.2, g.made (suc h.0) h.2 h.3, h.4)
    valid_grows Enters h = absurd h
    valid_grows Leaves h = absurd h
    valid_grows (Awaits c) h = (h.0, h.1, h.2, h.3, knows_grows program h.0.own here w w' g h.4)
    valid_grows (PutsInt v n) h = h
    valid_grows (PutsChar v) h = h
    valid_grows PutsNothing h = tt
    valid_grows PutsLn h = tt
    valid_grows (Copies t p q) h = (whole_grows p (id_of t) h.0, whole_grows q (id_of t) h.1, h.2)
    valid_grows (PutsText strict p n q m) h = (text_grows p n h.0, (h.1.0, h.1.1, place_grows q (characters h.1.0) h.1.2, h.1.3))
    valid_grows (ComparesTexts r p n q m) h = (text_grows p n h.0, text_grows q m h.1)
    valid_grows (Calls how q vs) h =
        (h.0, h.1, given_grows (parameters_of h.0.own) (S.arguments_in (has_self h.0.own) vs) h.2, called_grows (self_type h.0.own) vs h.3)
    valid_grows (Ends r) h = absurd h
    valid_grows (PutsString p n) h = text_grows p n h
    valid_grows (Places p) h = (h.0, h.1, h.2, place_grows p (One h.1) h.3)
    valid_grows (Lengths p) h = (h.0, h.1, place_grows p (One (Length h.1)) h.2)
    valid_grows (Opens v) h = (h.0, object_grows v h.0 h.1)
    valid_grows (Sizes v d) h = (h.0, object_grows v h.0 h.1, h.2)
    valid_grows (Tests v t) h = (h.0, object_grows v h.0 h.1, h.2, h.3)

    -- what was done in a world is done in the grown one
    pub does_grows : {A : Type 0} (R : World Sort → A → Run → Type 0) → ((a : A) (m : Run) → R w a m → R w' a m) → (m : Run) (r : Doing A) → Does program here R w m r → Does program here R w' m r
    does_grows R up m (Val a) d = up a m d
    does_grows R up m (Asks q f) d =
        (d.0, d.1 ∙ ap (λ p. Asks p d.0) (placed_same q d.2), valid_grows q d.2, λ w2 up' v c. d.3 w2 (grows_twice w w' w2 g up') v c)
    does_grows R up m (Traps n c) d = d

    pub lasts_grow : {A : Type 0} (R : World Sort → A → Run → Type 0) (types : List TypeDesc) (c : Content Value) (cells : List Cell) (m : Run) (r : Doing A) → Lasts program here R types c cells w m r → Lasts program here R types c cells w' m r
    lasts_grow R types c cells m r d =
        record {
          heard = λ w2 up. d.heard w2 (grows_twice w w' w2 g up) ∙ sym (d.heard w' g);
          does = λ w2 up whole. d.does w2 (grows_twice w w' w2 g up) whole;
        }

  -- Silent questions, where the frame's cells show its variables.

  within_reached : (w : World Sort) → AreReached w → (p : Location) → IsReached w p
  within_reached w reached p s e = by (w.shape p.root) refl e
    where
      by : (o : Option (Shape Sort)) → w.shape p.root ≡ o → option_and_then (inside p.path) o ≡ Some s → cell_at w p.root p.path + size s < 2 ^ 32
      by None f e' = absurd (cc)
      by (Some whole) f e' =
          let all = reached p.root whole f in
          let within = within_root w p.root whole f p.path s e in
          omega (arith, all, within)

  -- what stands in a parameter's cell is a place
  module _ (w : World Sort) where
    place_reached : AreReached w → (k : Sort) (v : Value) → IsPlaceSort k → Is program w k v → OnPlace (IsReached w) v
    place_reached reached (Plain t) v p h = absurd p
    place_reached reached (Length n) v p h = absurd p
    place_reached reached k (Place q) p h = within_reached w reached q
    place_reached reached (Variable t) v p h = absurd h
    place_reached reached (Alias t) v p h = absurd h
    place_reached reached (Elements t ns) v p h = absurd h

    place_noted : (k : Sort) (v : Value) → IsPlaceSort k → Is program w k v → noted_as A (Some (cell_of w v)) ≡ Answered (cell_of w v)
    place_noted (Plain t) v p h = absurd p
    place_noted (Length n) v p h = absurd p
    place_noted k (Place q) p h = refl
    place_noted (Variable t) v p h = absurd h
    place_noted (Alias t) v p h = absurd h
    place_noted (Elements t ns) v p h = absurd h

    length_noted : (n : ℕ) (v : Value) → v ≡ Int (pos n) → noted_as N (Some (cell_of w v)) ≡ Answered (cell_of w v)
    length_noted n v e = subst (λ x. noted_as N (Some (cell_of w x)) ≡ Answered (cell_of w x)) (sym e) refl

  module _ (w : World Sort) (s : Shape Sort) (c : Content Value) (cells : List Cell) (at : w.shape (Frame here.below) ≡ Some s) (shown : Shown (Is program) cell_of w s c cells) (whole : IsWhole program w) (tables : Tables) (shaped : HasShapes program tables) where
    -- a scalar of the frame has a value, which is in its cell
    pub record Noticed (p : Location) (k : Sort) : Type 0 where
      pub is : Is program w k (known c p)
      pub cell : slice_get cells (addr_of w p).cell ≡ Some (cell_of w (known c p))

    pub noticed : (p : Location) (k : Sort) → p.root ≡ Frame here.below → HasScalar program w p k → Noticed p k
    noticed p k root has =
        let here_is = ap w.shape root ∙ at in
        let way : inside p.path s ≡ Some (One k) = ap (option_and_then (inside p.path)) (sym here_is) ∙ has in
        let z = zoomed (Is program w) p.path s (One k) c way shown.fits in
        by here_is z.inner z.found z.fits z.front z.back z.whole z.place
      where
        by : w.shape p.root ≡ Some s → (inner : Content Value) → found p.path c ≡ Some inner → Fits (Is program w) (One k) inner → (front back : List Value) → flatten c ≡ front ++ (flatten inner ++ back) → length front ≡ offset p.path s → Noticed p k
        by here_is Empty f fits front back whole place = absurd fits
        by here_is (Row x y) f fits front back whole place = absurd fits
        by here_is (Scalar v) f fits front back whole place =
            let e : known c p ≡ v = ap scalar_in f in
            let n : cell_at w p.root p.path ≡ length front = ap (number_of (offset p.path)) here_is ∙ sym place in
            record {
              is = subst (Is program w k) (sym e) fits;
              cell = (λ i. slice_get (shown.same i) (n i)) ∙ slice_get-map (cell_of w) (flatten c) (length front)
                  ∙ ap (option_map (cell_of w)) (ap (λ l. slice_get l (length front)) whole ∙ get_behind front v back) ∙ ap (λ x. Some (cell_of w x)) (sym e);
            }

    -- What an object tells, by what it's made as.

    abbrev noticed_as : source.Question → Notice
    noticed_as q = answered tables.types w.made cells (placed program w q)

    abbrev opened : Value → Value
    opened v = object_place (source.object_in v) (w.made (source.object_in v))

    made_at : (v : Value) (m : Made) → IsObject w v m → w.made (source.object_in v) ≡ Some m
    made_at v m h = ap (λ u. w.made (source.object_in u)) h.is ∙ h.made

    opens_conform : (v : Value) → Conforms program w (Opens v) (opened v)
    opens_conform v m h =
        let at = made_at v m h in (
          ap (object_place (source.object_in v)) at,
          whole.objects (source.object_in v) m at,
          within_reached w whole.reached (source.place_in (opened v)),
        )

    opens_noticed : (v : Value) (m : Made) → IsObject w v m → noticed_as (Opens v) ≡ Answered (cell_of w (opened v))
    opens_noticed v m h =
        subst (λ u. noticed_as (Opens u) ≡ Answered (cell_of w (opened u))) (sym h.is)
        (ap (told_as (λ x. Answered (cell.Place (ObjectRoot (suc h.number)) 0 x.type))) h.made
        ∙ (λ i. Answered (cell.Place (ObjectRoot (suc h.number)) (first i) (S.type_in (sym h.made i)))))
      where
        first : 0 ≡ cell_at w (ObjectRoot (suc h.number)) []
        first = sym (ap (number_of (offset [])) (whole.objects (suc h.number) m h.made))

    sizes_noticed : (v : Value) (d : ℕ) (m : Made) → IsObject w v m → d < length m.lengths → noticed_as (Sizes v d) ≡ Answered (cell_of w (length_in d (w.made (source.object_in v))))
    sizes_noticed v d m h less =
        let n = some_length m.lengths d less in
        subst (λ u. noticed_as (Sizes u d) ≡ Answered (cell_of w (length_in d (w.made (source.object_in u))))) (sym h.is)
        (ap (told_as (λ x. or_unknown (slice_get x.lengths d))) h.made ∙ ap or_unknown n.1
        ∙ sym (ap (λ x. Answered (cell_of w (length_in d x))) h.made ∙ ap (λ o. Answered (cell.Num (pos (unwrap_or o 0)))) n.1))

    tests_noticed : (v : Value) (k : ℕ) (m : Made) → IsObject w v m → noticed_as (Tests v (suc k)) ≡ Answered (cell_of w (S.has_type_in program.types w.made c (suc k) (w.made (source.object_in v))))
    tests_noticed v k m h =
        subst (λ u. noticed_as (Tests u (suc k)) ≡ Answered (cell_of w (S.has_type_in program.types w.made c (suc k) (w.made (source.object_in u))))) (sym h.is)
        (ap (told_as (λ x. Answered (cell.Num (flag (extends tables.types x.type (suc k)))))) h.made
        ∙ ap (λ b. Answered (cell.Num (flag b))) (shaped.extend m.type k)
        ∙ sym (ap (λ x. Answered (cell_of w (S.has_type_in program.types w.made c (suc k) x))) h.made))

    -- a question that no silent one is
    visible_does : {A : Type 0} (R : World Sort → A → Run → Type 0) (m : Run) (q : source.Question) (f : Value → Doing A) → noticed_as q ≡ Visible → Does program here R w m (Asks q f) → Does program here R w (calm tables.types w.made cells m) (Asks q f)
    visible_does R m q f e d = (d.0, ap (calm tables.types w.made cells) d.1 ∙ calm_visible tables.types w.made cells (placed program w q) d.0 e, d.2, d.3)

    -- what is known of the answer that the frame, or an object, gives at once
    record Noted (q : source.Question) (v : Value) : Type 0 where
      conforms : Conforms program w q v
      cell : noticed_as q ≡ Answered (cell_of w v)

    places_noted : (p : Location) → Valid program here w (Places p) → Noted (Places p) (known c p)
    places_noted p h =
        let k = h.1 in
        let n = noticed p k h.0 h.3 in
        record {
          conforms = ((λ j has. (noticed p j h.0 has).is), place_reached w whole.reached k (known c p) h.2 n.is);
          cell = ap (noted_as A) n.cell ∙ place_noted w k (known c p) h.2 n.is;
        }

    lengths_noted : (p : Location) → Valid program here w (Lengths p) → Noted (Lengths p) (known c p)
    lengths_noted p h =
        let n = noticed p (Length h.1) h.0 h.2 in
        record {
          conforms = λ j has. (noticed p j h.0 has).is;
          cell = ap (noted_as N) n.cell ∙ length_noted w h.1 (known c p) n.is.0;
        }

    opens_noted : (v : Value) → Valid program here w (Opens v) → Noted (Opens v) (opened v)
    opens_noted v h = record { conforms = opens_conform v; cell = opens_noticed v h.0 h.1 }

    sizes_noted : (v : Value) (d : ℕ) → Valid program here w (Sizes v d) → Noted (Sizes v d) (length_in d (w.made (source.object_in v)))
    sizes_noted v d h =
        record {
          conforms = λ m is. ap (length_in d) (made_at v m is);
          cell = sizes_noticed v d h.0 h.1 h.2;
        }

    tests_noted : (v : Value) (t : ℕ) → Valid program here w (Tests v t) → Noted (Tests v t) (S.has_type_in program.types w.made c t (w.made (source.object_in v)))
    tests_noted v t h =
        record {
          conforms = λ m is. ap (S.has_type_in program.types w.made c t) (made_at v m is);
          cell = subst (λ u. noticed_as (Tests v u) ≡ Answered (cell_of w (S.has_type_in program.types w.made c u (w.made (source.object_in v))))) (sym h.3) (tests_noticed v h.2 h.0 h.1);
        }

    -- where code does what the source does, it does so behind their silent questions
    module _ {A : Type 0} (R : World Sort → A → Run → Type 0) where
      abbrev Quiet : Run → Doing A → Type 0
      Quiet m r = Calmly program here R tables.types cells w m (S.calm program.types w.made c r)

      noted_does : (m : Run) (q : source.Question) (f : Value → Doing A) (v : Value) → Noted q v → (d : Does program here R w m (Asks q f)) → (Does program here R w (d.0 (cell_of w v)) (f v) → Quiet (calm tables.types w.made cells (d.0 (cell_of w v))) (f v)) → Quiet (calm tables.types w.made cells m) (f v)
      noted_does m q f v n d ih =
          let e : calm tables.types w.made cells m ≡ calm tables.types w.made cells (d.0 (cell_of w v)) = ap (calm tables.types w.made cells) d.1
          ∙ calm_answered tables.types w.made cells (placed program w q) d.0 (cell_of w v) n.cell in
          subst (λ x. Quiet x (f v)) (sym e) (ih (d.3 w (grows_same w) v n.conforms))

      pub calm_does : (m : Run) (r : Doing A) → Does program here R w m r → Quiet (calm tables.types w.made cells m) r
      calm_does m (Val a) d = (m, refl, d)
      calm_does m (Traps n code) d = (ap (calm tables.types w.made cells) d.0, d.1)
      calm_does m (Asks (Places p) f) d = noted_does m (Places p) f (known c p) (places_noted p d.2) d (λ e. calm_does (d.0 (cell_of w (known c p))) (f (known c p)) e)
      calm_does m (Asks (Lengths p) f) d = noted_does m (Lengths p) f (known c p) (lengths_noted p d.2) d (λ e. calm_does (d.0 (cell_of w (known c p))) (f (known c p)) e)
      calm_does m (Asks (Opens v) f) d = noted_does m (Opens v) f (opened v) (opens_noted v d.2) d (λ e. calm_does (d.0 (cell_of w (opened v))) (f (opened v)) e)
      calm_does m (Asks (Sizes v n) f) d =
          let x = length_in n (w.made (source.object_in v)) in noted_does m (Sizes v n) f x (sizes_noted v n d.2) d (λ e. calm_does (d.0 (cell_of w x)) (f x) e)
      calm_does m (Asks (Tests v t) f) d =
          let x = S.has_type_in program.types w.made c t (w.made (source.object_in v)) in
          noted_does m (Tests v t) f x (tests_noted v t d.2) d (λ e. calm_does (d.0 (cell_of w x)) (f x) e)
      calm_does m (Asks (Reads t p) f) d = visible_does R m (Reads t p) f refl d
      calm_does m (Asks (Stores p v) f) d = visible_does R m (Stores p v) f refl d
      calm_does m (Asks (Copies t p q) f) d = visible_does R m (Copies t p q) f refl d
      calm_does m (Asks (PutsText strict p n q j) f) d = visible_does R m (PutsText strict p n q j) f refl d
      calm_does m (Asks (ComparesTexts r p n q j) f) d = visible_does R m (ComparesTexts r p n q j) f refl d
      calm_does m (Asks (Calls how q vs) f) d = visible_does R m (Calls how q vs) f refl d
      calm_does m (Asks (Ends r) f) d = visible_does R m (Ends r) f refl d
      calm_does m (Asks (Makes t vs) f) d = visible_does R m (Makes t vs) f refl d
      calm_does m (Asks (Starts v) f) d = visible_does R m (Starts v) f refl d
      calm_does m (Asks Enters f) d = visible_does R m Enters f refl d
      calm_does m (Asks Leaves f) d = visible_does R m Leaves f refl d
      calm_does m (Asks (Awaits n) f) d = visible_does R m (Awaits n) f refl d
      calm_does m (Asks (PutsInt v n) f) d = visible_does R m (PutsInt v n) f refl d
      calm_does m (Asks (PutsChar v) f) d = visible_does R m (PutsChar v) f refl d
      calm_does m (Asks (PutsString p n) f) d = visible_does R m (PutsString p n) f refl d
      calm_does m (Asks PutsNothing f) d = visible_does R m PutsNothing f refl d
      calm_does m (Asks PutsLn f) d = visible_does R m PutsLn f refl d

      -- and in a world that has grown they are answered alike
      module _ (w' : World Sort) (g : Grows w w') where
        alike_made : (v : Value) (m : Made) → IsObject w v m → w'.made (source.object_in v) ≡ w.made (source.object_in v)
        alike_made v m h = made_at' h ∙ sym (made_at v m h)
          where
            made_at' : IsObject w v m → w'.made (source.object_in v) ≡ Some m
            made_at' h = ap (λ u. w'.made (source.object_in u)) h.is ∙ g.made (suc h.number) m h.made

        abbrev Alike : Doing A → Type 0
        Alike r = S.calm program.types w'.made c r ≡ S.calm program.types w.made c r

        goes_alike : (m : Run) (q : source.Question) (f : Value → Doing A) (v : Value) → Noted q v → (d : Does program here R w m (Asks q f)) → Does program here R w (d.0 (cell_of w v)) (f v)
        goes_alike m q f v n d = d.3 w (grows_same w) v n.conforms

        -- also where something goes on with it
        module _ {B : Type 0} (on : B → Doing A) where
          pub heard_on : (m : Run) (r : Doing B) → Does program here R w m (bind r on) → S.calm program.types w'.made c r ≡ S.calm program.types w.made c r
          heard_on m (Val a) d = refl
          heard_on m (Traps n code) d = refl
          heard_on m (Asks (Places p) f) d = heard_on (d.0 (cell_of w (known c p))) (f (known c p)) (goes_alike m (Places p) (λ v. bind (f v) on) (known c p) (places_noted p d.2) d)
          heard_on m (Asks (Lengths p) f) d = heard_on (d.0 (cell_of w (known c p))) (f (known c p)) (goes_alike m (Lengths p) (λ v. bind (f v) on) (known c p) (lengths_noted p d.2) d)
          heard_on m (Asks (Opens v) f) d =
              ap (λ x. S.calm program.types w'.made c (f (object_place (source.object_in v) x))) (alike_made v d.2.0 d.2.1)
              ∙ heard_on (d.0 (cell_of w (opened v))) (f (opened v)) (goes_alike m (Opens v) (λ x. bind (f x) on) (opened v) (opens_noted v d.2) d)
          heard_on m (Asks (Sizes v n) f) d =
              let x = length_in n (w.made (source.object_in v)) in
              ap (λ y. S.calm program.types w'.made c (f (length_in n y))) (alike_made v d.2.0 d.2.1) ∙ heard_on (d.0 (cell_of w x)) (f x) (goes_alike m (Sizes v n) (λ y. bind (f y) on) x (sizes_noted v n d.2) d)
          heard_on m (Asks (Tests v t) f) d =
              let x = S.has_type_in program.types w.made c t (w.made (source.object_in v)) in
              ap (λ y. S.calm program.types w'.made c (f (S.has_type_in program.types w.made c t y))) (alike_made v d.2.0 d.2.1)
              ∙ heard_on (d.0 (cell_of w x)) (f x) (goes_alike m (Tests v t) (λ y. bind (f y) on) x (tests_noted v t d.2) d)
          heard_on m (Asks (Reads t p) f) d = refl
          heard_on m (Asks (Stores p v) f) d = refl
          heard_on m (Asks (Copies t p q) f) d = refl
          heard_on m (Asks (PutsText strict p n q j) f) d = refl
          heard_on m (Asks (ComparesTexts r p n q j) f) d = refl
          heard_on m (Asks (Calls how q vs) f) d = refl
          heard_on m (Asks (Ends r) f) d = refl
          heard_on m (Asks (Makes t vs) f) d = refl
          heard_on m (Asks (Starts v) f) d = refl
          heard_on m (Asks Enters f) d = refl
          heard_on m (Asks Leaves f) d = refl
          heard_on m (Asks (Awaits n) f) d = refl
          heard_on m (Asks (PutsInt v n) f) d = refl
          heard_on m (Asks (PutsChar v) f) d = refl
          heard_on m (Asks (PutsString p n) f) d = refl
          heard_on m (Asks PutsNothing f) d = refl
          heard_on m (Asks PutsLn f) d = refl

        pub calm_heard : (m : Run) (r : Doing A) → Does program here R w m r → Alike r
        calm_heard m r d = heard_on (λ a. Val a) m r (subst (λ z. Does program here R w m z) (sym (bind_val r)) d)

  -- in each whole world that has grown
  pub does_last : {A : Type 0} (R : World Sort → A → Run → Type 0) (w : World Sort) (s : Shape Sort) (c : Content Value) (cells : List Cell) (tables : Tables) (m : Run) (r : Doing A) → ((w' : World Sort) → Grows w w' → (a : A) (m : Run) → R w a m → R w' a m) → w.shape (Frame here.below) ≡ Some s → Shown (Is program) cell_of w s c cells → IsWhole program w → HasShapes program tables → Does program here R w m r → Lasts program here R tables.types c cells w m r
  does_last R w s c cells tables m r up at shown whole shaped d =
      record {
        heard = λ w' g. calm_heard w s c cells at shown whole tables shaped R w' g m r d;
        does = λ w' g whole'.
            calm_does w' s c cells (g.shapes (Frame here.below) s at) (shown_grows (Is program) cell_of IsPlain (values_kept program) w w' g s c cells shown) whole' tables shaped R m r (does_grows w w' g R (up w' g) m r d);
      }

-- a question that is asked of no frame itself and of no object, and what has no other one first
abbrev pub IsVisible : source.Question → Type 0
IsVisible (Places p) = ⊥
IsVisible (Lengths p) = ⊥
IsVisible (Opens v) = ⊥
IsVisible (Sizes v d) = ⊥
IsVisible (Tests v t) = ⊥
IsVisible q = Unit {0}

abbrev pub IsCalm : {A : Type 0} → Doing A → Type 0
IsCalm (Val a) = Unit {0}
IsCalm (Asks q f) = IsVisible q
IsCalm (Traps n c) = Unit {0}

-- What objects that are made so tell.

abbrev opens : (ℕ → Option Made) → Value → Value
opens made v = object_place (source.object_in v) (made (source.object_in v))

abbrev sizes : (ℕ → Option Made) → Value → ℕ → Value
sizes made v d = length_in d (made (source.object_in v))

abbrev tests : List TypeRow → (ℕ → Option Made) → Content Value → Value → ℕ → Value
tests rows made c v t = S.has_type_in rows made c t (made (source.object_in v))

-- With what objects are made as, in a frame whose variables hold this, what is left behind the silent questions has none first, and
-- is left once these are answered.
module _ {A : Type 0} (rows : List TypeRow) (made : ℕ → Option Made) (c : Content Value) where
  pub calm_again : (r : Doing A) → S.calm rows made c (S.calm rows made c r) ≡ S.calm rows made c r
  calm_again (Val a) = refl
  calm_again (Traps n code) = refl
  calm_again (Asks (Places p) f) = calm_again (f (known c p))
  calm_again (Asks (Lengths p) f) = calm_again (f (known c p))
  calm_again (Asks (Opens v) f) = calm_again (f (opens made v))
  calm_again (Asks (Sizes v d) f) = calm_again (f (sizes made v d))
  calm_again (Asks (Tests v u) f) = calm_again (f (tests rows made c v u))
  calm_again (Asks (Reads t p) f) = refl
  calm_again (Asks (Stores p v) f) = refl
  calm_again (Asks (Copies t p q) f) = refl
  calm_again (Asks (PutsText strict p n q m) f) = refl
  calm_again (Asks (ComparesTexts r p n q m) f) = refl
  calm_again (Asks (Calls how q vs) f) = refl
  calm_again (Asks (Ends r) f) = refl
  calm_again (Asks (Makes t vs) f) = refl
  calm_again (Asks (Starts v) f) = refl
  calm_again (Asks Enters f) = refl
  calm_again (Asks Leaves f) = refl
  calm_again (Asks (Awaits n) f) = refl
  calm_again (Asks (PutsInt v n) f) = refl
  calm_again (Asks (PutsChar v) f) = refl
  calm_again (Asks (PutsString p n) f) = refl
  calm_again (Asks PutsNothing f) = refl
  calm_again (Asks PutsLn f) = refl

  pub feed_noted : (r : Doing A) → feed (S.noted rows made c r) r ≡ S.calm rows made c r
  feed_noted (Val a) = refl
  feed_noted (Traps n code) = refl
  feed_noted (Asks (Places p) f) = feed_noted (f (known c p))
  feed_noted (Asks (Lengths p) f) = feed_noted (f (known c p))
  feed_noted (Asks (Opens v) f) = feed_noted (f (opens made v))
  feed_noted (Asks (Sizes v d) f) = feed_noted (f (sizes made v d))
  feed_noted (Asks (Tests v u) f) = feed_noted (f (tests rows made c v u))
  feed_noted (Asks (Reads t p) f) = refl
  feed_noted (Asks (Stores p v) f) = refl
  feed_noted (Asks (Copies t p q) f) = refl
  feed_noted (Asks (PutsText strict p n q m) f) = refl
  feed_noted (Asks (ComparesTexts r p n q m) f) = refl
  feed_noted (Asks (Calls how q vs) f) = refl
  feed_noted (Asks (Ends r) f) = refl
  feed_noted (Asks (Makes t vs) f) = refl
  feed_noted (Asks (Starts v) f) = refl
  feed_noted (Asks Enters f) = refl
  feed_noted (Asks Leaves f) = refl
  feed_noted (Asks (Awaits n) f) = refl
  feed_noted (Asks (PutsInt v n) f) = refl
  feed_noted (Asks (PutsChar v) f) = refl
  feed_noted (Asks (PutsString p n) f) = refl
  feed_noted (Asks PutsNothing f) = refl
  feed_noted (Asks PutsLn f) = refl

  pub calm_seen : (r : Doing A) → IsCalm (S.calm rows made c r)
  calm_seen (Val a) = tt
  calm_seen (Traps n code) = tt
  calm_seen (Asks (Places p) f) = calm_seen (f (known c p))
  calm_seen (Asks (Lengths p) f) = calm_seen (f (known c p))
  calm_seen (Asks (Opens v) f) = calm_seen (f (opens made v))
  calm_seen (Asks (Sizes v d) f) = calm_seen (f (sizes made v d))
  calm_seen (Asks (Tests v u) f) = calm_seen (f (tests rows made c v u))
  calm_seen (Asks (Reads t p) f) = tt
  calm_seen (Asks (Stores p v) f) = tt
  calm_seen (Asks (Copies t p q) f) = tt
  calm_seen (Asks (PutsText strict p n q m) f) = tt
  calm_seen (Asks (ComparesTexts r p n q m) f) = tt
  calm_seen (Asks (Calls how q vs) f) = tt
  calm_seen (Asks (Ends r) f) = tt
  calm_seen (Asks (Makes t vs) f) = tt
  calm_seen (Asks (Starts v) f) = tt
  calm_seen (Asks Enters f) = tt
  calm_seen (Asks Leaves f) = tt
  calm_seen (Asks (Awaits n) f) = tt
  calm_seen (Asks (PutsInt v n) f) = tt
  calm_seen (Asks (PutsChar v) f) = tt
  calm_seen (Asks (PutsString p n) f) = tt
  calm_seen (Asks PutsNothing f) = tt
  calm_seen (Asks PutsLn f) = tt

  pub calm_visible_same : (q : source.Question) (f : Value → Doing A) → IsVisible q → S.calm rows made c (Asks q f) ≡ Asks q f
  calm_visible_same (Places p) f h = absurd h
  calm_visible_same (Lengths p) f h = absurd h
  calm_visible_same (Opens v) f h = absurd h
  calm_visible_same (Sizes v d) f h = absurd h
  calm_visible_same (Tests v t) f h = absurd h
  calm_visible_same (Reads t p) f h = refl
  calm_visible_same (Stores p v) f h = refl
  calm_visible_same (Copies t p q) f h = refl
  calm_visible_same (PutsText strict p n q m) f h = refl
  calm_visible_same (ComparesTexts r p n q m) f h = refl
  calm_visible_same (Calls how q vs) f h = refl
  calm_visible_same (Ends r) f h = refl
  calm_visible_same (Makes t vs) f h = refl
  calm_visible_same (Starts v) f h = refl
  calm_visible_same Enters f h = refl
  calm_visible_same Leaves f h = refl
  calm_visible_same (Awaits c) f h = refl
  calm_visible_same (PutsInt v n) f h = refl
  calm_visible_same (PutsChar v) f h = refl
  calm_visible_same (PutsString p n) f h = refl
  calm_visible_same PutsNothing f h = refl
  calm_visible_same PutsLn f h = refl

  -- in any world
  pub calm_stays : (r : Doing A) → IsCalm r → S.calm rows made c r ≡ r
  calm_stays (Val a) h = refl
  calm_stays (Asks q f) h = calm_visible_same q f h
  calm_stays (Traps n code) h = refl

  -- and so is what goes on with it
  module _ {B : Type 0} (on : A → Doing B) where
    pub calm_bind : (r : Doing A) → S.calm rows made c (bind r on) ≡ S.calm rows made c (bind (S.calm rows made c r) on)
    calm_bind (Val a) = refl
    calm_bind (Traps n code) = refl
    calm_bind (Asks (Places p) f) = calm_bind (f (known c p))
    calm_bind (Asks (Lengths p) f) = calm_bind (f (known c p))
    calm_bind (Asks (Opens v) f) = calm_bind (f (opens made v))
    calm_bind (Asks (Sizes v d) f) = calm_bind (f (sizes made v d))
    calm_bind (Asks (Tests v u) f) = calm_bind (f (tests rows made c v u))
    calm_bind (Asks (Reads t p) f) = refl
    calm_bind (Asks (Stores p v) f) = refl
    calm_bind (Asks (Copies t p q) f) = refl
    calm_bind (Asks (PutsText strict p n q m) f) = refl
    calm_bind (Asks (ComparesTexts r p n q m) f) = refl
    calm_bind (Asks (Calls how q vs) f) = refl
    calm_bind (Asks (Ends r) f) = refl
    calm_bind (Asks (Makes t vs) f) = refl
    calm_bind (Asks (Starts v) f) = refl
    calm_bind (Asks Enters f) = refl
    calm_bind (Asks Leaves f) = refl
    calm_bind (Asks (Awaits n) f) = refl
    calm_bind (Asks (PutsInt v n) f) = refl
    calm_bind (Asks (PutsChar v) f) = refl
    calm_bind (Asks (PutsString p n) f) = refl
    calm_bind (Asks PutsNothing f) = refl
    calm_bind (Asks PutsLn f) = refl

    pub feed_noted_bind : (r : Doing A) → feed (S.noted rows made c r) (bind r on) ≡ bind (S.calm rows made c r) on
    feed_noted_bind (Val a) = refl
    feed_noted_bind (Traps n code) = refl
    feed_noted_bind (Asks (Places p) f) = feed_noted_bind (f (known c p))
    feed_noted_bind (Asks (Lengths p) f) = feed_noted_bind (f (known c p))
    feed_noted_bind (Asks (Opens v) f) = feed_noted_bind (f (opens made v))
    feed_noted_bind (Asks (Sizes v d) f) = feed_noted_bind (f (sizes made v d))
    feed_noted_bind (Asks (Tests v u) f) = feed_noted_bind (f (tests rows made c v u))
    feed_noted_bind (Asks (Reads t p) f) = refl
    feed_noted_bind (Asks (Stores p v) f) = refl
    feed_noted_bind (Asks (Copies t p q) f) = refl
    feed_noted_bind (Asks (PutsText strict p n q m) f) = refl
    feed_noted_bind (Asks (ComparesTexts r p n q m) f) = refl
    feed_noted_bind (Asks (Calls how q vs) f) = refl
    feed_noted_bind (Asks (Ends r) f) = refl
    feed_noted_bind (Asks (Makes t vs) f) = refl
    feed_noted_bind (Asks (Starts v) f) = refl
    feed_noted_bind (Asks Enters f) = refl
    feed_noted_bind (Asks Leaves f) = refl
    feed_noted_bind (Asks (Awaits n) f) = refl
    feed_noted_bind (Asks (PutsInt v n) f) = refl
    feed_noted_bind (Asks (PutsChar v) f) = refl
    feed_noted_bind (Asks (PutsString p n) f) = refl
    feed_noted_bind (Asks PutsNothing f) = refl
    feed_noted_bind (Asks PutsLn f) = refl

-- What lasts of a tree lasts once its silent questions are answered.
module _ {A : Type 0} (program : Program) (here : Here) (R : World Sort → A → Run → Type 0) (types : List TypeDesc) (c : Content Value) (cells : List Cell) (w : World Sort) (m : Run) where
  abbrev calmed : World Sort → Doing A → Doing A
  calmed w r = S.calm program.types w.made c r

  -- a tree that is left as another is
  lasts_as : (r r' : Doing A) → ((w' : World Sort) → Grows w w' → calmed w' r' ≡ calmed w' r) → Lasts program here R types c cells w m r → Lasts program here R types c cells w m r'
  lasts_as r r' same d =
      record {
        heard = λ w' g. same w' g ∙ d.heard w' g ∙ sym (same w (grows_same w));
        does = λ w' g whole. subst (λ z. Calmly program here R types cells w' (calm types w'.made cells m) z) (sym (same w' g)) (d.does w' g whole);
      }

  pub lasts_calm : (r : Doing A) → Lasts program here R types c cells w m r → Lasts program here R types c cells w m (calmed w r)
  lasts_calm r d =
      lasts_as r (calmed w r) (λ w' g. calm_stays program.types w'.made c (calmed w r) (calm_seen program.types w.made c r) ∙ sym (d.heard w' g)) d

  pub lasts_calm_on : {B : Type 0} (on : B → Doing A) (r : Doing B) → ((w' : World Sort) → Grows w w' → S.calm program.types w'.made c r ≡ S.calm program.types w.made c r) → Lasts program here R types c cells w m (bind r on) → Lasts program here R types c cells w m (bind (S.calm program.types w.made c r) on)
  lasts_calm_on on r heard d =
      lasts_as (bind r on) (bind (S.calm program.types w.made c r) on)
      (λ w' g. ap (λ z. S.calm program.types w'.made c (bind z on)) (sym (heard w' g)) ∙ sym (calm_bind program.types w'.made c on r)) d
