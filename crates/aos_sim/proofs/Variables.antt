-- The variables and string constants of modules, and the parameters and locals of a frame: each stands at the cell that its code
-- names, and a variable of a basic type or of an object type is one scalar.
use Rattle.std.proofs.Common.{◌≡◌, ℕ, ◌+◌, ◌<◌, ◌^◌, List, [], ◌∷◌, ◌++◌, length, map, Option, Some, None, Bool, true, false, if◌then◌else◌, refl, sym, ap, ◌∙◌, subst, arith}
use Rattle.std.proofs.Common.{◌⊎◌, inl, inr}
use Rattle.std.specs.Prelude.{All, slice_get, option_map, option_and_then}
use Rattle.std.proofs.lemmas.List.{length-map}
use Rattle.std.proofs.lemmas.Option.{slice_get-map}
use Rattle.aos_base.specs.declared.number.Width.TheVariants.{W8, W16, W32, W64}
use Rattle.aos_base.specs.declared.root.Root.TheVariants.{Frame as FrameRoot, Module as ModuleRoot}
use Rattle.aos_types.specs.declared.row.TypeId.{TypeId}
use Rattle.aos_types.specs.declared.row.TypeRow.{TypeRow}
use Rattle.aos_types.specs.declared.row.TypeRow.TheVariants as row
use Rattle.aos_types.specs.Table.{row_of, is_object, is_open}
use Rattle.aos_types.specs.Shape.{Shape, One, Pair, size, part, inside, offset, number_of, shaped, row as row_of_shapes}
use Rattle.aos_types.specs.Contents.{contents, with_parts, unfolded}
use Rattle.aos_types.specs.World.{World, shape_at, cell_at}
use Rattle.aos_typed.specs.declared.tree.TType.{TType}
use Rattle.aos_typed.specs.declared.tree.TType.TheVariants as type
use Rattle.aos_typed.specs.Program.{ModuleVar, Variable, Parameter, Procedure, Module, Program}
use Rattle.aos_typed.specs.Open.{open_dimensions, open_element}
use Rattle.aos_typed.specs.Numbers.{id_of}
use Rattle.aos_typed.specs.Sort.{Sort, Plain, Elements, Length, variable_shape}
use Rattle.aos_typed.specs.Text.{text_shape}
use Rattle.aos_typed.specs.Value.{Value}
use Rattle.aos_typed.specs.Typing.{Is, IsPlainly}
use Rattle.aos_typed.specs.Source.{module_shape}
use Rattle.aos_typed.specs.WellTyped.{is_basic, variable_type, IsConstantText, IsLength, IsParameter, IsLocal, IsByReference, IsByValue}
use Rattle.aos_typed.specs.Meaning.{Here}
use Rattle.aos_sim.specs.Code.{variable_cell, own_cell}
use Rattle.aos_sim.proofs.Types.{IsValueOf, basic_of, from_basic, to_basic}
use Rattle.aos_sim.proofs.Parts.{part_of_row, within_root}
use Rattle.aos_sim.proofs.Does.{HasPredeclared, HasFewCells, alias_sort, IsPart, IsStood, KnowsModules, KnowsFrame, characters}
use Rattle.aos_sim.proofs.First.{get_left, get_right}

module _ (rows : List TypeRow) (t : TypeId) where
  -- a variable of a basic type is one scalar
  pub basic_variable : (b : _) → row_of rows t ≡ Some (row.Basic b) → variable_shape rows t ≡ One (Plain t)
  basic_variable b e =
      ap (λ o. shaped Plain (if is_object o then One t else with_parts (unfolded (length rows) rows) rows t o)) e

  -- so is one of a type whose values are objects or procedures, or NIL
  pub pointer_variable : (u : TypeId) → row_of rows t ≡ Some (row.Pointer u) → variable_shape rows t ≡ One (Plain t)
  pointer_variable u e = ap (λ o. shaped Plain (if is_object o then One t else with_parts (unfolded (length rows) rows) rows t o)) e

  pub any_variable : row_of rows t ≡ Some row.Any → variable_shape rows t ≡ One (Plain t)
  any_variable e = ap (λ o. shaped Plain (if is_object o then One t else with_parts (unfolded (length rows) rows) rows t o)) e

  pub procedure_variable : (formals : _) (r : _) → row_of rows t ≡ Some (row.Procedure formals r) → variable_shape rows t ≡ One (Plain t)
  procedure_variable formals r e = ap (λ o. shaped Plain (if is_object o then One t else with_parts (unfolded (length rows) rows) rows t o)) e

  pub object_variable : is_object (row_of rows t) ≡ true → variable_shape rows t ≡ One (Plain t)
  object_variable e = ap (λ b. shaped Plain (if b then One t else contents rows t)) e

module _ (program : Program) where
  -- the predeclared types stand first in the table
  pub basic_row : HasPredeclared program → (t : TType) → is_basic t ≡ true → row_of program.types (id_of t) ≡ Some (row.Basic (basic_of t))
  basic_row p (type.Integer W8) e = p 0 (omega arith)
  basic_row p (type.Integer W16) e = p 1 (omega arith)
  basic_row p (type.Integer W32) e = p 2 (omega arith)
  basic_row p (type.Integer W64) e = p 3 (omega arith)
  basic_row p type.Boolean e = p 4 (omega arith)
  basic_row p type.Char e = p 5 (omega arith)
  basic_row p type.Set e = p 6 (omega arith)
  basic_row p type.Any e = absurd (cc)
  basic_row p (type.Named t) e = absurd (cc)

  -- a variable's type has one scalar
  abbrev pub IsOne : TType → Type 0
  IsOne t = variable_shape program.types (id_of t) ≡ One (Plain (id_of t))

  pub basic_is_one : HasPredeclared program → (t : TType) → is_basic t ≡ true → IsOne t
  basic_is_one p t e = basic_variable program.types (id_of t) (basic_of t) (basic_row p t e)

  -- values of the row of a basic type are those of the type
  pub value_from : HasPredeclared program → (t : TType) (w : World Sort) (v : Value) → is_basic t ≡ true → Is program w (Plain (id_of t)) v → IsValueOf t v
  value_from p t w v e h = from_basic t v e (subst (λ o. IsPlainly program w (id_of t) o v) (basic_row p t e) h)

  pub value_to : HasPredeclared program → (t : TType) (w : World Sort) (v : Value) → is_basic t ≡ true → IsValueOf t v → Is program w (Plain (id_of t)) v
  value_to p t w v e h = subst (λ o. IsPlainly program w (id_of t) o v) (sym (basic_row p t e)) (to_basic t v h)

  -- the shape of a module, and of a variable or a string constant in it
  pub record Stood (m k : ℕ) (s : Shape Sort) : Type 0 where
    pub whole : Shape Sort
    pub there : slice_get (map (module_shape program) program.modules) m ≡ Some whole
    pub part : part k whole ≡ Some s

  abbrev of_variable : Variable → Shape Sort
  of_variable v = variable_shape program.types (id_of v.of)

  part_stood : (m k : ℕ) (x : Module) (s : Shape Sort) → slice_get program.modules m ≡ Some x → slice_get (map of_variable x.variables ++ map text_shape x.texts) k ≡ Some s → Stood m k s
  part_stood m k x s ex e =
      record {
        whole = module_shape program x;
        there = slice_get-map (module_shape program) program.modules m ∙ ap (option_map (module_shape program)) ex;
        part = part_of_row k (map of_variable x.variables ++ map text_shape x.texts) ∙ e;
      }

  -- a module's variable: its module, and its shape among those of the variables
  pub record Declared (m k : ℕ) (t : TType) : Type 0 where
    pub of : Module
    pub there : slice_get program.modules m ≡ Some of
    pub shape : slice_get (map of_variable of.variables) k ≡ Some (variable_shape program.types (id_of t))

  pub declared : (m k : ℕ) (t : TType) → variable_type program m k ≡ Some t → Declared m k t
  declared m k t e = by_module (slice_get program.modules m) refl e
    where
      by_variable : (x : Module) → slice_get program.modules m ≡ Some x → (o : Option Variable) → slice_get x.variables k ≡ o → option_map (λ v. v.of) o ≡ Some t → Declared m k t
      by_variable x ex None eo e' = absurd (cc)
      by_variable x ex (Some v) eo e' =
          let q : v.of ≡ t = cc in
          record {
            of = x;
            there = ex;
            shape = slice_get-map of_variable x.variables k ∙ ap (option_map of_variable) eo ∙ ap (λ u. Some (variable_shape program.types (id_of u))) q;
          }

      by_module : (o : Option Module) → slice_get program.modules m ≡ o → option_and_then (λ x. option_map (λ v. v.of) (slice_get x.variables k)) o ≡ Some t → Declared m k t
      by_module None eo e' = absurd (cc)
      by_module (Some x) eo e' = by_variable x eo (slice_get x.variables k) refl e'

  stood : (m k : ℕ) (t : TType) → variable_type program m k ≡ Some t → Stood m k (variable_shape program.types (id_of t))
  stood m k t e =
      let d = declared m k t e in
      let s = variable_shape program.types (id_of t) in
      part_stood m k d.of s d.there (get_left (map of_variable d.of.variables) (map text_shape d.of.texts) k s d.shape)

  constant_stood : (m k n : ℕ) → IsConstantText program (ModuleVar m k) n → Stood m k (characters n)
  constant_stood m k n h =
      let x = h.0 in
      let is = h.2 in
      let vs = map of_variable x.variables in
      let behind : k ≡ length vs + is.behind = is.is ∙ ap (λ j. j + is.behind) (sym (length-map x.variables of_variable)) in
      part_stood m k x (characters n) h.1
      (get_right vs (map text_shape x.texts) k is.behind behind ∙ slice_get-map text_shape x.texts is.behind
      ∙ ap (option_map text_shape) is.there ∙ ap (λ j. Some (characters j)) (sym is.long))

  module _ (w : World Sort) (known : KnowsModules program w) (m k : ℕ) where
    part_there : (s : Shape Sort) → Stood m k s → shape_at w (ModuleRoot m) (k ∷ []) ≡ Some s
    part_there s h =
        ap (option_and_then (λ x. option_and_then (λ y. Some y) (part k x))) (known m h.whole h.there) ∙ ap (option_and_then (λ y. Some y)) h.part

    part_cell : (own : Option Procedure) (s : Shape Sort) → Stood m k s → cell_at w (ModuleRoot m) (k ∷ []) ≡ variable_cell program own m k
    part_cell own s h = ap (number_of (offset (k ∷ []))) (known m h.whole h.there ∙ sym h.there)

    part_few : HasFewCells program → (s : Shape Sort) → Stood m k s → cell_at w (ModuleRoot m) (k ∷ []) + size s < 2 ^ 32
    part_few few s h =
        let all = few m h.whole h.there in
        let within = within_root w (ModuleRoot m) h.whole (known m h.whole h.there) (k ∷ []) s (part_there s h) in
        omega (arith, all, within)

    module _ (t : TType) (of : variable_type program m k ≡ Some t) where
      pub variable_there : shape_at w (ModuleRoot m) (k ∷ []) ≡ Some (variable_shape program.types (id_of t))
      variable_there = part_there (variable_shape program.types (id_of t)) (stood m k t of)

      pub variable_few : HasFewCells program → cell_at w (ModuleRoot m) (k ∷ []) + size (variable_shape program.types (id_of t)) < 2 ^ 32
      variable_few few = part_few few (variable_shape program.types (id_of t)) (stood m k t of)

      pub cell_there : (own : Option Procedure) → cell_at w (ModuleRoot m) (k ∷ []) ≡ variable_cell program own m k
      cell_there own = part_cell own (variable_shape program.types (id_of t)) (stood m k t of)

    -- a string constant
    module _ (n : ℕ) (of : IsConstantText program (ModuleVar m k) n) where
      pub constant_there : shape_at w (ModuleRoot m) (k ∷ []) ≡ Some (characters n)
      constant_there = part_there (characters n) (constant_stood m k n of)

      pub constant_few : HasFewCells program → cell_at w (ModuleRoot m) (k ∷ []) + size (characters n) < 2 ^ 32
      constant_few few = part_few few (characters n) (constant_stood m k n of)

      pub constant_cell : (own : Option Procedure) → cell_at w (ModuleRoot m) (k ∷ []) ≡ variable_cell program own m k
      constant_cell own = part_cell own (characters n) (constant_stood m k n of)

-- The parameters and locals of a frame.

part_by_value : (p : Program) (o b : Bool) (t : TypeId) (m : Shape Sort) → o ≡ false → b ≡ false → IsPart p o b t m → m ≡ variable_shape p.types t
part_by_value p true b t m e f h = absurd (cc)
part_by_value p false true t m e f h = absurd (cc)
part_by_value p false false t m e f h = h

part_by_reference : (p : Program) (o b : Bool) (t : TypeId) (m : Shape Sort) → o ≡ false → b ≡ true → IsPart p o b t m → m ≡ One (alias_sort p.types t)
part_by_reference p true b t m e f h = absurd (cc)
part_by_reference p false true t m e f h = h
part_by_reference p false false t m e f h = absurd (cc)

-- the lengths of an open array parameter, and its part of the frame
pub record IsOpened (p : Program) (t : TypeId) (m : Shape Sort) : Type 0 where
  pub lengths : List ℕ
  pub many : length lengths ≡ open_dimensions p.types t
  pub bound : All IsLength lengths
  pub is : m ≡ Pair (One (Elements (open_element p.types t) lengths)) (row_of_shapes (map (λ n. One (Length n)) lengths))

part_opened : (p : Program) (o b : Bool) (t : TypeId) (m : Shape Sort) → o ≡ true → IsPart p o b t m → IsOpened p t m
part_opened p true b t m e h = record { lengths = h.0; many = h.1; bound = h.2; is = h.3 }
part_opened p false b t m e h = absurd (cc)

module _ (program : Program) (own : Option Procedure) (here : Here) (w : World Sort) (known : KnowsFrame program own here w) where
  -- a part of the frame is there, at the cell that its code takes for it
  pub record OwnThere (k : ℕ) (m : Shape Sort) : Type 0 where
    pub there : shape_at w (FrameRoot here.below) (k ∷ []) ≡ Some m
    pub cell : cell_at w (FrameRoot here.below) (k ∷ []) ≡ own_cell program own k
    pub few : cell_at w (FrameRoot here.below) (k ∷ []) + size m < 2 ^ 32

  own_there : (k : ℕ) (m : Shape Sort) → IsStood program own known.0 k m → OwnThere k m
  own_there k m h =
      let there : shape_at w (FrameRoot here.below) (k ∷ []) ≡ Some m = ap (option_and_then (inside (k ∷ []))) known.1 ∙ ap (option_and_then (λ y. Some y)) h.there in
      let within = within_root w (FrameRoot here.below) known.0 known.1 (k ∷ []) m there in
      let few = known.2.few in
      record { there = there; cell = ap (number_of (offset (k ∷ []))) known.1 ∙ h.cell; few = omega (arith, within, few) }

  -- a local, or a parameter by value
  pub local_there : (k : ℕ) (t : TType) → IsLocal program own k t ⊎ ((a : Parameter) × IsParameter program own k a × IsByValue program a t) → OwnThere k (variable_shape program.types (id_of t))
  local_there k t (inl h) = own_there k (variable_shape program.types (id_of t)) (known.2.locals k t h)
  local_there k t (inr h) =
      let a = h.0 in
      let q = known.2.parameters k a h.1 in
      let e : q.0 ≡ variable_shape program.types (id_of t) = part_by_value program (is_open (row_of program.types (id_of a.of))) a.by_reference (id_of a.of) q.0 h.2.0 h.2.1 q.2 ∙ ap (λ u. variable_shape program.types (id_of u)) h.2.2 in
      subst (OwnThere k) e (own_there k q.0 q.1)

  -- what a VAR parameter stands for has the parameter's type
  pub alias_there : (k : ℕ) (t : TType) (a : Parameter) → IsParameter program own k a → IsByReference program a t → OwnThere k (One (alias_sort program.types (id_of t)))
  alias_there k t a is h =
      let q = known.2.parameters k a is in
      let e : q.0 ≡ One (alias_sort program.types (id_of t)) = part_by_reference program (is_open (row_of program.types (id_of a.of))) a.by_reference (id_of a.of) q.0 h.0 h.1 q.2 ∙ ap (λ u. One (alias_sort program.types (id_of u))) h.2 in
      subst (OwnThere k) e (own_there k q.0 q.1)

  pub record OpenThere (k : ℕ) (t : TypeId) : Type 0 where
    pub part : Shape Sort
    pub there : OwnThere k part
    pub opened : IsOpened program t part

  pub open_there : (k : ℕ) (a : Parameter) → IsParameter program own k a → is_open (row_of program.types (id_of a.of)) ≡ true → OpenThere k (id_of a.of)
  open_there k a is e =
      let q = known.2.parameters k a is in
      record { part = q.0; there = own_there k q.0 q.1; opened = part_opened program (is_open (row_of program.types (id_of a.of))) a.by_reference (id_of a.of) q.0 e q.2 }
