-- The image has what the program's numbers name: the cells of each variable and each string constant, a type for each object type, a
-- shape for each procedure, and in a frame of the routine itself the cells of its parameters and locals.
use Rattle.std.proofs.Common.{◌≡◌, ◌<◌, ◌≤◌, subst, ℕ, zero, suc, ◌+◌, inl, inr, true, List, [], ◌∷◌, ◌++◌, map, length, Option, Some, None, refl, sym, ap, ◌∙◌, arith, length-append}
use Rattle.std.specs.Prelude.{slice_get, option_map, option_and_then, pos, nat_lt, ◌||◌, is_some as of_type}
use Rattle.std.specs.List.{flat_map}
use Rattle.std.proofs.lemmas.Bool.{le-leb, lt-ltb}
use Rattle.std.proofs.Math.Bool.{or-true}
use Rattle.std.proofs.lemmas.List.FromFn.{length-map-range_with_len}
use Rattle.std.proofs.lemmas.List.{length-map}
use Rattle.std.proofs.lemmas.Option.{slice_get-map, slice_get_cases, slice_get_within}
use Rattle.aos_types.specs.declared.row.TypeRow.{TypeRow}
use Rattle.aos_types.specs.Table.{row_of, is_object, is_record}
use Rattle.aos_types.specs.Shape.{Shape, One, shaped, size, part, inside, offset, number_of, leaves, repeated}
use Rattle.aos_types.specs.Shape as shape
use Rattle.aos_types.specs.Contents.{contents, of_variable}
use Rattle.aos_types.proofs.Offsets.{inside_within}
use Rattle.aos_code.specs.declared.image.Body.{Body}
use Rattle.aos_code.specs.declared.image.Image.{Image}
use Rattle.aos_code.specs.declared.image.ModuleDesc.{ModuleDesc}
use Rattle.aos_code.specs.declared.image.TypeDesc.{TypeDesc}
use Rattle.aos_code.specs.declared.instr.Cell.TheVariants.{Num}
use Rattle.aos_code.specs.Machine.{first_cell}
use Rattle.aos_code.specs.Numbered.{numbered}
use Rattle.aos_layout.specs.Layout.{kind_of, cells as cells_for, variable_cells}
use Rattle.aos_layout.proofs.Frames.{size_shaped, cells_counted}
use Rattle.aos_sound.specs.Sound.{has_place, has_own_place, frame_cells, is_some, is_method, has_slot}
use Rattle.aos_typed.specs.Program.{ModuleVar, Parameter, Variable, Procedure, Module, Program}
use Rattle.aos_typed.specs.Numbers.{id_of, predeclared_types}
use Rattle.aos_typed.specs.Sort.{Sort, Plain, variable_shape}
use Rattle.aos_typed.specs.Text.{text_shape}
use Rattle.aos_typed.specs.Source.{module_shape}
use Rattle.aos_typed.specs.declared.tree.TType.{TType}
use Rattle.aos_typed.specs.declared.tree.TType.TheVariants.{Char, Named}
use Rattle.aos_typed.specs.Conditions.{Condition, conditions}
use Rattle.aos_typed.specs.WellTyped.{variable_type, procedure_in, IsConstantText, IsParameter, IsLocal, IsWellTyped}
use Rattle.aos_typed.specs.Methods.{slots as slots_of, own_numbers}
use Rattle.aos_typed.specs.Routines.{Routine, routines, self_type}
use Rattle.aos_code.specs.Silent.{method_at}
use Rattle.aos_sim.proofs.Methods.{HasMethods}
use Rattle.aos_base.specs.Rooted.{by_number}
use Rattle.aos_code.specs.declared.instr.Kind.{Kind}
use Rattle.aos_code.specs.declared.image.ProcShape.{ProcShape}
use Rattle.aos_layout.specs.Frame.{parameter_cells, frame_parts, frame}
use Rattle.aos_layout.specs.Seen.{seen_shape}
use Rattle.aos_sim.proofs.Runs.{tables_of}
use Rattle.aos_sim.proofs.Does.{HasPredeclared, HasShapes}
use Rattle.aos_sim.proofs.Carries.{IsOwn}
use Rattle.aos_sim.proofs.Bodies.{own_known, has_shapes}
use Rattle.aos_sim.proofs.Lists.{get_left, get_right}
use Rattle.aos_sim.proofs.Parts.{part_of_row}
use Rattle.aos_sim.proofs.Typed.{has_types}
use Rattle.aos_sim.proofs.Variables.{declared}
use Rattle.aos_sim.specs.Code.{variable_cell, own_cell, condition_code}
use Rattle.aos_sim.specs.Shows.{text_cells, first_cells, shape_of, IsCodeOf}

-- a frame of this shape has so many cells from this place on
pub record IsInFrame (f : Option ProcShape) (c n : ℕ) : Type 0 where
  pub place : has_own_place f c ≡ true
  pub cells : c + n ≤ frame_cells f

-- so it has for each number with which the program, or the routine with this number, names one; a variable without scalars may stand
-- at the end of a module's cells
pub record HasNumbers (p : Program) (o : Option Procedure) (image : Image) (own : ℕ) : Type 0 where
  pub cells : (m c : ℕ) (t : TType) → variable_type p m c ≡ Some t → has_place (slice_get image.modules.items m) (variable_cell p o m c) ≡ true
  pub constants : (m c n : ℕ) → IsConstantText p (ModuleVar m c) n → has_place (slice_get image.modules.items m) (variable_cell p o m c) ≡ true
  pub types : (t : ℕ) → t < length p.objects → is_some (numbered image.types.items (t + 1)) ≡ true
  pub predeclared : HasPredeclared p
  pub objects : (k : ℕ) → is_object (row_of p.types (id_of (Named k))) ≡ true → is_some (numbered image.types.items (k + 1)) ≡ true
  pub records : (k : ℕ) → is_record (row_of p.types (id_of (Named k))) ≡ true → is_some (numbered image.types.items (k + 1)) ≡ true
  pub shapes : HasShapes p (tables_of p image)
  pub mine : IsOwn p o (tables_of p image) own
  pub methods : HasMethods p
  pub slots : (t k n : ℕ) → t < length p.objects → slice_get (slots_of p (own_numbers p) t) k ≡ Some n → has_slot image.types.items k ≡ true
  pub plain : (m k : ℕ) (q : Procedure) → procedure_in p m k ≡ Some q → q.of ≡ None
  pub selfs : (s : ℕ) → self_type o ≡ Some s → is_method (numbered image.shapes.items own) ≡ true
  pub locals : (k : ℕ) (t : TType) → IsLocal p o k t → has_own_place (numbered image.shapes.items own) (own_cell p o k) ≡ true
  pub parameters : (k : ℕ) (a : Parameter) → IsParameter p o k a → IsInFrame (numbered image.shapes.items own) (own_cell p o k) (size (parameter_cells p.types a))
  pub conditions : length image.conds.items ≡ length (conditions p)

-- an element that a list of another's results has is that of the other one
pub mapped_at : {X Y : Type 0} (f : X → Y) (xs : List X) (k : ℕ) (y : Y) → slice_get (map f xs) k ≡ Some y → (x : X) × (slice_get xs k ≡ Some x) × (f x ≡ y)
mapped_at {X = X} f xs k y e = of_element (slice_get xs k) refl (sym (slice_get-map f xs k) ∙ e)
  where
    of_element : (o : Option X) → slice_get xs k ≡ o → option_map f o ≡ Some y → (x : X) × (slice_get xs k ≡ Some x) × (f x ≡ y)
    of_element None here g = absurd (cc)
    of_element (Some x) here g = let same : f x ≡ y = cc in (x, here, same)

-- there is one within the list
some_within : {X : Type 0} (xs : List X) (k : ℕ) → k < length xs → is_some (slice_get xs k) ≡ true
some_within xs k lt = elim (slice_get_cases xs k).1 [
  | inl h ↦ ap is_some h.2
  | inr h ↦ let le = h.0 in absurd (omega (arith, lt, le))
]

-- a text has as many cells as scalars
sized : {S : Type 0} (n : ℕ) (k : S) → size (repeated n (One k)) ≡ n
sized zero k = refl
sized (suc n) k = let h = sized n k in omega (arith, h)

text_sized : (cs : List ℕ) → size (text_shape cs) ≡ length (text_cells cs)
text_sized cs =
    let n = sized (suc (length cs)) (Plain (id_of Char)) in
    let a = length-append (map (λ c. Num (pos c)) cs) (Num (pos 0) ∷ []) in
    let b = length-map cs (λ c. Num (pos c)) in
    omega (arith, n, a, b)

texts_sized : (ts : List (List ℕ)) → size (shape.row (map text_shape ts)) ≡ length (flat_map text_cells ts)
texts_sized [] = refl
texts_sized (cs ∷ ts) =
    let one = text_sized cs in
    let rest = texts_sized ts in
    let a = length-append (text_cells cs) (flat_map text_cells ts) in
    omega (arith, one, rest, a)

-- and so have variables with string constants behind them
parts_sized : (rows : List TypeRow) (vs : List Variable) (ts : List (List ℕ)) → size (shape.row (map (λ v. variable_shape rows (id_of v.of)) vs ++ map text_shape ts)) ≡ size (shape.row (variable_cells rows vs)) + length (flat_map text_cells ts)
parts_sized rows [] ts = let h = texts_sized ts in omega (arith, h)
parts_sized rows (v ∷ vs) ts =
    let base = of_variable (contents rows) rows (id_of v.of) in
    let one : size (variable_shape rows (id_of v.of)) ≡ size (shaped (kind_of rows) base) = size_shaped Plain base ∙ sym (size_shaped (kind_of rows) base) in
    let rest = parts_sized rows vs ts in
    omega (arith, one, rest)

-- so a module has a cell for each scalar
module_sized : (p : Program) (x : Module) → size (module_shape p x) ≡ length (first_cells p.types x)
module_sized p x =
    let s = parts_sized p.types x.variables x.texts in
    let row = shape.row (variable_cells p.types x.variables) in
    let a = length-append (map first_cell (leaves row)) (flat_map text_cells x.texts) in
    let b = length-map (leaves row) first_cell in
    let c = cells_counted row (leaves row) refl in
    omega (arith, s, a, b, c)

-- the shapes of a module's variables
abbrev shapes : Program → Module → List (Shape Sort)
shapes p x = map (λ v. variable_shape p.types (id_of v.of)) x.variables

module _ (p : Program) (o : Option Procedure) (image : Image) (ok : IsCodeOf p image) where
  -- a part of a module's variables and string constants begins among its cells, or where they end
  has_part : (m c : ℕ) (x : Module) (s : Shape Sort) → slice_get p.modules m ≡ Some x → slice_get (shapes p x ++ map text_shape x.texts) c ≡ Some s → has_place (slice_get image.modules.items m) (variable_cell p o m c) ≡ true
  has_part m c x s here e =
      let at : slice_get (map (λ (d : ModuleDesc). d.cells.items) image.modules.items) m ≡ Some (first_cells p.types x) = ap (λ l. slice_get l m) ok.cells ∙ slice_get-map (first_cells p.types) p.modules m ∙ ap (option_map (first_cells p.types)) here in
      let d = mapped_at (λ (d : ModuleDesc). d.cells.items) image.modules.items m (first_cells p.types x) at in
      let there : part c (module_shape p x) ≡ Some s = part_of_row c (shapes p x ++ map text_shape x.texts) ∙ e in
      let lies = inside_within (c ∷ []) (module_shape p x) s (ap (option_and_then (inside [])) there) in
      let first : variable_cell p o m c ≡ offset (c ∷ []) (module_shape p x) = ap (number_of (offset (c ∷ []))) (slice_get-map (module_shape p) p.modules m ∙ ap (option_map (module_shape p)) here) in
      let n : length d.0.cells.items ≡ size (module_shape p x) = ap length d.2 ∙ sym (module_sized p x) in
      ap (λ x. has_place x (variable_cell p o m c)) d.1 ∙ le-leb (variable_cell p o m c) (length d.0.cells.items) (omega (arith, lies, first, n))

  -- so a module has the cells of its variables
  has_cell : (m c : ℕ) (t : TType) → variable_type p m c ≡ Some t → has_place (slice_get image.modules.items m) (variable_cell p o m c) ≡ true
  has_cell m c t e =
      let d = declared p m c t e in
      let s = variable_shape p.types (id_of t) in
      has_part m c d.of s d.there (get_left (shapes p d.of) (map text_shape d.of.texts) c s d.shape)

  -- and those of its string constants
  has_constant : (m c n : ℕ) → IsConstantText p (ModuleVar m c) n → has_place (slice_get image.modules.items m) (variable_cell p o m c) ≡ true
  has_constant m c n h =
      let x = h.0 in
      let l = length-map x.variables (λ (v : Variable). variable_shape p.types (id_of v.of)) in
      let is = h.2.is in
      has_part m c x (text_shape h.2.characters) h.1 (get_right (shapes p x) (map text_shape x.texts) c h.2.behind (omega (arith, l, is)) ∙ slice_get-map text_shape x.texts h.2.behind ∙ ap (option_map text_shape) h.2.there)

  -- there are as many types as object types
  has_type : (t : ℕ) → t < length p.objects → is_some (numbered image.types.items (t + 1)) ≡ true
  has_type t lt =
      let a = length-map image.types.items (λ (d : TypeDesc). d.methods.items) in
      let b = length-map-range_with_len (λ k. slots_of p (own_numbers p) k) 0 (length p.objects) in
      let c = ap length ok.methods in
      let within : t < length image.types.items = omega (arith, lt, a, b, c) in
      let n : suc t ≡ t + 1 = omega arith in
      ap (λ k. is_some (numbered image.types.items k)) (sym n) ∙ some_within image.types.items t within

  -- so each object type that is declared has one,
  has_object : length p.types ≡ length p.objects + predeclared_types → (k : ℕ) → is_object (row_of p.types (id_of (Named k))) ≡ true → is_some (numbered image.types.items (k + 1)) ≡ true
  has_object beside k is = elim (slice_get_cases p.types (k + predeclared_types)).1 [
    | inl h ↦ let there = h.1 in has_type k (omega (arith, beside, there))
    | inr h ↦ let none = sym (ap is_object h.1) ∙ is in absurd (cc)
  ]

  -- and each record
  has_record : length p.types ≡ length p.objects + predeclared_types → (k : ℕ) → is_record (row_of p.types (id_of (Named k))) ≡ true → is_some (numbered image.types.items (k + 1)) ≡ true
  has_record beside k is = elim (slice_get_cases p.types (k + predeclared_types)).1 [
    | inl h ↦ let there = h.1 in has_type k (omega (arith, beside, there))
    | inr h ↦ let none = sym (ap is_record h.1) ∙ is in absurd (cc)
  ]

-- the parts of the frame of a procedure, or of a body
abbrev parts_of : List TypeRow → Option Procedure → List (Shape Kind)
parts_of rows None = []
parts_of rows (Some q) = frame_parts rows q

-- a parameter is one, and so is a local
parameter_part : (p : Program) (o : Option Procedure) (k : ℕ) (a : Parameter) → IsParameter p o k a → slice_get (parts_of p.types o) k ≡ Some (parameter_cells p.types a)
parameter_part p None k a h = absurd (cc)
parameter_part p (Some q) k a h =
    get_left (map (parameter_cells p.types) q.parameters) (variable_cells p.types q.locals) k (parameter_cells p.types a)
    (slice_get-map (parameter_cells p.types) q.parameters k ∙ ap (option_map (parameter_cells p.types)) h)

local_part : (p : Program) (o : Option Procedure) (k : ℕ) (t : TType) → IsLocal p o k t → slice_get (parts_of p.types o) k ≡ Some (cells_for p.types (id_of t))
local_part p o k t h =
    let q = h.0 in
    let l = length-map q.parameters (parameter_cells p.types) in
    let at = h.3 in
    ap (λ x. slice_get (parts_of p.types x) k) h.2
    ∙ get_right (map (parameter_cells p.types) q.parameters) (variable_cells p.types q.locals) k h.1 (omega (arith, l, at))
    ∙ slice_get-map (λ (v : Variable). cells_for p.types (id_of v.of)) q.locals h.1
    ∙ by (slice_get q.locals h.1) h.4
  where
    by : (v : Option Variable) → option_map (λ v. v.of) v ≡ Some t → option_map (λ v. cells_for p.types (id_of v.of)) v ≡ Some (cells_for p.types (id_of t))
    by None e = absurd (cc)
    by (Some v) e = let same : v.of ≡ t = cc in ap (λ x. Some (cells_for p.types (id_of x))) same

-- a part is in the frame
part_in : (p : Program) (image : Image) (own : ℕ) (r : Routine) (x : ProcShape) → numbered image.shapes.items own ≡ Some x → seen_shape x ≡ shape_of p.types r → (k : ℕ) (s : Shape Kind) → slice_get (parts_of p.types r.own) k ≡ Some s → IsInFrame (numbered image.shapes.items own) (own_cell p r.own k) (size s)
part_in p image own r x is known k s e =
    subst (λ f. IsInFrame f (own_cell p r.own k) (size s)) (sym is) (by r.own (ap (λ z. z.cells) known) e)
  where
    by : (o : Option Procedure) → x.cells ≡ (shape_of p.types (record { home = r.home; own = o; body = r.body })).cells → slice_get (parts_of p.types o) k ≡ Some s → IsInFrame (Some x) (own_cell p o k) (size s)
    by None many e = absurd (cc)
    by (Some q) many e =
        let lies = inside_within (k ∷ []) (frame p.types q) s (ap (option_and_then (inside [])) (part_of_row k (frame_parts p.types q) ∙ e)) in
        record { place = le-leb (own_cell p (Some q) k) x.cells (omega (arith, lies, many)); cells = omega (arith, lies, many) }

-- a type that has a method in a slot has it there in the image
slot_there : (ts : List TypeDesc) (t k n : ℕ) → method_at ts (suc t) k ≡ Some n → has_slot ts k ≡ true
slot_there [] t k n e = absurd (cc)
slot_there (d ∷ ts) zero k n e =
    ap (λ b. b || has_slot ts k) (lt-ltb k (length d.methods.items) (slice_get_within d.methods.items k n e))
slot_there (d ∷ ts) (suc t) k n e = ap (λ b. nat_lt k (length d.methods.items) || b) (slot_there ts t k n e) ∙ or-true (nat_lt k (length d.methods.items))

-- what has an object is called on one
called_on : (p : Program) (image : Image) (own : ℕ) (r : Routine) (x : ProcShape) → numbered image.shapes.items own ≡ Some x → seen_shape x ≡ shape_of p.types r → (s : ℕ) → self_type r.own ≡ Some s → is_method (numbered image.shapes.items own) ≡ true
called_on p image own r x is known s e = ap is_method is ∙ by r.own (ap (λ z. z.method) known) e
  where
    by : (o : Option Procedure) → x.method ≡ (shape_of p.types (record { home = r.home; own = o; body = r.body })).method → self_type o ≡ Some s → x.method ≡ true
    by None m e = absurd (cc)
    by (Some q) m e = m ∙ ap of_type e

-- so it is where the image has the code of the program
pub has_numbers : (p : Program) (image : Image) → IsWellTyped p → IsCodeOf p image → (own : ℕ) (r : Routine) → by_number own (routines p) ≡ Some r → HasNumbers p r.own image own
has_numbers p image well ok own r there =
    let types = has_types p well in
    let shaped = has_shapes p image ok types in
    let x = shaped.shapes own r there in
    record {
      cells = has_cell p r.own image ok;
      constants = has_constant p r.own image ok;
      types = has_type p r.own image ok;
      predeclared = well.parts.predeclared;
      objects = has_object p r.own image ok well.parts.beside;
      records = has_record p r.own image ok well.parts.beside;
      shapes = shaped;
      methods = types.methods;
      slots = λ t k n lt e. slot_there image.types.items t k n (shaped.methods t k n lt e);
      plain = types.plain;
      selfs = λ s e. called_on p image own r x.0 x.1 x.2 s e;
      mine = own_known p (tables_of p image) shaped own r there;
      locals = λ k t h. (part_in p image own r x.0 x.1 x.2 k (cells_for p.types (id_of t)) (local_part p r.own k t h)).place;
      conditions = sym (length-map image.conds.items (λ (b : Body). b.code.items)) ∙ ap length ok.conditions
          ∙ length-map (conditions p) (λ (c : Condition). condition_code p c.own c.expression);
      parameters = λ k a h. part_in p image own r x.0 x.1 x.2 k (parameter_cells p.types a) (parameter_part p r.own k a h);
    }
