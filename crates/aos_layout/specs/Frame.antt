-- The cells of a procedure's frame: those of its parameters, and behind them those of its locals, in order of declaration. A
-- parameter by reference has one cell for the variable's place. An open array has one for its place and one for the length of
-- each open dimension; the elements of one that is passed by value stand behind the locals, and aren't counted here.
use Rattle.std.specs.Prelude.{ℕ, ◌+◌, ◌<◌, All, List, [], ◌∷◌, ◌++◌, length, map, replicate, Bool, not, if◌then◌else◌, Option, Some, None, option_map, is_some}
use Rattle.aos_types.specs.declared.row.TypeRow.{TypeRow}
use Rattle.aos_types.specs.Table.{row_of, is_open, is_scalar}
use Rattle.aos_types.specs.Shape.{Shape, One, Pair, size, row as row_of_shapes}
use Rattle.aos_code.specs.declared.instr.Kind.{Kind}
use Rattle.aos_code.specs.declared.instr.Kind.TheVariants.{N, A}
use Rattle.aos_code.specs.declared.image.ParamKind.{ParamKind}
use Rattle.aos_code.specs.declared.image.ParamKind.TheVariants.{Scalar, Whole, Place, Open}
use Rattle.aos_typed.specs.declared.tree.TType.{TType}
use Rattle.aos_typed.specs.Program.{Parameter, Procedure}
use Rattle.aos_typed.specs.Numbers.{id_of}
pub use Rattle.aos_typed.specs.Open.{open_by, open_dimensions, behind, open_element}
use Rattle.aos_layout.specs.Layout.{leaves, kind_of, cells, variable_cells}

abbrev pub open_cells : ℕ → Shape Kind
open_cells dimensions = Pair (One A) (row_of_shapes (replicate dimensions (One N)))

abbrev pub parameter_cells : List TypeRow → Parameter → Shape Kind
parameter_cells rows p =
    let t = id_of p.of in
    if is_open (row_of rows t) then open_cells (open_dimensions rows t)
    else if p.by_reference then One A
    else cells rows t

-- what a call hands over for a parameter
abbrev pub parameter_kind : List TypeRow → Parameter → ParamKind
parameter_kind rows p =
    let t = id_of p.of in
    if is_open (row_of rows t) then Open (open_dimensions rows t) (not p.by_reference) (size (cells rows (open_element rows t)))
    else if p.by_reference then Place
    else if is_scalar (row_of rows t) then Scalar (kind_of rows t)
    else Whole (size (cells rows t))

-- the cells of the parameters and of the locals: the parameter or local with number k is part k
abbrev pub frame_parts : List TypeRow → Procedure → List (Shape Kind)
frame_parts rows p = map (parameter_cells rows) p.parameters ++ variable_cells rows p.locals

abbrev pub frame : List TypeRow → Procedure → Shape Kind
frame rows p = row_of_shapes (frame_parts rows p)

-- the first cell of each of these parts, where the first part begins at this cell
abbrev pub places_from : ℕ → List (Shape Kind) → List ℕ
places_from at [] = []
places_from at (s ∷ ss) = at ∷ places_from (at + size s) ss

abbrev pub IsThere : List TypeRow → TType → Type 0
IsThere rows t = (id_of t).0 < length rows

abbrev pub MayBeThere : List TypeRow → Option TType → Type 0
MayBeThere rows None = Unit {0}
MayBeThere rows (Some t) = IsThere rows t

-- the types of a procedure's parameters, locals and result are there
pub record AreThere (rows : List TypeRow) (p : Procedure) : Type 0 where
  pub parameters : All (λ a. IsThere rows a.of) p.parameters
  pub locals : All (λ v. IsThere rows v.of) p.locals
  pub result : MayBeThere rows p.result

-- what code knows of a procedure
pub record Known : Type 0 where
  pub module_ : ℕ
  pub params : List ParamKind
  pub cells : ℕ
  pub counted : ℕ
  pub keeps : ℕ
  pub result : Option Kind
  pub method : Bool
  pub kinds : List Kind

-- of one of the module with this number, whose body keeps so many values
abbrev pub known : List TypeRow → (home keeps : ℕ) → Procedure → Known
known rows home keeps p =
    record {
      module_ = home;
      params = map (parameter_kind rows) p.parameters;
      cells = size (frame rows p);
      counted = size (frame rows p);
      keeps = keeps;
      result = option_map (λ t. kind_of rows (id_of t)) p.result;
      method = is_some p.of;
      kinds = leaves (frame rows p);
    }

-- a procedure's number, what code knows of it, and the first cell of each parameter and then of each local
pub record FrameShape : Type 0 where
  pub own : ℕ
  pub shape : Known
  pub places : List ℕ

abbrev pub frame_shape : List TypeRow → (own home keeps : ℕ) → Procedure → FrameShape
frame_shape rows own home keeps p =
    record { own = own; shape = known rows home keeps p; places = places_from 0 (frame_parts rows p) }
