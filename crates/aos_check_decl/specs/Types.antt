-- Types that are written: the rules that they break, their rows in the table of types, and their numbers. All object types at module
-- level have names here. Any other is refused by rule 26 at its first token, and nothing behind that in it is looked at.
use Rattle.std.specs.Prelude.{ℕ, pos, int_le, unsigned_abs, List, [], ◌∷◌, ◌++◌, length, Bool, true, false, ◌&&◌, Option, Some, None, if◌then◌else◌}
use Rattle.aos_base.specs.declared.limits.TheConstants.{MOST_SCALARS}
use Rattle.aos_base.specs.declared.text.Pos.{Pos}
use Rattle.aos_tree.specs.declared.name.Qualident.{Qualident}
use Rattle.aos_tree.specs.declared.expr.Expr.{Expr, out-Expr}
use Rattle.aos_tree.specs.declared.decl.ConstDef.{ConstDef}
use Rattle.aos_tree.specs.declared.decl.VarDef.{VarDef}
use Rattle.aos_tree.specs.declared.decl.Decl.{Decl, Row_of-VarDef, end_of-VarDef, more_of-VarDef, Row_of-Decl, end_of-Decl, more_of-Decl, items-the_row-Decl}
use Rattle.aos_tree.specs.declared.decl.Decl.TheVariants as decl
use Rattle.aos_tree.specs.declared.decl.Fields.{Fields}
use Rattle.aos_tree.specs.declared.decl.Fields.TheVariants as fields
use Rattle.aos_tree.specs.declared.decl.TypeExpr.{TypeExpr, Row_of-TypeExpr, end_of-TypeExpr, more_of-TypeExpr, Row_of-Fields, end_of-Fields, more_of-Fields, items-the_row-Fields}
use Rattle.aos_tree.specs.declared.decl.TypeExpr.TheVariants as type
use Rattle.aos_types.specs.declared.row.TypeId.{TypeId}
use Rattle.aos_typed.specs.declared.tree.Literal.{Literal}
use Rattle.aos_typed.specs.declared.tree.Literal.TheVariants as literal
use Rattle.aos_symbols.specs.declared.env.Env.{Env}
use Rattle.aos_symbols.specs.Breaches.{breach}
use Rattle.aos_symbols.specs.Judged.{Judged, judged, kept, bind, walk}
use Rattle.aos_symbols.specs.Scope.{empty}
pub use Rattle.aos_values.specs.TypeNames.{no_type, type_meant, type_found, type_of_out, type_in_module, qualified_type, named_type}
use Rattle.aos_check_decl.specs.Variables.{constant_def}
use Rattle.aos_made_types.specs.Formals.{procedure_in}
use Rattle.aos_check_expr.specs.Expressions.{constant, no_place}
pub use Rattle.aos_made_types.specs.Met.{Met, met, refused_type, placed, claiming}
pub use Rattle.aos_made_types.specs.Arrays.{array_of, inner_arrays, arrays, open_of, open_in}
pub use Rattle.aos_made_types.specs.Records.{FieldsMet, fields_met, fields_of, with_field, with_fields, with_record, fields_in_def, field_names, is_predeclared, base_in, base_claims, based, placed_record, are_parts_known, known_record, record_in}
pub use Rattle.aos_check_types.specs.Places.{type_place}
pub use Rattle.aos_made_types.specs.Pointers.{is_no_target, target_claims, pointer_to, pointer_behind}
pub use Rattle.aos_made_types.specs.Objects.{MembersMet, members_met, with_members, own_fields, own_methods, object_claims, own_types, object_met, with_own_fields, object_with, object_slot, object_in}

abbrev pub is_empty : List Expr → Bool
is_empty [] = true
is_empty (x ∷ xs) = false

-- Arrays. A length is a constant integer from 1 to the most scalars that a type may have.

abbrev pub length_given : Option Literal → Pos → Judged (Option ℕ)
length_given None at = kept None
length_given (Some (literal.Int n)) at =
    if int_le (pos 1) n && int_le n (pos MOST_SCALARS) then kept (Some (unsigned_abs n)) else judged (breach 20 at) None
length_given (Some (literal.Bool b)) at = judged (breach 20 at) None
length_given (Some (literal.Char c)) at = judged (breach 20 at) None
length_given (Some (literal.Set s)) at = judged (breach 20 at) None
length_given (Some (literal.Text t)) at = judged (breach 20 at) None
length_given (Some literal.Nil) at = judged (breach 20 at) None
length_given (Some literal.NoProcedure) at = judged (breach 20 at) None

abbrev pub length_of : Env → Expr → Judged (Option ℕ)
length_of e x = bind (constant e x) (λ v. length_given v (out-Expr x).pos)

abbrev pub one_more : Option (List ℕ) → Option ℕ → Option (List ℕ)
one_more (Some ns) (Some n) = Some (ns ++ n ∷ [])
one_more _ _ = None

abbrev pub with_length : Env → Option (List ℕ) → Expr → Judged (Option (List ℕ))
with_length e ns x = bind (length_of e x) (λ n. kept (one_more ns n))

-- all lengths of an array, or none where one of them breaks a rule
abbrev pub lengths_of : Env → List Expr → Judged (Option (List ℕ))
lengths_of e xs = walk (with_length e) (Some []) xs

abbrev pub array_in : (may_be_open : Bool) → Option TypeId → Env → Pos → List Expr → Judged Met → Judged Met
array_in may_be_open slot e at [] element = open_in may_be_open slot e at element
array_in may_be_open slot e at (x ∷ xs) element =
    bind (lengths_of e (x ∷ xs)) (λ ns. bind element (λ m. kept (arrays slot at ns m)))

abbrev pub constant_members : MembersMet → List ConstDef → Judged MembersMet
constant_members f cs = bind (walk constant_def f.env cs) (λ e. kept (members_met e f.types f.variables))

-- a type, which is that of a definition where it has a number
abbrev mutual
  pub type_in : (may_be_open : Bool) → Option TypeId → Env → TypeExpr → Judged Met
  type_in may_be_open slot e (type.Named q) = bind (named_type e q) (λ of. kept (met e of))
  type_in may_be_open slot e (type.Array' p lengths shape row) =
      array_in may_be_open slot e p lengths (held_in (may_be_open && is_empty lengths) e row)
  type_in may_be_open slot e (type.Record' p base shape row) =
      record_in slot e p base (field_names (items-the_row-Fields _ row)) (fields_in (fields_met e [] empty) row)
  type_in may_be_open slot e (type.Pointer' p shape row) = pointer_in slot e p row
  type_in may_be_open slot e (type.Proc p flag formals) = procedure_in slot e p flag formals
  type_in may_be_open slot e (type.Object' p base shape row body end) =
      object_in slot (object_slot e slot) e p base (items-the_row-Decl _ row) (λ e. members_in (members_met e [] []) row)

  -- what is declared in an object type
  pub members_in : {m : _} → MembersMet → Row_of-Decl m → Judged MembersMet
  members_in f end_of-Decl = kept f
  members_in f (more_of-Decl d ds) = bind (member_in f d) (λ g. members_in g ds)

  pub member_in : MembersMet → Decl → Judged MembersMet
  member_in f (decl.Consts p cs) = constant_members f cs
  member_in f (decl.Types' p shape row) = kept f
  member_in f (decl.Vars' p shape row) = variables_in f row
  member_in f (decl.Proc' o shape row) = kept f

  pub variables_in : {m : _} → MembersMet → Row_of-VarDef m → Judged MembersMet
  variables_in f end_of-VarDef = kept f
  variables_in f (more_of-VarDef defs of ds) =
      bind (bind (type_in false None f.env of) (λ m. kept (with_members f (length defs) m))) (λ g. variables_in g ds)

  -- the type of an array's elements
  pub held_in : {m : _} → (may_be_open : Bool) → Env → Row_of-TypeExpr m → Judged Met
  held_in may_be_open e end_of-TypeExpr = refused_type 99 no_place e
  held_in may_be_open e (more_of-TypeExpr t ts) = type_in may_be_open None e t

  -- a pointer, by the type that it leads to
  pub pointer_in : {m : _} → Option TypeId → Env → Pos → Row_of-TypeExpr m → Judged Met
  pointer_in slot e at end_of-TypeExpr = refused_type 99 no_place e
  pointer_in slot e at (more_of-TypeExpr t ts) = bind (type_in true None e t) (λ m. pointer_behind slot at t m)

  pub fields_in : {m : _} → FieldsMet → Row_of-Fields m → Judged FieldsMet
  fields_in f end_of-Fields = kept f
  fields_in f (more_of-Fields x xs) = bind (field_in f x) (λ g. fields_in g xs)

  pub field_in : FieldsMet → Fields → Judged FieldsMet
  field_in f fields.Empty = kept f
  field_in f (fields.Of' defs of) = bind (type_in false None f.env of) (λ m. kept (with_fields f defs m))

-- one field after another of an object type, and its declarations, as lists
abbrev pub variable_in : MembersMet → VarDef → Judged MembersMet
variable_in f v = bind (type_in false None f.env v.of) (λ m. kept (with_members f (length v.defs) m))

abbrev pub object_of : Option TypeId → Env → Pos → Option Qualident → List Decl → Judged Met
object_of slot e at base ds = object_in slot (object_slot e slot) e at base ds (λ e. walk member_in (members_met e [] []) ds)

-- a record, with its fields as a list
abbrev pub record_of : Option TypeId → Env → Pos → Option Qualident → List Fields → Judged Met
record_of slot e at base fs = record_in slot e at base (field_names fs) (walk field_in (fields_met e [] empty) fs)
