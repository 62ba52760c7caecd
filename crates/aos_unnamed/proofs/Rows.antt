-- Types and declarations, form by form, and lists, one more part behind others.
use Rattle.std.proofs.Common.{◌≡◌, List, [], ◌∷◌, ◌++◌, Option, refl, sym, ap, ◌∙◌}
use denote.Hole.Carrier.{hidden}
use Rattle.aos_base.specs.declared.text.Pos.{Pos}
use Rattle.aos_tree.specs.declared.name.Name.{Name}
use Rattle.aos_tree.specs.declared.name.Qualident.{Qualident}
use Rattle.aos_tree.specs.declared.expr.Expr.{Expr}
use Rattle.aos_tree.specs.declared.stat.Block.{Block}
use Rattle.aos_tree.specs.declared.decl.ConstDef.{ConstDef}
use Rattle.aos_tree.specs.declared.decl.TypeDef.{TypeDef}
use Rattle.aos_tree.specs.declared.decl.VarDef.{VarDef}
use Rattle.aos_tree.specs.declared.decl.Proc.{Proc}
use Rattle.aos_tree.specs.declared.decl.Formals.{Formals}
use Rattle.aos_tree.specs.declared.decl.Fields.{Fields}
use Rattle.aos_tree.specs.declared.decl.Fields.TheVariants as fields
use Rattle.aos_tree.specs.declared.decl.Decl.{Decl, items_hidden-the_row-TypeDef-0, items_hidden-the_row-VarDef-1}
use Rattle.aos_tree.specs.declared.decl.Decl.TheVariants as decl
use Rattle.aos_tree.specs.declared.decl.Decl.TheBlock.{hidden-the_row-TypeExpr-3, shape-the_row-TypeExpr-3, hidden-the_row-Fields-4}
use Rattle.aos_tree.specs.declared.decl.DeclParts.{DeclParts}
use Rattle.aos_tree.specs.declared.decl.DeclParts.TheVariants as decl_parts
use Rattle.aos_tree.specs.declared.decl.TypeExpr.{TypeExpr, Row_of-Fields, end_of-Fields, more_of-Fields, items-the_row-Fields, items_hidden-the_row-Fields-4}
use Rattle.aos_tree.specs.declared.decl.TypeExpr.TheVariants as type
use Rattle.aos_tree.specs.declared.decl.TypeParts.{TypeParts}
use Rattle.aos_tree.specs.declared.decl.TypeParts.TheVariants as type_parts
use Rattle.aos_tree.specs.Parts.{decl_of, type_of}
use Rattle.aos_unnamed.specs.declared.added.Added.{Added}
use Rattle.aos_unnamed.specs.Unnamed.{With, beside, named, defined, through, in_type, in_held, in_fields, in_field, in_variable, in_definition, in_decl}

-- one part more
pub through_more : {X : Type 0} (f : Added → X → With X) (g : Added) (xs : List X) (x : X) →
    through f g (xs ++ x ∷ []) ≡ beside ((through f g xs).part ++ (f (through f g xs).added x).part ∷ []) (f (through f g xs).added x).added
through_more f g [] x = refl
through_more f g (y ∷ xs) x = ap (λ r. beside ((f g y).part ∷ r.part) r.added) (through_more f (f g y).added xs x)

-- the fields of a record, as a row and as a list
fields_row : (n : _) (g : Added) (r : Row_of-Fields n) → in_fields g r ≡ through in_field g (items-the_row-Fields n r)
fields_row _ g end_of-Fields = refl
fields_row _ g (more_of-Fields f fs) = ap (λ r. beside ((in_field g f).part ∷ r.part) r.added) (fields_row _ (in_field g f).added fs)

-- the type that an array or a pointer leads to
held : (g : Added) (t : TypeExpr) → in_held g (hidden-the_row-TypeExpr-3 t) ≡ in_type g t
unfolding hidden-the_row-TypeExpr-3 shape-the_row-TypeExpr-3 hidden
held g t = refl

-- Types, of which these are the parts.

pub type_named : (g : Added) (t : TypeExpr) (a : TypeParts) (q : Qualident) → type_of a ≡ t → a ≡ type_parts.Named q → in_type g t ≡ beside (type.Named q) g
type_named g t a q is at = ap (in_type g) (sym is ∙ ap type_of at)

pub type_array : (g : Added) (t : TypeExpr) (a : TypeParts) (p : Pos) (ls : List Expr) (x : TypeExpr) → type_of a ≡ t → a ≡ type_parts.Array p ls x →
    in_type g t ≡ beside (type.Array p ls (in_type g x).part) (in_type g x).added
type_array g t a p ls x is at = ap (in_type g) (sym is ∙ ap type_of at) ∙ ap (λ r. beside (type.Array p ls r.part) r.added) (held g x)

pub type_record : (g : Added) (t : TypeExpr) (a : TypeParts) (p : Pos) (base : Option Qualident) (fs : List Fields) → type_of a ≡ t → a ≡ type_parts.Record p base fs →
    in_type g t ≡ beside (type.Record p base (through in_field g fs).part) (through in_field g fs).added
type_record g t a p base fs is at =
    ap (in_type g) (sym is ∙ ap type_of at)
    ∙ ap (λ r. beside (type.Record p base r.part) r.added) (fields_row _ g (hidden-the_row-Fields-4 fs) ∙ ap (through in_field g) (items_hidden-the_row-Fields-4 fs))

pub type_pointer : (g : Added) (t : TypeExpr) (a : TypeParts) (p : Pos) (x : TypeExpr) → type_of a ≡ t → a ≡ type_parts.Pointer p x →
    in_type g t ≡ beside (type.Pointer p (in_type g x).part) (in_type g x).added
type_pointer g t a p x is at = ap (in_type g) (sym is ∙ ap type_of at) ∙ ap (λ r. beside (type.Pointer p r.part) r.added) (held g x)

pub type_procedure : (g : Added) (t : TypeExpr) (a : TypeParts) (p : Pos) (flag : Option Name) (formals : Option Formals) → type_of a ≡ t → a ≡ type_parts.Proc p flag formals →
    in_type g t ≡ beside (type.Proc p flag formals) g
type_procedure g t a p flag formals is at = ap (in_type g) (sym is ∙ ap type_of at)

pub type_object : (g : Added) (t : TypeExpr) (a : TypeParts) (p : Pos) (base : Option Qualident) (ds : List Decl) (body : Option Block) (end : Option Name) →
    type_of a ≡ t → a ≡ type_parts.Object p base ds body end → in_type g t ≡ beside (named g p) (defined g p (type.Object p base ds body end))
type_object g t a p base ds body end is at = ap (in_type g) (sym is ∙ ap type_of at)

-- Fields.

pub field_empty : (g : Added) (f : Fields) → f ≡ fields.Empty → in_field g f ≡ beside fields.Empty g
field_empty g f at = ap (in_field g) at

pub field_of : (g : Added) (f : Fields) (v : VarDef) → f ≡ fields.Of v →
    in_field g f ≡ beside (fields.Of (record { defs = v.defs; of = (in_type g v.of).part })) (in_type g v.of).added
field_of g f v at = ap (in_field g) at

-- Declarations, of which these are the parts.

pub decl_constants : (g : Added) (d : Decl) (a : DeclParts) (p : Pos) (cs : List ConstDef) → decl_of a ≡ d → a ≡ decl_parts.Consts p cs → in_decl g d ≡ beside (decl.Consts p cs) g
decl_constants g d a p cs is at = ap (in_decl g) (sym is ∙ ap decl_of at)

pub decl_types : (g : Added) (d : Decl) (a : DeclParts) (p : Pos) (ds : List TypeDef) → decl_of a ≡ d → a ≡ decl_parts.Types p ds →
    in_decl g d ≡ beside (decl.Types p (through in_definition g ds).part) (through in_definition g ds).added
decl_types g d a p ds is at =
    ap (in_decl g) (sym is ∙ ap decl_of at) ∙ ap (λ xs. beside (decl.Types p (through in_definition g xs).part) (through in_definition g xs).added) (items_hidden-the_row-TypeDef-0 ds)

pub decl_variables : (g : Added) (d : Decl) (a : DeclParts) (p : Pos) (vs : List VarDef) → decl_of a ≡ d → a ≡ decl_parts.Vars p vs →
    in_decl g d ≡ beside (decl.Vars p (through in_variable g vs).part) (through in_variable g vs).added
decl_variables g d a p vs is at =
    ap (in_decl g) (sym is ∙ ap decl_of at) ∙ ap (λ xs. beside (decl.Vars p (through in_variable g xs).part) (through in_variable g xs).added) (items_hidden-the_row-VarDef-1 vs)

pub decl_procedure : (g : Added) (d : Decl) (a : DeclParts) (p : Proc) → decl_of a ≡ d → a ≡ decl_parts.Proc p → in_decl g d ≡ beside (decl.Proc p) g
decl_procedure g d a p is at = ap (in_decl g) (sym is ∙ ap decl_of at)
