-- Types and fields as they are written, form by form.
use Rattle.std.proofs.Common.{◌≡◌, suc, List, [], ◌∷◌, ◌++◌, length, Option, None, Bool, true, false, ◌&&◌, ◌==◌, refl, ap, ◌∙◌, arith}
use Rattle.std.proofs.lemmas.Bool.Decides.{nat_tests}
use denote.Hole.Carrier.{hidden}
use Rattle.aos_base.specs.declared.text.Pos.{Pos}
use Rattle.aos_tree.specs.declared.name.Qualident.{Qualident}
use Rattle.aos_tree.specs.declared.expr.Expr.{Expr}
use Rattle.aos_tree.specs.declared.decl.Fields.{Fields}
use Rattle.aos_tree.specs.declared.name.Name.{Name}
use Rattle.aos_tree.specs.declared.stat.Block.{Block}
use Rattle.aos_tree.specs.declared.decl.VarDef.{VarDef}
use Rattle.aos_tree.specs.declared.decl.Decl.{Decl, Row_of-VarDef, end_of-VarDef, more_of-VarDef, Row_of-Decl, end_of-Decl, more_of-Decl, items-the_row-VarDef, items-the_row-Decl, items_hidden-the_row-VarDef-1, items_hidden-the_row-Decl-2}
use Rattle.aos_tree.specs.declared.decl.Decl.TheVariants as decl
use Rattle.aos_tree.specs.declared.decl.Decl.TheBlock.{hidden-the_row-VarDef-1, hidden-the_row-Decl-2, hidden-the_row-TypeExpr-3, shape-the_row-TypeExpr-3, hidden-the_row-Fields-4}
use Rattle.aos_tree.specs.declared.decl.TypeExpr.{TypeExpr, Row_of-Fields, end_of-Fields, more_of-Fields, items-the_row-Fields, items_hidden-the_row-Fields-4}
use Rattle.aos_tree.specs.declared.decl.TypeExpr.TheVariants as type
use Rattle.aos_types.specs.declared.row.TypeId.{TypeId}
use Rattle.aos_symbols.specs.declared.env.Env.{Env}
use Rattle.aos_symbols.specs.Scope.{empty}
use Rattle.aos_symbols.specs.Judged.{Judged, judged, kept, bind, walk}
use Rattle.aos_check_decl.specs.Types.{FieldsMet, fields_met, MembersMet, members_met, variable_in, variables_in, member_in, members_in, object_slot, object_in, object_of, is_empty, arrays, lengths_of, open_of, type_in, held_in, pointer_in, pointer_behind, fields_in, field_in, field_names, array_in, record_in, record_of}

-- the fields of a record, as a row and as a list
fields_row : (n : _) (f : FieldsMet) (r : Row_of-Fields n) → fields_in f r ≡ walk field_in f (items-the_row-Fields n r)
fields_row _ f end_of-Fields = refl
fields_row _ f (more_of-Fields x xs) =
    ap (λ (w : Judged FieldsMet). judged ((field_in f x).breaches ++ w.breaches) w.answer) (fields_row _ (field_in f x).answer xs)

-- the fields and the declarations of an object type, as rows and as lists
variables_row : (n : _) (f : MembersMet) (r : Row_of-VarDef n) → variables_in f r ≡ walk variable_in f (items-the_row-VarDef n r)
variables_row _ f end_of-VarDef = refl
variables_row _ f (more_of-VarDef defs of ds) =
    let one = variable_in f (record { defs = defs; of = of }) in
    ap (λ (w : Judged MembersMet). judged (one.breaches ++ w.breaches) w.answer) (variables_row _ one.answer ds)

members_row : (n : _) (f : MembersMet) (r : Row_of-Decl n) → members_in f r ≡ walk member_in f (items-the_row-Decl n r)
members_row _ f end_of-Decl = refl
members_row _ f (more_of-Decl d ds) =
    ap (λ (w : Judged MembersMet). judged ((member_in f d).breaches ++ w.breaches) w.answer) (members_row _ (member_in f d).answer ds)

pub member_variables : (f : MembersMet) (p : Pos) (ds : List VarDef) → member_in f (decl.Vars p ds) ≡ walk variable_in f ds
member_variables f p ds = variables_row _ f (hidden-the_row-VarDef-1 ds) ∙ ap (λ xs. walk variable_in f xs) (items_hidden-the_row-VarDef-1 ds)

-- the type within an array, and that to which a pointer leads
held : (may_be_open : Bool) (e : Env) (t : TypeExpr) → held_in may_be_open e (hidden-the_row-TypeExpr-3 t) ≡ type_in may_be_open None e t
unfolding hidden-the_row-TypeExpr-3 shape-the_row-TypeExpr-3 hidden
held may_be_open e t = refl

led : (slot : Option TypeId) (e : Env) (p : Pos) (t : TypeExpr) → pointer_in slot e p (hidden-the_row-TypeExpr-3 t)
    ≡ bind (type_in true None e t) (λ m. pointer_behind slot p t m)
unfolding hidden-the_row-TypeExpr-3 shape-the_row-TypeExpr-3 hidden
led slot e p t = refl

-- an array with at least one length
pub array_met : (may_be_open : Bool) (slot : Option TypeId) (e : Env) (t : TypeExpr) (p : Pos) (ls : List Expr) (element : TypeExpr) → t ≡ type.Array p ls element → (length ls == 0) ≡ false →
    type_in may_be_open slot e t ≡ bind (lengths_of e ls) (λ ns. bind (type_in false None e element) (λ m. kept (arrays slot p ns m)))
array_met may_be_open slot e t p ls element is some = ap (type_in may_be_open slot e) is ∙ ap (λ j. array_in may_be_open slot e p ls j) (held (may_be_open && is_empty ls) e element) ∙ by may_be_open ls some
  where
    by : (may_be_open : Bool) (ls : List Expr) → (length ls == 0) ≡ false → array_in may_be_open slot e p ls (type_in (may_be_open && is_empty ls) None e element)
        ≡ bind (lengths_of e ls) (λ ns. bind (type_in false None e element) (λ m. kept (arrays slot p ns m)))
    by may_be_open [] none = absurd (cc)
    by true (l ∷ ls) some = refl
    by false (l ∷ ls) some = refl

-- an open array, where one may stand
pub open_met : (slot : Option TypeId) (e : Env) (t : TypeExpr) (p : Pos) (ls : List Expr) (element : TypeExpr) → t ≡ type.Array p ls element → (length ls == 0) ≡ true →
    type_in true slot e t ≡ bind (type_in true None e element) (λ m. kept (open_of slot p m))
open_met slot e t p ls element is none = ap (type_in true slot e) is ∙ ap (λ j. array_in true slot e p ls j) (held (is_empty ls) e element) ∙ by ls none
  where
    by : (ls : List Expr) → (length ls == 0) ≡ true → array_in true slot e p ls (type_in (is_empty ls) None e element)
        ≡ bind (type_in true None e element) (λ m. kept (open_of slot p m))
    by [] none = refl
    by (l ∷ ls) none = let e : (suc (length ls) == 0) ≡ true = none in absurd (grind (arith, nat_tests))

-- a record, whose fields are a list
pub record_met : (may_be_open : Bool) (slot : Option TypeId) (e : Env) (t : TypeExpr) (p : Pos) (base : Option Qualident) (fs : List Fields) → t ≡ type.Record p base fs →
    type_in may_be_open slot e t ≡ record_of slot e p base fs
record_met may_be_open slot e t p base fs is =
    ap (type_in may_be_open slot e) is
    ∙ ap (λ j. record_in slot e p base (field_names (items-the_row-Fields _ (hidden-the_row-Fields-4 fs))) j) (fields_row _ (fields_met e [] empty) (hidden-the_row-Fields-4 fs))
    ∙ ap (λ xs. record_in slot e p base (field_names xs) (walk field_in (fields_met e [] empty) xs)) (items_hidden-the_row-Fields-4 fs)

-- a pointer, which is met behind what it leads to
pub pointer_met : (may_be_open : Bool) (slot : Option TypeId) (e : Env) (t : TypeExpr) (p : Pos) (to : TypeExpr) → t ≡ type.Pointer p to →
    type_in may_be_open slot e t ≡ bind (type_in true None e to) (λ m. pointer_behind slot p to m)
pointer_met may_be_open slot e t p to is = ap (type_in may_be_open slot e) is ∙ led slot e p to

-- an object type, whose declarations are a list
pub object_written : (may_be_open : Bool) (slot : Option TypeId) (e : Env) (t : TypeExpr) (p : Pos) (base : Option Qualident) (ds : List Decl) (body : Option Block) (end : Option Name) →
    t ≡ type.Object p base ds body end → type_in may_be_open slot e t ≡ object_of slot e p base ds
object_written may_be_open slot e t p base ds body end is =
    let row = hidden-the_row-Decl-2 ds in
    ap (type_in may_be_open slot e) is
    ∙ (λ i. object_in slot (object_slot e slot) e p base (items-the_row-Decl _ row) (λ f. members_row _ (members_met f [] []) row i))
    ∙ ap (λ xs. object_in slot (object_slot e slot) e p base xs (λ f. walk member_in (members_met f [] []) xs)) (items_hidden-the_row-Decl-2 ds)
