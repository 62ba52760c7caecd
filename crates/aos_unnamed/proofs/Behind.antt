-- The names that are given stand behind the text.
use Rattle.std.proofs.Common.{◌≡◌, ℕ, List, [], ◌∷◌, ◌++◌, Bool, true, false, if◌then◌else◌, refl, sym, ap, ◌∙◌, append_assoc, append-nil}
use Rattle.aos_tree.specs.declared.decl.TypeDef.{TypeDef}
use Rattle.aos_tree.specs.declared.decl.VarDef.{VarDef}
use Rattle.aos_tree.specs.declared.decl.Decl.{Decl, items-the_row-TypeDef, items-the_row-VarDef}
use Rattle.aos_tree.specs.declared.decl.Decl.TheVariants as decl
use Rattle.aos_tree.specs.declared.decl.Fields.{Fields}
use Rattle.aos_tree.specs.declared.decl.Fields.TheVariants as fields
use Rattle.aos_tree.specs.declared.decl.TypeExpr.{TypeExpr, Row_of-TypeExpr, end_of-TypeExpr, more_of-TypeExpr, Row_of-Fields, end_of-Fields, more_of-Fields}
use Rattle.aos_tree.specs.declared.decl.TypeExpr.TheVariants as type
use Rattle.aos_tree.specs.declared.module.Module.{Module}
use Rattle.aos_unnamed.specs.declared.added.Added.{Added}
use Rattle.aos_unnamed.specs.Unnamed.{With, through, in_type, in_held, in_fields, in_field, in_variable, is_object, in_value, in_definition, in_decl, all_named}

-- a text is another with bytes behind it
abbrev pub IsBehind : List ℕ → List ℕ → Type 0
IsBehind text new = (more : List ℕ) × (new ≡ text ++ more)

nothing_behind : (text : List ℕ) → IsBehind text text
nothing_behind text = ([], sym (append-nil text))

behind_both : (a b c : List ℕ) → IsBehind a b → IsBehind b c → IsBehind a c
behind_both a b c one two = (one.0 ++ two.0, two.1 ∙ ap (λ t. t ++ two.0) one.1 ∙ append_assoc a one.0 two.0)

through_behind : {X : Type 0} (f : Added → X → With X) → ((g : Added) (x : X) → IsBehind g.text (f g x).added.text) → (g : Added) (xs : List X) → IsBehind g.text (through f g xs).added.text
through_behind f each g [] = nothing_behind g.text
through_behind f each g (x ∷ xs) =
    behind_both g.text (f g x).added.text (through f (f g x).added xs).added.text (each g x) (through_behind f each (f g x).added xs)

mutual
  type_behind : (g : Added) (t : TypeExpr) → IsBehind g.text (in_type g t).added.text
  type_behind g (type.Named q) = nothing_behind g.text
  type_behind g (type.Array' p lengths shape row) = held_behind g row
  type_behind g (type.Record' p base shape row) = fields_behind g row
  type_behind g (type.Pointer' p shape row) = held_behind g row
  type_behind g (type.Proc p flag formals) = nothing_behind g.text
  type_behind g (type.Object' p base shape row body end) = (_, refl)

  held_behind : {m : _} (g : Added) (row : Row_of-TypeExpr m) → IsBehind g.text (in_held g row).added.text
  held_behind g end_of-TypeExpr = nothing_behind g.text
  held_behind g (more_of-TypeExpr t ts) = type_behind g t

  fields_behind : {m : _} (g : Added) (row : Row_of-Fields m) → IsBehind g.text (in_fields g row).added.text
  fields_behind g end_of-Fields = nothing_behind g.text
  fields_behind g (more_of-Fields f fs) =
      let one = (in_field g f).added in behind_both g.text one.text (in_fields one fs).added.text (field_behind g f) (fields_behind one fs)

  field_behind : (g : Added) (f : Fields) → IsBehind g.text (in_field g f).added.text
  field_behind g fields.Empty = nothing_behind g.text
  field_behind g (fields.Of' defs of) = type_behind g of

value_behind : (g : Added) (t : TypeExpr) → IsBehind g.text (in_value g t).added.text
value_behind g t = by (is_object t)
  where
    by : (b : Bool) → IsBehind g.text (if b then record { part = t; added = g } else in_type g t).added.text
    by true = nothing_behind g.text
    by false = type_behind g t

decl_behind : (g : Added) (d : Decl) → IsBehind g.text (in_decl g d).added.text
decl_behind g (decl.Consts p cs) = nothing_behind g.text
decl_behind g (decl.Types' p shape row) = through_behind in_definition (λ g (d : TypeDef). value_behind g d.value) g (items-the_row-TypeDef _ row)
decl_behind g (decl.Vars' p shape row) = through_behind in_variable (λ g (v : VarDef). type_behind g v.of) g (items-the_row-VarDef _ row)
decl_behind g (decl.Proc' o shape row) = nothing_behind g.text

pub text_behind : (text : List ℕ) (m : Module) → IsBehind text (all_named text m).0
text_behind text m = through_behind in_decl decl_behind (record { text = text; defs = [] }) m.decls
