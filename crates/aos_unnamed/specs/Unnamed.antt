-- Object types without a name. Where a module's own declarations write one elsewhere than as the type of a definition, it is given a
-- name, and a definition behind all others; what it stands in names it. The bytes of the names that are given stand behind the text. The
-- first byte of each is 0, as that of no name in a text.
use Rattle.std.specs.Prelude.{ℕ, ◌+◌, ◌==◌, List, [], ◌∷◌, ◌++◌, length, Bool, true, false, if◌then◌else◌, None, unwrap_or, slice_get}
use Rattle.std.specs.Int.{to_be_bytes, w32}
use Rattle.aos_base.specs.declared.text.Pos.{Pos}
use Rattle.aos_tree.specs.declared.name.Name.{Name}
use Rattle.aos_tree.specs.declared.decl.Decl.{Decl, items-the_row-TypeDef, items-the_row-VarDef}
use Rattle.aos_tree.specs.declared.decl.Decl.TheVariants as decl
use Rattle.aos_tree.specs.declared.decl.TypeDef.{TypeDef}
use Rattle.aos_tree.specs.declared.decl.VarDef.{VarDef}
use Rattle.aos_tree.specs.declared.decl.Fields.{Fields}
use Rattle.aos_tree.specs.declared.decl.Fields.TheVariants as fields
use Rattle.aos_tree.specs.declared.decl.TypeExpr.{TypeExpr, Row_of-TypeExpr, end_of-TypeExpr, more_of-TypeExpr, Row_of-Fields, end_of-Fields, more_of-Fields}
use Rattle.aos_tree.specs.declared.decl.TypeExpr.TheVariants as type
use Rattle.aos_tree.specs.declared.module.Module.{Module}
use Rattle.aos_unnamed.specs.declared.added.Added.{Added}

-- a part of a module, and what is added so far: the text with names behind it, and the definitions
pub record With (X : Type 0) : Type 0 where
  pub part : X
  pub added : Added

abbrev pub beside : {X : Type 0} → X → Added → With X
beside x g = record { part = x; added = g }

-- the name behind a text of this length, which stands for a type that begins here
abbrev pub name_at : ℕ → Pos → Name
name_at n at = record { start = n; end = n + 4; pos = at }

abbrev pub named : Added → Pos → TypeExpr
named g at = type.Named (record { first = name_at (length g.text) at; second = None })

abbrev pub defined : Added → Pos → TypeExpr → Added
defined g at t =
    record {
      text = g.text ++ to_be_bytes w32 (length g.defs);
      defs = g.defs ++ record { def = record { name = name_at (length g.text) at; mark = None }; value = t } ∷ [];
    }

-- a name is one that was given
abbrev pub is_given : List ℕ → Bool
is_given word = unwrap_or (slice_get word 0) 1 == 0

-- parts in turn, each behind what was added before
abbrev pub through : {X : Type 0} → (Added → X → With X) → Added → List X → With (List X)
through f g [] = beside [] g
through f g (x ∷ xs) =
    let one = f g x in
    let rest = through f one.added xs in
    beside (one.part ∷ rest.part) rest.added

-- a type in which each object type is named
abbrev mutual
  pub in_type : Added → TypeExpr → With TypeExpr
  in_type g (type.Named q) = beside (type.Named q) g
  in_type g (type.Array' p lengths shape row) = let held = in_held g row in beside (type.Array p lengths held.part) held.added
  in_type g (type.Record' p base shape row) = let members = in_fields g row in beside (type.Record p base members.part) members.added
  in_type g (type.Pointer' p shape row) = let held = in_held g row in beside (type.Pointer p held.part) held.added
  in_type g (type.Proc p flag formals) = beside (type.Proc p flag formals) g
  in_type g (type.Object' p base shape row body end) = beside (named g p) (defined g p (type.Object' p base shape row body end))

  -- the type that an array or a pointer leads to
  pub in_held : {m : _} → Added → Row_of-TypeExpr m → With TypeExpr
  in_held g end_of-TypeExpr = beside (named g (record { line = 0; col = 0 })) g
  in_held g (more_of-TypeExpr t ts) = in_type g t

  pub in_fields : {m : _} → Added → Row_of-Fields m → With (List Fields)
  in_fields g end_of-Fields = beside [] g
  in_fields g (more_of-Fields f fs) =
      let one = in_field g f in
      let rest = in_fields one.added fs in
      beside (one.part ∷ rest.part) rest.added

  pub in_field : Added → Fields → With Fields
  in_field g fields.Empty = beside fields.Empty g
  in_field g (fields.Of' defs of) = let one = in_type g of in beside (fields.Of (record { defs = defs; of = one.part })) one.added

abbrev pub in_variable : Added → VarDef → With VarDef
in_variable g v = let one = in_type g v.of in beside (record { defs = v.defs; of = one.part }) one.added

abbrev pub is_object : TypeExpr → Bool
is_object (type.Named q) = false
is_object (type.Array' p lengths shape row) = false
is_object (type.Record' p base shape row) = false
is_object (type.Pointer' p shape row) = false
is_object (type.Proc p flag formals) = false
is_object (type.Object' p base shape row body end) = true

-- the type of a definition, by which an object type has its name
abbrev pub in_value : Added → TypeExpr → With TypeExpr
in_value g t = if is_object t then beside t g else in_type g t

abbrev pub in_definition : Added → TypeDef → With TypeDef
in_definition g d = let one = in_value g d.value in beside (record { def = d.def; value = one.part }) one.added

-- a declaration of a module; what a procedure declares stays as it is
abbrev pub in_decl : Added → Decl → With Decl
in_decl g (decl.Consts p cs) = beside (decl.Consts p cs) g
in_decl g (decl.Types' p shape row) = let all = through in_definition g (items-the_row-TypeDef _ row) in beside (decl.Types p all.part) all.added
in_decl g (decl.Vars' p shape row) = let all = through in_variable g (items-the_row-VarDef _ row) in beside (decl.Vars p all.part) all.added
in_decl g (decl.Proc' o shape row) = beside (decl.Proc' o shape row) g

-- a module in which all object types have names, and its text with those behind it that are given
abbrev pub all_named : List ℕ → Module → List ℕ × Module
all_named text m =
    let all = through in_decl (record { text = text; defs = [] }) m.decls in
    (all.added.text, record m { decls = all.part ++ decl.Types m.pos all.added.defs ∷ [] })
