-- The scopes of a module, as its declarations make them. All names are there before any declaration is looked at, so a name
-- may be used before it is declared. Constants, variables and procedures are numbered in their scope in the order of the text;
-- the types that a module's declarations define, its own and behind them those that its object types, its procedures and its methods
-- declare, have the numbers of a list.
use Rattle.std.specs.Prelude.{ℕ, suc, ◌+◌, nat_eq, List, [], ◌∷◌, ◌++◌, length, fold, codes, map, Option, Some, None, is_some, if◌then◌else◌, unwrap_or, slice_get}
use Rattle.std.specs.Str.{bytes_eq}
use Rattle.indexmap.specs.IndexMap.{insert_entry}
use Rattle.aos_tree.specs.declared.name.Name.{Name}
use Rattle.aos_tree.specs.declared.decl.Export.{Export}
use Rattle.aos_tree.specs.declared.decl.Formals.{Formals}
use Rattle.aos_tree.specs.declared.decl.Mark.{Mark}
use Rattle.aos_tree.specs.declared.decl.Def.{Def}
use Rattle.aos_tree.specs.declared.decl.Decl.{Decl, items-the_row-Decl}
use Rattle.aos_tree.specs.declared.decl.TypeDef.{TypeDef}
use Rattle.aos_tree.specs.declared.decl.TypeExpr.{TypeExpr}
use Rattle.aos_tree.specs.declared.decl.TypeExpr.TheVariants as type
use Rattle.aos_tree.specs.declared.module.Import.{Import}
use Rattle.aos_tree.specs.declared.module.Module.{Module}
use Rattle.aos_types.specs.declared.row.TypeId.{TypeId}
use Rattle.aos_symbols.specs.declared.scope.Meaning.{Meaning}
use Rattle.aos_symbols.specs.declared.scope.Meaning.TheVariants as means
use Rattle.aos_entries.specs.declared.entries.Sort.{Sort}
use Rattle.aos_entries.specs.declared.entries.Sort.TheVariants as sort
use Rattle.aos_symbols.specs.Spelling.{word}
use Rattle.aos_symbols.specs.Declarations.{constant_defs, type_defs, single_variables, procedure_defs, Procedure, procedures, inner_decls, inner_types, methods_in, all_procedures, formal_names}
use Rattle.aos_symbols.specs.Scope.{Named, Scope, empty, with_names}
use Rattle.aos_symbols.specs.declared.home.ObjectScope.{ObjectScope}
use Rattle.aos_symbols.specs.Home.{Home, strings_of}

abbrev pub export_of : Def → Option Export
export_of d = marked d.mark
  where
    marked : Option Mark → Option Export
    marked None = None
    marked (Some m) = Some m.export

-- the module that an import names: Out, or one of those before this one, of which the first has this number
abbrev pub among : List ℕ → ℕ → List Home → Meaning
among w k [] = means.Other
among w k (h ∷ hs) = if bytes_eq w h.name then means.Module k else among w (suc k) hs

abbrev pub module_named : List Home → List ℕ → Meaning
module_named homes w = if bytes_eq (codes "Out") w then means.Out else among w 0 homes

-- of what sort a numbered declaration is
abbrev pub meant : Sort → ℕ → Meaning
meant sort.Constant k = means.Constant k
meant sort.Variable k = means.Variable k
meant sort.Procedure k = means.Procedure k

abbrev pub number_at : List (Option TypeId) → ℕ → Option TypeId
number_at numbers k = unwrap_or (slice_get numbers k) None

-- The object types among definitions of types, by the types' numbers: the next definition has this place among the numbers, and so many
-- signatures stand before those of its methods.
pub record Objects : Type 0 where
  pub place : ℕ
  pub methods : ℕ
  pub all : List (ℕ × ObjectScope)

abbrev pub numbered_objects : (place methods : ℕ) → List (ℕ × ObjectScope) → Objects
numbered_objects k n os = record { place = k; methods = n; all = os }

-- the place of the first of these procedures that is an initializer, of which the first has the place k
abbrev pub initial_from : ℕ → List Procedure → Option ℕ
initial_from k [] = None
initial_from k (p ∷ ps) = if is_some p.initializer then Some k else initial_from (suc k) ps

abbrev pub initial_of : List Decl → Option ℕ
initial_of ds = initial_from 0 (procedures ds)

-- in a module with the number m
abbrev pub with_object : (m place methods : ℕ) → Option TypeId → TypeExpr → List (ℕ × ObjectScope) → List (ℕ × ObjectScope)
with_object m k n (Some t) (type.Object' p base shape row body end) os =
    insert_entry nat_eq os t.0 (record { home = m; scope = suc k; methods = n; initial = initial_of (items-the_row-Decl _ row) })
with_object m k n t x os = os

abbrev pub next_object : ℕ → List (Option TypeId) → Objects → TypeDef → Objects
next_object m numbers os d =
    numbered_objects (suc os.place) (os.methods + length (methods_in d))
    (with_object m os.place os.methods (number_at numbers os.place) d.value os.all)

abbrev pub objects_of : ℕ → List (Option TypeId) → List Decl → List (ℕ × ObjectScope)
objects_of m numbers ds = (fold (next_object m numbers) (numbered_objects 0 (length (procedures ds)) []) (type_defs ds)).all

abbrev pub unmarked : Name → Def
unmarked n = record { name = n; mark = None }

module _ (text : List ℕ) where
  abbrev pub entry : Def → Meaning → Named
  entry d m = (word text d.name, record { mark = export_of d; means = m })

  -- one after another, from this number on
  abbrev pub numbered : Sort → ℕ → List Def → List Named
  numbered of k [] = []
  numbered of k (d ∷ ds) = entry d (meant of k) ∷ numbered of (suc k) ds

  -- types, of which the first has this place among the numbers
  abbrev pub types_from : List (Option TypeId) → ℕ → List TypeDef → List Named
  types_from numbers k [] = []
  types_from numbers k (d ∷ ds) = entry d.def (means.Type (number_at numbers k)) ∷ types_from numbers (suc k) ds

  -- `X := M` imports M under the name X
  abbrev pub import_entry : List Home → Import → Named
  import_entry homes i = (word text i.name, record { mark = None; means = module_named homes (word text (unwrap_or i.of i.name)) })

  -- the names of declarations but those of types
  abbrev pub other_entries : List Decl → List Named
  other_entries ds =
      numbered sort.Constant 0 (constant_defs ds) ++ numbered sort.Variable 0 (single_variables ds)
      ++ numbered sort.Procedure 0 (procedure_defs ds)

  -- a name is declared once, so the order doesn't matter
  abbrev pub own_scope : List Home → List (Option TypeId) → Module → Scope
  own_scope homes numbers m =
      with_names empty (map (import_entry homes) m.imports ++ types_from numbers 0 (type_defs m.decls) ++ other_entries m.decls)

  -- of an object type, whose first type has this place among the numbers; of any other type it has no names
  abbrev pub inner_scope : List (Option TypeId) → ℕ → List Decl → Scope
  inner_scope numbers k ds = with_names empty (types_from numbers k (type_defs ds) ++ other_entries ds)

  abbrev pub inner_scopes : List (Option TypeId) → ℕ → List TypeDef → List Scope
  inner_scopes numbers k [] = []
  inner_scopes numbers k (d ∷ ds) =
      let inner = inner_decls d.value in inner_scope numbers k inner ∷ inner_scopes numbers (k + length (type_defs inner)) ds

  -- parameters are variables of their procedure, before its locals; the first of its types has this place among the numbers
  abbrev pub procedure_scope : List (Option TypeId) → ℕ → Option Formals → List Decl → Scope
  procedure_scope numbers k formals ds =
      with_names empty (
      types_from numbers k (type_defs ds) ++ numbered sort.Constant 0 (constant_defs ds)
      ++ numbered sort.Variable 0 (map unmarked (formal_names formals) ++ single_variables ds))

  abbrev pub procedure_scopes : List (Option TypeId) → ℕ → List Procedure → List Scope
  procedure_scopes numbers k [] = []
  procedure_scopes numbers k (p ∷ ps) =
      procedure_scope numbers k p.formals p.decls ∷ procedure_scopes numbers (k + length (type_defs p.decls)) ps

  -- where the modules before are these, and the types that the module's declarations define have these numbers
  abbrev pub scopes : List Home → List (Option TypeId) → Module → List Scope
  scopes homes numbers m =
      let own = type_defs m.decls in
      own_scope homes numbers m
      ∷ (inner_scopes numbers (length own) own
      ++ procedure_scopes numbers (length own + length (inner_types own)) (all_procedures m.decls))

  abbrev pub home_of : List Home → List (Option TypeId) → Module → Home
  home_of homes numbers m =
      record {
        name = word text m.name;
        text = text;
        strings = strings_of m.strings;
        scopes = scopes homes numbers m;
        first = suc (length (type_defs m.decls));
        signatures = [];
        records = [];
        objects = objects_of (length homes) numbers m.decls;
        slots = [];
      }
