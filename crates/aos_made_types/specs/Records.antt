-- Records. A field whose type breaks a rule has no type, and the record's row leaves it out.
use Rattle.std.specs.Prelude.{ℕ, List, [], ◌∷◌, ◌++◌, length, replicate, fold, map, nat_lt, Bool, false, ◌==◌, ◌&&◌, ◌||◌, Option, Some, None, is_some, if◌then◌else◌}
use Rattle.std.specs.List.{flat_map}
use Rattle.std.specs.Option.{is_none}
use Rattle.aos_base.specs.declared.text.Pos.{Pos}
use Rattle.aos_tree.specs.declared.name.Name.{Name}
use Rattle.aos_tree.specs.declared.name.Qualident.{Qualident}
use Rattle.aos_tree.specs.declared.decl.Def.{Def}
use Rattle.aos_tree.specs.declared.decl.Fields.{Fields}
use Rattle.aos_tree.specs.declared.decl.Fields.TheVariants as fields
use Rattle.aos_types.specs.declared.row.TypeId.{TypeId}
use Rattle.aos_types.specs.declared.row.TypeRow.TheVariants as row
use Rattle.aos_symbols.specs.declared.scope.Meaning.TheVariants as means
use Rattle.aos_symbols.specs.declared.env.Claim.{Claim}
use Rattle.aos_symbols.specs.declared.env.Claim.TheVariants as claim
use Rattle.aos_symbols.specs.declared.env.Env.{Env}
use Rattle.aos_symbols.specs.Breaches.{breach}
use Rattle.aos_symbols.specs.Judged.{Judged, judged, kept, bind}
use Rattle.aos_symbols.specs.Scope.{Scope, with_name, with_variable}
use Rattle.aos_symbols.specs.Home.{add_record}
use Rattle.aos_entries.specs.Entries.{entry}
use Rattle.aos_symbols.specs.Env as env
use Rattle.aos_values.specs.TypeNames.{named_type}
pub use Rattle.aos_made_types.specs.Met.{Met, met, placed, claiming}

pub record FieldsMet : Type 0 where
  pub env : Env
  pub types : List TypeId
  pub scope : Scope

abbrev pub fields_met : Env → List TypeId → Scope → FieldsMet
fields_met e ts s = record { env = e; types = ts; scope = s }

abbrev pub fields_of : ℕ → Option TypeId → List TypeId
fields_of n None = []
fields_of n (Some t) = replicate n t

-- the next field of a record
abbrev pub with_field : List ℕ → Option TypeId → Scope → Def → Scope
with_field text of s d = with_variable (with_name s (entry text d (means.Variable (length s.variables)))) of

abbrev pub with_fields : FieldsMet → List Def → Met → FieldsMet
with_fields f ds m =
    fields_met m.env (f.types ++ fields_of (length ds) m.of) (fold (with_field m.env.here.text m.of) f.scope ds)

-- the environment that knows a record type's fields, where the type has a number
abbrev pub with_record : Scope → Met → Met
with_record s m = by m.of
  where
    by : Option TypeId → Met
    by None = m
    by (Some t) = met (record m.env { here = add_record m.env.here t s }) (Some t)

-- What is asked of a record's base, once all types are met.

abbrev pub fields_in_def : Fields → List Name
fields_in_def fields.Empty = []
fields_in_def (fields.Of' defs of) = map (λ d. d.name) defs

abbrev pub field_names : List Fields → List Name
field_names fs = flat_map fields_in_def fs

-- a predeclared type is neither a record nor an array, which is known before all types are met
abbrev pub is_predeclared : Option TypeId → Bool
is_predeclared None = false
is_predeclared (Some t) = nat_lt t.0 (length env.basic_rows)

-- the base of a record, which has fields with these names, or of an object type
abbrev pub base_in : Env → Option Qualident → Judged (Option TypeId)
base_in e None = kept None
base_in e (Some q) = bind (named_type e q) (λ b. if is_predeclared b then judged (breach 17 q.first.pos) None else kept b)

abbrev pub base_claims : Option Qualident → List Name → Option TypeId → Option TypeId → List Claim
base_claims (Some q) names (Some b) (Some t) = claim.Base q.first.pos b t ∷ map (λ n. claim.Field n b) names
base_claims q names b of = []

abbrev pub based : Option Qualident → List Name → Option TypeId → Met → Met
based q names b m = met (claiming (base_claims q names b m.of) m.env) m.of

-- its row, what the module knows of its fields, and what is asked of its base
abbrev pub placed_record : Option TypeId → Pos → Option Qualident → List Name → Option TypeId → List TypeId → Scope → Env → Met
placed_record slot at base names b ts s e = based base names b (with_record s (placed slot at (row.Record b ts) e))

-- its base, where one is written, and all its fields have types: there are as many types as fields
abbrev pub are_parts_known : Option Qualident → Option TypeId → (types fields : ℕ) → Bool
are_parts_known base b n m = (is_none base || is_some b) && n == m

-- elsewhere the record has no type itself, and its row has no fields; its base is asked as that of any record
abbrev pub known_record : Option TypeId → Pos → Option Qualident → List Name → Option TypeId → FieldsMet → Met
known_record slot at base names b f =
    if are_parts_known base b (length f.types) (length f.scope.variables)
    then placed_record slot at base names b f.types f.scope f.env
    else met (placed_record slot at base names b [] f.scope f.env).env None

abbrev pub record_in : Option TypeId → Env → Pos → Option Qualident → List Name → Judged FieldsMet → Judged Met
record_in slot e at base names fs =
    bind (base_in e base) (λ b. bind fs (λ f. kept (known_record slot at base names b f)))
