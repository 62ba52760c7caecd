-- Object types: at module level alone, as the type of a definition. Their constants and fields stand in a scope of their own; the types that
-- they declare and their methods come later. A field whose type breaks a rule has no type, and the row leaves it out.
use Rattle.std.specs.Prelude.{ℕ, List, [], ◌∷◌, ◌++◌, length, replicate, map, ◌==◌, Option, Some, option_and_then, if◌then◌else◌}
use Rattle.aos_base.specs.declared.text.Pos.{Pos}
use Rattle.aos_tree.specs.declared.name.Name.{Name}
use Rattle.aos_tree.specs.declared.name.Qualident.{Qualident}
use Rattle.aos_tree.specs.declared.decl.Decl.{Decl}
use Rattle.aos_types.specs.declared.row.TypeId.{TypeId}
use Rattle.aos_types.specs.declared.row.TypeRow.TheVariants as row
use Rattle.aos_symbols.specs.declared.env.Claim.{Claim}
use Rattle.aos_symbols.specs.declared.env.Claim.TheVariants as claim
use Rattle.aos_symbols.specs.declared.env.Env.{Env}
use Rattle.aos_symbols.specs.declared.home.ObjectScope.{ObjectScope}
use Rattle.aos_symbols.specs.Judged.{Judged, kept, bind}
use Rattle.aos_symbols.specs.Declarations.{single_variables, procedure_defs}
use Rattle.aos_symbols.specs.Home.{set_variables, object_of as object_here}
use Rattle.aos_symbols.specs.Env as env
pub use Rattle.aos_made_types.specs.Met.{Met, met, refused_type, placed, claiming}
use Rattle.aos_made_types.specs.Records.{fields_of, base_in, are_parts_known}

-- what is met of an object type: the environment, the types in its row, and those of its fields
pub record MembersMet : Type 0 where
  pub env : Env
  pub types : List TypeId
  pub variables : List (Option TypeId)

abbrev pub members_met : Env → List TypeId → List (Option TypeId) → MembersMet
members_met e ts vs = record { env = e; types = ts; variables = vs }

-- so many fields more
abbrev pub with_members : MembersMet → ℕ → Met → MembersMet
with_members f n m = members_met m.env (f.types ++ fields_of n m.of) (f.variables ++ replicate n m.of)

-- the names of its fields and of its methods, of which its base has none
abbrev pub own_fields : List Decl → List Name
own_fields ds = map (λ d. d.name) (single_variables ds)

abbrev pub own_methods : List Decl → List Name
own_methods ds = map (λ d. d.name) (procedure_defs ds)

abbrev pub object_claims : Option Qualident → List Name → List Name → Option TypeId → TypeId → List Claim
object_claims (Some q) fs ms (Some b) t =
    claim.ObjectBase q.first.pos b t ∷ (map (λ n. claim.Field n b) fs ++ map (λ n. claim.Method n b) ms)
object_claims q fs ms b t = []

-- the types in its row: none where its base or a field has no type, so that its scalars aren't counted
abbrev pub own_types : Option Qualident → Option TypeId → List TypeId → (fields : ℕ) → List TypeId
own_types base b ts n = if are_parts_known base b (length ts) n then ts else []

-- an object type with a number, whose fields have these types
abbrev pub object_met : TypeId → Pos → Option Qualident → List Decl → Option TypeId → List TypeId → Env → Met
object_met t at base ds b ts e =
    met (claiming (object_claims base (own_fields ds) (own_methods ds) b t) (placed (Some t) at (row.Object b ts) e).env) (Some t)

-- the fields are the variables of its scope
abbrev pub with_own_fields : ℕ → List (Option TypeId) → Env → Env
with_own_fields k vs e = record e { here = set_variables e.here k vs }

-- its members are met in its scope, which has the number k
abbrev pub object_with : Env → Pos → Option Qualident → List Decl → TypeId → ℕ → Judged MembersMet → Judged Met
object_with e at base ds t k members =
    bind (base_in e base) (λ b.
    bind members (λ f. kept (object_met t at base ds b (own_types base b f.types (length f.variables)) (with_own_fields k f.variables (env.back_at e.path f.env)))))

-- the number of a definition, and the scope of its object type
abbrev pub object_slot : Env → Option TypeId → Option ObjectScope
object_slot e slot = option_and_then (object_here e.here) slot

abbrev pub object_in : Option TypeId → Option ObjectScope → Env → Pos → Option Qualident → List Decl → (Env → Judged MembersMet) → Judged Met
object_in slot object e at base ds members = if env.innermost e.path == 0 then at_module_level slot object else refused_type 26 at e
  where
    at_module_level : Option TypeId → Option ObjectScope → Judged Met
    at_module_level (Some t) (Some o) = object_with e at base ds t o.scope (members (env.within e o.scope))
    at_module_level _ _ = refused_type 26 at e
