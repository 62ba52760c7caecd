-- What is judged of methods once all headings are met: rule 22, and their slots.
use Rattle.std.specs.Prelude.{ℕ, List, [], map, Bool, true, Option, Some, None}
use Rattle.std.specs.List.{flat_map}
use Rattle.aos_tree.specs.declared.name.Name.{Name}
use Rattle.aos_tree.specs.declared.decl.TypeDef.{TypeDef}
use Rattle.aos_types.specs.declared.row.TypeId.{TypeId}
use Rattle.aos_types.specs.declared.row.TypeRow.{TypeRow}
use Rattle.aos_symbols.specs.declared.breach.Breach.{Breach}
use Rattle.aos_symbols.specs.declared.scope.Meaning.{Meaning}
use Rattle.aos_symbols.specs.declared.scope.Meaning.TheVariants as means
use Rattle.aos_types.specs.declared.signature.Signature.{Signature}
use Rattle.aos_symbols.specs.declared.env.Lookup.{Lookup}
use Rattle.aos_symbols.specs.declared.env.Lookup.TheVariants.{Unknown, NotExported, Found}
use Rattle.aos_members.specs.declared.objects.Method.{Method}
use Rattle.aos_symbols.specs.declared.env.Env.{Env}
use Rattle.aos_symbols.specs.Breaches.{breach_unless}
use Rattle.aos_symbols.specs.Judged.{Judged, judged}
use Rattle.aos_symbols.specs.Declarations.{Procedure, methods_in}
use Rattle.aos_symbols.specs.Home.{with_slots}
use Rattle.aos_members.specs.Members as members
use Rattle.aos_symbols.specs.Env as env
pub use Rattle.aos_types.specs.Signature.{same_type, same_kind, same_parameter, same_parameters, same_result, same_signature, may_stand}

-- the number that a type's name stands for
abbrev pub slot_meant : Meaning → Option TypeId
slot_meant (means.Type of) = of
slot_meant m = None

abbrev pub slot_in : Lookup → Option TypeId
slot_in Unknown = None
slot_in NotExported = None
slot_in (Found x) = slot_meant x.means

abbrev pub defined_type : Env → TypeDef → Option TypeId
defined_type e d = slot_in (env.lookup e d.def.name)

-- Rule 22: a method has the formals and the result of the one that it overrides, and is an initializer where that is one. What breaks a
-- rule counts as kept.

-- the headings of both are met
abbrev pub may_override : List TypeRow → Option Signature → Option Signature → Bool
may_override rows (Some s) (Some t) = may_stand rows s t
may_override rows _ _ = true

abbrev pub signature_of : Env → Method → Option Signature
signature_of e m = env.signature e m.home m.number

abbrev pub override_breaches : Env → Name → Option Method → Option Method → List Breach
override_breaches e n (Some m) (Some u) = breach_unless (may_override e.types (signature_of e m) (signature_of e u)) 22 n.pos
override_breaches e n _ _ = []

abbrev pub named_breaches : Env → TypeId → Name → List Breach
named_breaches e t n = override_breaches e n (members.method e t n) (members.upper e t n)

abbrev pub method_breaches : Env → TypeId → Procedure → List Breach
method_breaches e t p = named_breaches e t p.name

abbrev pub type_breaches : Env → Option TypeId → List Procedure → List Breach
type_breaches e None ps = []
type_breaches e (Some t) ps = flat_map (method_breaches e t) ps

abbrev pub definition_breaches : Env → TypeDef → List Breach
definition_breaches e d = type_breaches e (defined_type e d) (methods_in d)

-- the slots of the methods that a type declares; all stands at a place of the module then
abbrev pub type_slots : Env → Option TypeId → List ℕ
type_slots e None = []
type_slots e (Some t) = members.own_slots e t

abbrev pub definition_slots : Env → TypeDef → List ℕ
definition_slots e d = type_slots e (defined_type e d)

abbrev pub with_all_slots : Env → List TypeDef → Env
with_all_slots e ds = record e { here = with_slots e.here (map (definition_slots e) ds); self_type = None }

abbrev pub overriding : Env → List TypeDef → Judged Env
overriding e ds = let f = with_all_slots e ds in judged (flat_map (definition_breaches f) ds) f
