-- The second pass: constants, types and headings, and the environment behind them. First come the module's own declarations, then the
-- types that its object types declare, then the declarations of its procedures, and then those of its types' methods.
use Rattle.std.specs.Prelude.{ℕ, suc, List, [], ◌∷◌, ◌+◌, length, Bool, true, false, ◌&&◌, Option, Some, None, is_some, slice_set}
use Rattle.std.specs.Option.{is_none}
use Rattle.aos_base.specs.declared.text.Pos.{Pos}
use Rattle.aos_tree.specs.declared.decl.Decl.{Decl, items-the_row-TypeDef, items-the_row-VarDef}
use Rattle.aos_tree.specs.declared.decl.Decl.TheVariants as decl
use Rattle.aos_tree.specs.declared.decl.TypeDef.{TypeDef}
use Rattle.aos_tree.specs.declared.decl.VarDef.{VarDef}
use Rattle.aos_tree.specs.declared.decl.TypeExpr.{TypeExpr}
use Rattle.aos_tree.specs.declared.decl.TypeExpr.TheVariants as type
use Rattle.aos_tree.specs.declared.decl.Formals.{Formals}
use Rattle.aos_types.specs.declared.row.TypeId.{TypeId}
use Rattle.aos_types.specs.declared.row.TypeRow.TheVariants as row
use Rattle.aos_symbols.specs.declared.breach.Breach.{Breach}
use Rattle.aos_types.specs.declared.signature.Parameter.{Parameter}
use Rattle.aos_types.specs.declared.signature.Signature.{Signature}
use Rattle.aos_symbols.specs.declared.env.Env.{Env}
use Rattle.aos_symbols.specs.Breaches.{breach_unless}
use Rattle.aos_symbols.specs.Judged.{Judged, judged, kept, bind, walk}
use Rattle.aos_symbols.specs.Declarations.{Procedure, procedures, inner_decls, methods_in, type_defs}
use Rattle.aos_symbols.specs.Home.{add_signature}
use Rattle.aos_members.specs.Members as members
use Rattle.aos_symbols.specs.Env as env
pub use Rattle.aos_check_decl.specs.Variables.{with_constant, constant_def, with_variable, with_variables}
use Rattle.aos_check_decl.specs.Types.{Met, named_type, type_in}
use Rattle.aos_symbols.specs.Env.{nil}
pub use Rattle.aos_made_types.specs.Formals.{opened, FormalsMet, formals_met, with_section, given, HeadingMet, heading_met, formals_in, result_in}
pub use Rattle.aos_check_types.specs.Methods.{slot_meant, slot_in, defined_type, overriding}

-- Types.

-- a definition that breaks a rule gives a type without contents
abbrev pub settled : Option TypeId → Met → Env
settled slot m = by slot m.of
  where
    by : Option TypeId → Option TypeId → Env
    by (Some t) None = record m.env { types = slice_set m.env.types t.0 (row.Open nil) }
    by (Some t) (Some u) = m.env
    by None of = m.env

abbrev pub defined : Env → Option TypeId → TypeExpr → Judged Env
defined e slot of = bind (type_in false slot e of) (λ m. kept (settled slot m))

-- what names for other types stand for was told before; which rules they break is told here, where they stand in all scopes
abbrev pub type_def : Env → TypeDef → Judged Env
type_def e d = by d.value
  where
    by : TypeExpr → Judged Env
    by (type.Named q) = bind (named_type e q) (λ of. kept e)
    by of = defined e (slot_in (env.lookup e d.def.name)) of

-- Variables.

abbrev pub variable_def : Env → VarDef → Judged Env
variable_def e v = bind (type_in false None e v.of) (λ m. kept (with_variables m.env (length v.defs) m.of))

abbrev pub declared : Env → Decl → Judged Env
declared e (decl.Consts p cs) = walk constant_def e cs
declared e (decl.Types' p shape row) = walk type_def e (items-the_row-TypeDef _ row)
declared e (decl.Vars' p shape row) = walk variable_def e (items-the_row-VarDef _ row)
declared e (decl.Proc' o shape row) = kept e

-- Types within object types: the other declarations there are met with the object type.

abbrev pub inner_declared : Env → Decl → Judged Env
inner_declared e (decl.Types' p shape row) = walk type_def e (items-the_row-TypeDef _ row)
inner_declared e (decl.Consts p cs) = kept e
inner_declared e (decl.Vars' p shape row) = kept e
inner_declared e (decl.Proc' o shape row) = kept e

-- in the scope with this number
abbrev pub types_within : Env → ℕ → List Decl → Judged Env
types_within e k ds = bind (walk inner_declared (env.within e k) ds) (λ f. kept (env.back_at e.path f))

-- in those of definitions in turn, from this number on
abbrev pub inner_from : Env → ℕ → List TypeDef → Judged Env
inner_from e k [] = kept e
inner_from e k (d ∷ ds) = bind (types_within e k (inner_decls d.value)) (λ e. inner_from e (suc k) ds)

-- Headings.

abbrev pub with_parameters : Env → List Parameter → Env
with_parameters e [] = e
with_parameters e (p ∷ ps) = with_parameters (with_variable e p.of) ps

-- an initializer stands where it may, and is no function
abbrev pub initializer_breaches : (may_stand : Bool) → Option Pos → Option Formals → List Breach
initializer_breaches may_stand None formals = []
initializer_breaches may_stand (Some at) formals = breach_unless (may_stand && is_none (result_in formals)) 24 at

abbrev pub marked : Option Pos → HeadingMet → HeadingMet
marked initializer h = heading_met h.env (record h.signature { is_initializer = is_some initializer })

abbrev pub with_signature : Env → Signature → Env
with_signature e s = record e { here = add_signature e.here s }

-- a procedure's declarations, in its scope, which has the number k
abbrev pub locals_in : ℕ → HeadingMet → List Decl → Judged Env
locals_in k h ds =
    bind (walk declared (with_parameters (env.within (with_signature h.env h.signature) k) h.signature.parameters) ds) (λ e.
    kept (env.back_at h.env.path e))

abbrev pub procedure : (may_stand : Bool) → Env → ℕ → Option Pos → Option Formals → List Decl → Judged Env
procedure may_stand e k initializer formals ds =
    bind (judged (initializer_breaches may_stand initializer formals) e) (λ e.
    bind (formals_in e formals) (λ h. locals_in k (marked initializer h) ds))

-- procedures, whose scopes have the numbers from k on; one of them may be an initializer, or none
abbrev pub procedures_from : (may_stand : Bool) → Env → ℕ → List Procedure → Judged Env
procedures_from may_stand e k [] = kept e
procedures_from may_stand e k (p ∷ ps) =
    bind (procedure may_stand e k p.initializer p.formals p.decls) (λ e.
    procedures_from (may_stand && is_none p.initializer) e (suc k) ps)

-- Methods: their headings and declarations stand within their object type.

abbrev pub within_type : Env → Option TypeId → Env
within_type e None = e
within_type e (Some t) = members.within_object e t

abbrev pub type_methods : Env → ℕ → TypeDef → Judged Env
type_methods e k d =
    bind (procedures_from true (within_type e (defined_type e d)) k (methods_in d)) (λ f. kept (members.outside e.path f))

-- of types in turn
abbrev pub methods_from : Env → ℕ → List TypeDef → Judged Env
methods_from e k [] = kept e
methods_from e k (d ∷ ds) = bind (type_methods e k d) (λ e. methods_from e (k + length (methods_in d)) ds)

-- all declarations of a module, once which its methods are judged together
abbrev pub headings : Env → List Decl → Judged Env
headings e ds =
    let first = suc (length (type_defs ds)) in
    bind (walk declared e ds) (λ e.
    bind (inner_from e 1 (type_defs ds)) (λ e.
    bind (procedures_from false e first (procedures ds)) (λ e.
    bind (methods_from e (first + length (procedures ds)) (type_defs ds)) (λ e. overriding e (type_defs ds)))))
