-- Modules in load order, each in three passes of which the first that breaks a rule refuses: names; constants, types and
-- headings; bodies.
use Rattle.std.specs.Prelude.{ℕ, suc, ◌+◌, List, [], ◌∷◌, ◌++◌, length, map, drop, Bool, true, false, Option, Some, None, is_some, option_map, option_and_then, slice_get}
use Rattle.std.specs.List.{zip, list_any}
use Rattle.aos_base.specs.declared.priority.Priority.{Priority}
use Rattle.aos_base.specs.declared.priority.Priority.TheVariants.{Normal}
use Rattle.aos_base.specs.declared.text.Pos.{Pos}
use Rattle.aos_tree.specs.declared.stat.Block.{Block}
use Rattle.aos_tree.specs.declared.decl.TypeDef.{TypeDef}
use Rattle.aos_tree.specs.declared.decl.TypeExpr.{TypeExpr}
use Rattle.aos_tree.specs.declared.decl.TypeExpr.TheVariants as type
use Rattle.aos_tree.specs.declared.module.Module.{Module as Tree}
use Rattle.aos_types.specs.declared.row.TypeId.{TypeId}
use Rattle.aos_types.specs.declared.row.TypeRow.{TypeRow}
use Rattle.aos_types.specs.declared.row.TypeRow.TheVariants as row
use Rattle.aos_types.specs.Table.{row_of}
use Rattle.aos_typed.specs.declared.tree.TType.TheVariants.{Named}
use Rattle.aos_typed.specs.Numbers.{id_of}
use Rattle.aos_typed.specs.Program.{Stat, Stats, Nothing, Parameter, Procedure as TypedProcedure, Method, ObjectType, Module, Program, Body}
use Rattle.aos_types.specs.declared.signature.Signature.{Signature}
use Rattle.aos_symbols.specs.declared.home.ObjectScope.{ObjectScope}
use Rattle.aos_symbols.specs.declared.breach.Breach.{Breach}
use Rattle.aos_symbols.specs.declared.env.Env.{Env}
use Rattle.aos_symbols.specs.Judged.{Judged, judged, kept, bind, walk}
use Rattle.aos_symbols.specs.Outcome.{Outcome, went, then, passed, decided}
use Rattle.aos_symbols.specs.Spelling.{is_active}
use Rattle.aos_symbols.specs.Declarations.{Procedure, procedures, methods_in, type_defs, inner_parts, types_of, single_variables, formal_names}
use Rattle.aos_symbols.specs.Scope.{Scope}
use Rattle.aos_symbols.specs.Home.{Home, slot_at, texts_of}
use Rattle.aos_arguments.specs.Filled.{filled_texts}
use Rattle.aos_check_names.specs.Names.{name_breaches}
use Rattle.aos_members.specs.Members as members
use Rattle.aos_symbols.specs.Env as env
use Rattle.aos_known.specs.Known.{type_as}
use Rattle.aos_check_types.specs.Methods.{defined_type}
use Rattle.aos_check_decl.specs.Pass.{declare}
use Rattle.aos_variables.specs.Parts.{spelling, field_spellings, variables_of, variable_of, parameter_of, result_of, first_scope}
use Rattle.aos_check_stat.specs.Bodies.{listed, are_exclusive, body_of, priority_of}

-- the modules that are elaborated: what they declare, the types of all, and their programs
pub record World : Type 0 where
  pub before : List Home
  pub types : List TypeRow
  pub modules : List Module
  pub objects : List ObjectType

abbrev pub no_modules : World
no_modules = record { before = []; types = env.basic_rows; modules = []; objects = [] }

abbrev pub program_of : World → Program
program_of w = record { modules = w.modules; types = w.types; objects = w.objects }

abbrev pub object_body : TypeExpr → Option Block
object_body (type.Object' p base shape row body end) = body
object_body t = None

-- a body has the modifier ACTIVE
abbrev pub has_active : List ℕ → Option Block → Bool
has_active text None = false
has_active text (Some b) = list_any (is_active text) b.modifiers

-- a body has the modifier EXCLUSIVE
abbrev pub has_exclusive : List ℕ → Option Block → Bool
has_exclusive text None = false
has_exclusive text (Some b) = are_exclusive text b.modifiers

-- a body, whose statements these are
abbrev pub body_with : List ℕ → Option Block → Stats → Body
body_with text b ss = record { is_exclusive = has_exclusive text b; statements = ss }

abbrev pub empty_body : Body
empty_body = record { is_exclusive = false; statements = Nothing }

-- the place of what has no name
abbrev pub nowhere : Pos
nowhere = record { line = 0; col = 0 }

-- What a module says beside its types: a name with its place, the names of their own fields, whether there is a body, whether that is
-- active, at which priority, and that body, and the methods, each with its slot. First stand those that the module's own declarations
-- define; then those that are defined within these, and those that are written elsewhere.

pub record Beside : Type 0 where
  pub name : List ℕ
  pub at : Pos
  pub fields : List (List ℕ)
  pub has_body : Bool
  pub is_active : Bool
  pub priority : Priority
  pub body : Body
  pub methods : List Method

-- a type that isn't an object type with a name
abbrev pub local_type : Env → TypeDef → Beside
local_type e d =
    record {
      name = spelling e.here.text d.def.name;
      at = d.def.name.pos;
      fields = field_spellings e.here.text d.value;
      has_body = false;
      is_active = false;
      priority = Normal;
      body = empty_body;
      methods = [];
    }

abbrev pub unnamed_type : Pos → Beside
unnamed_type at =
    record { name = []; at = nowhere; fields = []; has_body = false; is_active = false; priority = Normal; body = empty_body; methods = [] }

abbrev pub other_types : Env → Tree → List Beside
other_types e m = map (local_type e) (types_of (inner_parts m.decls)) ++ map unnamed_type e.places

-- The bodies of procedures, whose scopes have the numbers from k on, behind those before them.
abbrev pub bodies_from : Env → ℕ → List Stats → List Procedure → Judged (List Stats)
bodies_from e k done [] = kept done
bodies_from e k done (p ∷ ps) =
    bind (body_of (env.within e k) false p.body) (λ ss. bodies_from e (suc k) (done ++ listed ss ∷ []) ps)

-- Procedures: the parameters stand first in a procedure's scope, and behind them its locals.

abbrev pub procedure_of : List ℕ → Procedure → Signature → List (Option TypeId) → Stats → TypedProcedure
procedure_of text p s variables body =
    let names = formal_names p.formals in
    record {
      name = spelling text p.name;
      at = p.name.pos;
      of = None;
      is_initializer = is_some p.initializer;
      parameters = map (parameter_of text) (zip names s.parameters);
      locals = map (variable_of text) (zip (single_variables p.decls) (drop (length names) variables));
      result = result_of s.gives;
      body = body_with text p.body body;
    }

-- the first of these procedures has the scope with the number k
abbrev pub procedures_of : List ℕ → List Scope → ℕ → List Procedure → List Signature → List Stats → List TypedProcedure
procedures_of text scopes k [] ss bs = []
procedures_of text scopes k (p ∷ ps) [] bs = []
procedures_of text scopes k (p ∷ ps) (s ∷ ss) [] = []
procedures_of text scopes k (p ∷ ps) (s ∷ ss) (b ∷ bs) =
    procedure_of text p s (variables_of (slice_get scopes k)) b ∷ procedures_of text scopes (suc k) ps ss bs

-- Object types: their bodies and methods stand within them.

-- the object type that a definition defines
abbrev pub defined_object : Env → TypeDef → Option (TypeId × ObjectScope)
defined_object e d = option_and_then (λ t. option_map (λ o. (t, o)) (members.object e t)) (defined_type e d)

-- procedures with the slots of the methods that an object type declares, of which the first has the number k
abbrev pub slotted : Home → ObjectScope → ℕ → List TypedProcedure → List Method
slotted h o k [] = []
slotted h o k (q ∷ qs) = record { slot = slot_at h o k; procedure = q } ∷ slotted h o (suc k) qs

-- its methods, which have these statements; the scope of the first procedure of the module has this number
abbrev pub methods_of : Env → (first : ℕ) → ObjectScope → List Procedure → List Stats → List Method
methods_of e first o ps bs =
    slotted e.here o 0 (procedures_of e.here.text e.here.scopes (first + o.methods) ps (drop o.methods e.here.signatures) bs)

abbrev pub beside_in : Env → (first : ℕ) → TypeDef → Option (TypeId × ObjectScope) → Judged Beside
beside_in e first d None = kept (local_type e d)
beside_in e first d (Some x) =
    let f = members.within_object e x.0 in
    bind (body_of f true (object_body d.value)) (λ ss.
    bind (bodies_from f (first + x.1.methods) [] (methods_in d)) (λ bs.
    kept (record {
      name = spelling e.here.text d.def.name;
      at = d.def.name.pos;
      fields = field_spellings e.here.text d.value;
      has_body = is_some (object_body d.value);
      is_active = has_active e.here.text (object_body d.value);
      priority = priority_of f (object_body d.value);
      body = body_with e.here.text (object_body d.value) (listed ss);
      methods = methods_of e first x.1 (methods_in d) bs;
    })))

abbrev pub object_in : Env → (first : ℕ) → List Beside → TypeDef → Judged (List Beside)
object_in e first xs d = bind (beside_in e first d (defined_object e d)) (λ x. kept (xs ++ x ∷ []))

-- The types of a program have their numbers in load order. The body of an object type is that of a procedure with nothing of its own;
-- beside a procedure type stands what has its formals, and nothing else.

abbrev pub object_procedure : (type : ℕ) → Body → TypedProcedure
object_procedure k body =
    record { name = []; at = nowhere; of = Some k; is_initializer = false; parameters = []; locals = []; result = None; body = body }

abbrev pub formal_of : Bool × TypeId → Parameter
formal_of f = record { name = []; by_reference = f.0; of = type_as f.1 }

abbrev pub pattern : List (Bool × TypeId) → Option TypeId → TypedProcedure
pattern formals r =
    record {
      name = [];
      at = nowhere;
      of = None;
      is_initializer = false;
      parameters = map formal_of formals;
      locals = [];
      result = option_map type_as r;
      body = empty_body;
    }

abbrev pub body_beside : Option TypeRow → (type : ℕ) → Body → TypedProcedure
body_beside (Some (row.Procedure formals r)) k body = pattern formals r
body_beside r k body = object_procedure k body

-- its methods are called on its objects
abbrev pub method_beside : (type : ℕ) → Method → Method
method_beside k m = record m { procedure = record m.procedure { of = Some k } }

abbrev pub object_of : Env → (type : ℕ) → Beside → ObjectType
object_of e k x =
    record {
      name = x.name;
      at = x.at;
      fields = x.fields;
      home = e.number;
      has_body = x.has_body;
      is_active = x.is_active;
      priority = x.priority;
      body = body_beside (row_of e.types (id_of (Named k))) k x.body;
      methods = map (method_beside k) x.methods;
    }

-- the first of these types has the number k
abbrev pub objects_from : Env → ℕ → List Beside → List ObjectType
objects_from e k [] = []
objects_from e k (x ∷ xs) = object_of e k x ∷ objects_from e (suc k) xs

pub record Bodies : Type 0 where
  pub objects : List Beside
  pub procedures : List Stats
  pub own : List Stat

abbrev pub bodies : Env → Tree → Judged Bodies
bodies e m =
    bind (walk (object_in e (first_scope m)) [] (type_defs m.decls)) (λ os.
    bind (bodies_from e (first_scope m) [] (procedures m.decls)) (λ ps.
    bind (body_of e false m.body) (λ ss. kept (record { objects = os ++ other_types e m; procedures = ps; own = ss }))))

abbrev pub module_of : Env → Tree → Bodies → Module
module_of e m b =
    let text = e.here.text in
    record {
      name = spelling text m.name;
      variables = map (variable_of text) (zip (single_variables m.decls) (variables_of (slice_get e.here.scopes 0)));
      texts = texts_of e.here ++ filled_texts e;
      procedures = procedures_of text e.here.scopes (first_scope m) (procedures m.decls) e.here.signatures b.procedures;
      body = body_with text m.body (listed b.own);
    }

-- The programs of modules in load order, and what stands beside their types.
pub record Programs : Type 0 where
  pub modules : List Module
  pub objects : List ObjectType

abbrev pub programs : World → Programs
programs w = record { modules = w.modules; objects = w.objects }

-- a module more
abbrev pub with_module : Programs → Env → Tree → Bodies → Programs
with_module p e m b =
    record {
      modules = p.modules ++ module_of e m b ∷ [];
      objects = p.objects ++ objects_from e (length p.objects) b.objects;
    }

abbrev pub extended : World → Env → Tree → Bodies → World
extended w e m b =
    let p = with_module (programs w) e m b in
    record { before = w.before ++ e.here ∷ []; types = e.types; modules = p.modules; objects = p.objects }

-- behind the pass over headings, which found this: the module's program, unless that pass or the one over bodies refuses
abbrev pub behind_headings : ℕ → Option Breach → Programs → Env → Tree → Outcome Programs
behind_headings file found p e m =
    (then) (decided file found e) (λ e. (then) (passed file (bodies e m)) (λ b. went (with_module p e m b)))

-- behind the pass over names
abbrev pub behind_names : World → ℕ → List ℕ → Tree → Outcome World
behind_names w file text m =
    (then) (passed file (declare (length w.before) w.before w.types text m)) (λ e.
    (then) (passed file (bodies e m)) (λ b. went (extended w e m b)))

-- the module of a file, whose text this is
abbrev pub elaborated : World → ℕ → List ℕ → Tree → Outcome World
elaborated w file text m =
    (then) (passed file (judged (name_breaches text m) (tt {0}))) (λ names. behind_names w file text m)
