-- What modules declare and what they carry out keeps the rules beside types, where they break no rule.
use Rattle.std.proofs.Common.{◌≡◌, ℕ, suc, ◌+◌, ◌≤◌, List, [], ◌∷◌, ◌++◌, map, drop, length, Bool, true, false, ◌&&◌, ◌||◌, cond, All, count_by, Option, Some, None, is_some, slice_get, refl, sym, ◌∙◌, subst, ap, append_assoc, append-nil, arith}
use Rattle.std.specs.Option.{is_none}
use Rattle.std.proofs.lemmas.List.Sums.{sum_by-cons}
use Rattle.aos_base.specs.declared.priority.Priority.TheVariants.{Normal}
use Rattle.aos_base.specs.declared.text.Pos.{Pos}
use Rattle.aos_tree.specs.declared.decl.TypeDef.{TypeDef}
use Rattle.aos_tree.specs.declared.module.Module.{Module as Tree}
use Rattle.aos_tree.specs.declared.stat.Block.{Block}
use Rattle.aos_types.specs.declared.row.TypeId.{TypeId}
use Rattle.aos_types.specs.declared.row.TypeRow.{TypeRow}
use Rattle.aos_types.specs.declared.row.TypeRow.TheVariants as row
use Rattle.aos_types.specs.declared.signature.Signature.{Signature}
use Rattle.aos_types.specs.Table.{row_of, is_open}
use Rattle.aos_typed.specs.Numbers.{id_of}
use Rattle.aos_typed.specs.declared.tree.TType.TheVariants.{Named}
use Rattle.aos_typed.specs.Program.{Stats, Body, Procedure as TypedProcedure, Method}
use Rattle.aos_typed.specs.Rules.{BodyKeepsRules, IsClosed, is_led_to, RowKeepsRules, RowsKeepRules, ModuleKeepsRules, ObjectKeepsRules}
use Rattle.aos_typed.specs.WellTyped.{is_whole}
use Rattle.aos_symbols.specs.declared.home.ObjectScope.{ObjectScope}
use Rattle.aos_symbols.specs.declared.env.Env.{Env}
use Rattle.aos_symbols.specs.Declarations.{Procedure, procedures, methods_in, type_defs, inner_parts, types_of}
use Rattle.aos_symbols.specs.Home.{Home, slot_at}
use Rattle.aos_symbols.specs.Judged.{walk}
use Rattle.aos_symbols.specs.Scope.{Scope}
use Rattle.aos_members.specs.Members as members
use Rattle.aos_symbols.specs.Env as env
use Rattle.aos_symbols.proofs.Each.{Each, all_of, joined, implied}
use Rattle.aos_symbols.proofs.Holds.{Holds, holds_bind, none_left, none_right}
use Rattle.aos_symbols.proofs.Told.{IsTold, AreToldParts}
use Rattle.aos_check_decl.proofs.Initials.{AreOnce, AreAllOnce, HasInitials}
use Rattle.aos_check_decl.proofs.Typing.{AreReady}
use Rattle.aos_made_types.proofs.TypingClaims.{told_closed}
use Rattle.aos_check_stat.specs.Bodies.{listed, body_of, priority_of}
use Rattle.aos_check_stat.proofs.Keeping.{body_keeps, normal_without}
use Rattle.aos_variables.specs.Parts.{variables_of, first_scope}
use Rattle.aos_compile.specs.Modules.{World, no_modules, has_active, body_with, Beside, local_type, unnamed_type, other_types, bodies_from, procedure_of, procedures_of, slotted, object_body, beside_in, object_in, defined_object, body_beside, method_beside, object_of, objects_from, Bodies, bodies, module_of, extended}

-- Types.

led_to : (r : Option TypeRow) → (is_whole r || is_open r) ≡ true → is_led_to r ≡ true
led_to (Some (row.Array n t)) is = refl
led_to (Some (row.Open t)) is = refl
led_to (Some (row.Record base ts)) is = refl
led_to (Some (row.Basic b)) is = absurd (cc)
led_to (Some (row.Pointer t)) is = absurd (cc)
led_to (Some (row.Object base ts)) is = absurd (cc)
led_to (Some (row.Procedure fs r)) is = absurd (cc)
led_to (Some row.Any) is = absurd (cc)
led_to None is = absurd (cc)

module _ (types : List TypeRow) (ready : AreReady types) where
  closed_all : (ts : List TypeId) → Each (IsTold types) ts → All (IsClosed types) ts
  closed_all ts told = all_of (IsClosed types) ts (implied (IsTold types) (IsClosed types) (told_closed types ready.basic) ts told)

  row_keeps : (r : TypeRow) → AreToldParts types r → RowKeepsRules types r
  row_keeps (row.Array n t) told = (told.0.0, told.0.1, told_closed types ready.basic t told.1)
  row_keeps (row.Record base ts) told = closed_all ts told.1
  row_keeps (row.Object base ts) told = closed_all ts told.1
  row_keeps (row.Pointer t) told = led_to (row_of types t) told.1
  row_keeps (row.Open t) told = tt
  row_keeps (row.Basic b) told = tt
  row_keeps (row.Procedure fs r) told = tt
  row_keeps row.Any told = tt

  pub rows_keep : RowsKeepRules types
  rows_keep k r is = row_keeps r (ready.parts k r is)

-- Bodies.

body_kept : (e : Env) (may_be_active : Bool) (b : Option Block) → Holds (λ ss. BodyKeepsRules (body_with e.here.text b (listed ss))) (body_of e may_be_active b)
body_kept e may_be_active None = λ none. tt
body_kept e may_be_active (Some b) = body_keeps e may_be_active b

-- procedures have bodies that keep them, as far as there are bodies
abbrev BodiesKeep : List ℕ → List Procedure → List Stats → Type 0
BodiesKeep text [] bs = Unit {0}
BodiesKeep text (p ∷ ps) [] = Unit {0}
BodiesKeep text (p ∷ ps) (b ∷ bs) = BodyKeepsRules (body_with text p.body b) × BodiesKeep text ps bs

abbrev AreMore : List ℕ → List Procedure → (done bs : List Stats) → Type 0
AreMore text ps done bs = (rest : List Stats) × (bs ≡ done ++ rest) × BodiesKeep text ps rest

bodies_more : (e : Env) (k : ℕ) (ps : List Procedure) (done : List Stats) → Holds (AreMore e.here.text ps done) (bodies_from e k done ps)
bodies_more e k [] done = λ none. ([], sym (append-nil done), tt)
bodies_more e k (p ∷ ps) done =
    holds_bind (λ ss. BodyKeepsRules (body_with e.here.text p.body (listed ss))) (AreMore e.here.text (p ∷ ps) done) (body_of (env.within e k) false p.body)
    (λ ss. bodies_from e (suc k) (done ++ listed ss ∷ []) ps) (body_kept (env.within e k) false p.body)
    (λ ss is none. let more = bodies_more e (suc k) ps (done ++ listed ss ∷ []) none in
    (listed ss ∷ more.0, more.1 ∙ append_assoc done (listed ss ∷ []) more.0, (is, more.2)))

bodies_all : (e : Env) (k : ℕ) (ps : List Procedure) → Holds (BodiesKeep e.here.text ps) (bodies_from e k [] ps)
bodies_all e k ps none = let more = bodies_more e k ps [] none in subst (BodiesKeep e.here.text ps) (sym more.1) more.2

-- Procedures.

abbrev OwnKeeps : TypedProcedure → Type 0
OwnKeeps q = BodyKeepsRules q.body

-- 1 for an initializer
abbrev initial : TypedProcedure → ℕ
initial q = cond q.is_initializer 1 0

none_initial : (may : Bool) → 0 ≤ cond may 1 0
none_initial true = let le : 0 ≤ 1 = omega arith in le
none_initial false = let le : 0 ≤ 0 = omega arith in le

none_more : (n m : ℕ) → n ≤ m → 0 + n ≤ m
none_more n m le = omega (arith, le)

one_more : (n : ℕ) → n ≤ 0 → 1 + n ≤ 1
one_more n le = omega (arith, le)

next_initial : (may : Bool) (o : Option Pos) (n : ℕ) → (is_some o ≡ true → may ≡ true) → n ≤ cond (may && is_none o) 1 0 → cond (is_some o) 1 0 + n ≤ cond may 1 0
next_initial true None n stands le = none_more n 1 le
next_initial false None n stands le = none_more n 0 le
next_initial true (Some at) n stands le = one_more n le
next_initial false (Some at) n stands le = let no : false ≡ true = stands refl in absurd (cc)

not_initial : (o : Option Pos) → (is_some o ≡ true → false ≡ true) → is_some o ≡ false
not_initial None stands = refl
not_initial (Some at) stands = let no : false ≡ true = stands refl in absurd (cc)

module _ (text : List ℕ) (scopes : List Scope) where
  own_keep : (k : ℕ) (ps : List Procedure) (ss : List Signature) (bs : List Stats) → BodiesKeep text ps bs → Each OwnKeeps (procedures_of text scopes k ps ss bs)
  own_keep k [] ss bs keep = tt
  own_keep k (p ∷ ps) [] bs keep = tt
  own_keep k (p ∷ ps) (s ∷ ss) [] keep = tt
  own_keep k (p ∷ ps) (s ∷ ss) (b ∷ bs) keep = (keep.0, own_keep (suc k) ps ss bs keep.1)

  few_initials : (may : Bool) (k : ℕ) (ps : List Procedure) (ss : List Signature) (bs : List Stats) → AreOnce may ps →
      count_by (λ (q : TypedProcedure). q.is_initializer) (procedures_of text scopes k ps ss bs) ≤ cond may 1 0
  few_initials may k [] ss bs once = none_initial may
  few_initials may k (p ∷ ps) [] bs once = none_initial may
  few_initials may k (p ∷ ps) (s ∷ ss) [] once = none_initial may
  few_initials may k (p ∷ ps) (s ∷ ss) (b ∷ bs) once =
      let q = procedure_of text p s (variables_of (slice_get scopes k)) b in
      let more = procedures_of text scopes (suc k) ps ss bs in
      subst (λ n. n ≤ cond may 1 0) (sym (sum_by-cons initial q more))
      (next_initial may p.initializer (count_by (λ (q : TypedProcedure). q.is_initializer) more) once.0 (few_initials (may && is_none p.initializer) (suc k) ps ss bs once.1))

  no_initials : (k : ℕ) (ps : List Procedure) (ss : List Signature) (bs : List Stats) → AreOnce false ps → Each (λ (q : TypedProcedure). q.is_initializer ≡ false) (procedures_of text scopes k ps ss bs)
  no_initials k [] ss bs once = tt
  no_initials k (p ∷ ps) [] bs once = tt
  no_initials k (p ∷ ps) (s ∷ ss) [] once = tt
  no_initials k (p ∷ ps) (s ∷ ss) (b ∷ bs) once = (not_initial p.initializer once.0, no_initials (suc k) ps ss bs once.1)

-- Methods, each in its slot.

abbrev MethodKeeps : Method → Type 0
MethodKeeps m = BodyKeepsRules m.procedure.body

abbrev initial_method : Method → ℕ
initial_method m = initial m.procedure

abbrev initials : List Method → ℕ
initials ms = count_by (λ (m : Method). m.procedure.is_initializer) ms

module _ (h : Home) (o : ObjectScope) where
  slotted_keep : (k : ℕ) (qs : List TypedProcedure) → Each OwnKeeps qs → Each MethodKeeps (slotted h o k qs)
  slotted_keep k [] keep = tt
  slotted_keep k (q ∷ qs) keep = (keep.0, slotted_keep (suc k) qs keep.1)

  slotted_initials : (k : ℕ) (qs : List TypedProcedure) → initials (slotted h o k qs) ≡ count_by (λ (q : TypedProcedure). q.is_initializer) qs
  slotted_initials k [] = refl
  slotted_initials k (q ∷ qs) =
      sum_by-cons initial_method (record { slot = slot_at h o k; procedure = q }) (slotted h o (suc k) qs) ∙ ap (λ n. initial q + n) (slotted_initials (suc k) qs)
      ∙ sym (sum_by-cons initial q qs)

-- What stands beside types.

pub record BesideKeeps (x : Beside) : Type 0 where
  pub body : BodyKeepsRules x.body
  pub methods : Each MethodKeeps x.methods
  pub initializers : initials x.methods ≤ 1
  pub active : x.is_active ≡ true → x.has_body ≡ true
  pub priority : x.is_active ≡ false → x.priority ≡ Normal

local_keeps : (e : Env) (d : TypeDef) → BesideKeeps (local_type e d)
local_keeps e d = record { body = tt; methods = tt; initializers = none_initial true; active = λ is. is; priority = λ is. refl }

locals_keep : (e : Env) (ds : List TypeDef) → Each BesideKeeps (map (local_type e) ds)
locals_keep e [] = tt
locals_keep e (d ∷ ds) = (local_keeps e d, locals_keep e ds)

unnamed_keep : (ps : List Pos) → Each BesideKeeps (map unnamed_type ps)
unnamed_keep [] = tt
unnamed_keep (p ∷ ps) = (record { body = tt; methods = tt; initializers = none_initial true; active = λ is. is; priority = λ is. refl }, unnamed_keep ps)

others_keep : (e : Env) (m : Tree) → Each BesideKeeps (other_types e m)
others_keep e m =
    joined BesideKeeps (map (local_type e) (types_of (inner_parts m.decls))) (map unnamed_type e.places) (locals_keep e (types_of (inner_parts m.decls))) (unnamed_keep e.places)

-- what is active is a body
active_body : (text : List ℕ) (b : Option Block) → has_active text b ≡ true → is_some b ≡ true
active_body text None is = is
active_body text (Some b) is = refl

normal_body : (e : Env) (may_be_active : Bool) (b : Option Block) → (body_of e may_be_active b).breaches ≡ [] → has_active e.here.text b ≡ false → priority_of e b ≡ Normal
normal_body e may_be_active None none inactive = refl
normal_body e may_be_active (Some b) none inactive = normal_without e may_be_active b none inactive

module _ (e : Env) (first : ℕ) where
  beside_kept : (d : TypeDef) → AreOnce true (methods_in d) → (o : Option (TypeId × ObjectScope)) → Holds BesideKeeps (beside_in e first d o)
  beside_kept d once None none = local_keeps e d
  beside_kept d once (Some x) none =
      let f = members.within_object e x.0 in
      let k = first + x.1.methods in
      let own = body_of f true (object_body d.value) in
      let all = bodies_from f k [] (methods_in d) in
      let signatures = drop x.1.methods e.here.signatures in
      let qs = procedures_of e.here.text e.here.scopes k (methods_in d) signatures all.answer in
      let behind = none_right own.breaches (all.breaches ++ []) none in
      record {
        body = body_kept f true (object_body d.value) (none_left own.breaches (all.breaches ++ []) none);
        methods =
            slotted_keep e.here x.1 0 qs
            (own_keep e.here.text e.here.scopes k (methods_in d) signatures all.answer (bodies_all f k (methods_in d) (none_left all.breaches [] behind)));
        initializers =
            subst (λ n. n ≤ 1) (sym (slotted_initials e.here x.1 0 qs)) (few_initials e.here.text e.here.scopes true k (methods_in d) signatures all.answer once);
        active = active_body e.here.text (object_body d.value);
        priority = normal_body f true (object_body d.value) (none_left own.breaches (all.breaches ++ []) none);
      }

  own_besides : (ds : List TypeDef) → AreAllOnce ds → (xs : List Beside) → Each BesideKeeps xs → Holds (Each BesideKeeps) (walk (object_in e first) xs ds)
  own_besides [] once xs keep none = keep
  own_besides (d ∷ ds) once xs keep none =
      let one = beside_in e first d (defined_object e d) in
      let more = walk (object_in e first) (xs ++ one.answer ∷ []) ds in
      let here = none_left one.breaches [] (none_left (one.breaches ++ []) more.breaches none) in
      own_besides ds once.1 (xs ++ one.answer ∷ []) (joined BesideKeeps xs (one.answer ∷ []) keep (beside_kept d once.0 (defined_object e d) here, tt))
      (none_right (one.breaches ++ []) more.breaches none)

-- All bodies of a module.

pub record BodiesKept (e : Env) (m : Tree) (b : Bodies) : Type 0 where
  pub objects : Each BesideKeeps b.objects
  pub procedures : BodiesKeep e.here.text (procedures m.decls) b.procedures
  pub own : BodyKeepsRules (body_with e.here.text m.body (listed b.own))

bodies_kept : (e : Env) (m : Tree) → HasInitials m → Holds (BodiesKept e m) (bodies e m)
bodies_kept e m has none =
    let first = first_scope m in
    let os = walk (object_in e first) [] (type_defs m.decls) in
    let ps = bodies_from e first [] (procedures m.decls) in
    let ss = body_of e false m.body in
    let behind = none_right os.breaches (ps.breaches ++ (ss.breaches ++ [])) none in
    record {
      objects =
          joined BesideKeeps os.answer (other_types e m)
          (own_besides e first (type_defs m.decls) has.one [] tt (none_left os.breaches (ps.breaches ++ (ss.breaches ++ [])) none)) (others_keep e m);
      procedures = bodies_all e first (procedures m.decls) (none_left ps.breaches (ss.breaches ++ []) behind);
      own = body_kept e false m.body (none_left ss.breaches [] (none_right ps.breaches (ss.breaches ++ []) behind));
    }

-- In the typed program.

beside_body : (r : Option TypeRow) (k : ℕ) (b : Body) → BodyKeepsRules b → OwnKeeps (body_beside r k b)
beside_body (Some (row.Procedure fs r)) k b keep = tt
beside_body r k b keep = keep

methods_keep : (k : ℕ) (ms : List Method) → Each MethodKeeps ms → Each MethodKeeps (map (method_beside k) ms)
methods_keep k [] keep = tt
methods_keep k (m ∷ ms) keep = (keep.0, methods_keep k ms keep.1)

beside_initials : (k : ℕ) (ms : List Method) → initials (map (method_beside k) ms) ≡ initials ms
beside_initials k [] = refl
beside_initials k (m ∷ ms) =
    sum_by-cons initial_method (method_beside k m) (map (method_beside k) ms) ∙ ap (λ n. initial_method m + n) (beside_initials k ms) ∙ sym (sum_by-cons initial_method m ms)

object_kept : (e : Env) (k : ℕ) (x : Beside) → BesideKeeps x → ObjectKeepsRules (object_of e k x)
object_kept e k x keep = record {
  body = beside_body (row_of e.types (id_of (Named k))) k x.body keep.body;
  methods = all_of MethodKeeps (map (method_beside k) x.methods) (methods_keep k x.methods keep.methods);
  initializers = subst (λ n. n ≤ 1) (sym (beside_initials k x.methods)) keep.initializers;
  active = keep.active;
  priority = keep.priority;
}

objects_kept : (e : Env) (k : ℕ) (xs : List Beside) → Each BesideKeeps xs → Each ObjectKeepsRules (objects_from e k xs)
objects_kept e k [] keep = tt
objects_kept e k (x ∷ xs) keep = (object_kept e k x keep.0, objects_kept e (suc k) xs keep.1)

module_kept : (e : Env) (m : Tree) (b : Bodies) → HasInitials m → BodiesKept e m b → ModuleKeepsRules (module_of e m b)
module_kept e m b has keep =
    let text = e.here.text in
    let scopes = e.here.scopes in
    let first = first_scope m in
    let qs = procedures_of text scopes first (procedures m.decls) e.here.signatures b.procedures in
    record {
      body = keep.own;
      procedures = all_of OwnKeeps qs (own_keep text scopes first (procedures m.decls) e.here.signatures b.procedures keep.procedures);
      initializers =
          all_of (λ (q : TypedProcedure). q.is_initializer ≡ false) qs (no_initials text scopes first (procedures m.decls) e.here.signatures b.procedures has.none);
    }

pub record WorldKeeps (w : World) : Type 0 where
  pub modules : Each ModuleKeepsRules w.modules
  pub objects : Each ObjectKeepsRules w.objects

pub none_keep : WorldKeeps no_modules
none_keep = record { modules = tt; objects = tt }

-- one module more
pub one_keeps : (w : World) → WorldKeeps w → (e : Env) (m : Tree) → HasInitials m → (bodies e m).breaches ≡ [] → WorldKeeps (extended w e m (bodies e m).answer)
one_keeps w keep e m has none =
    let b = (bodies e m).answer in
    let fine = bodies_kept e m has none in
    record {
      modules = joined ModuleKeepsRules w.modules (module_of e m b ∷ []) keep.modules (module_kept e m b has fine, tt);
      objects =
          joined ObjectKeepsRules w.objects (objects_from e (length w.objects) b.objects) keep.objects (objects_kept e (length w.objects) b.objects fine.objects);
    }
