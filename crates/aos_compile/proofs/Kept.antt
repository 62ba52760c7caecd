-- Declarations leave the module's number, the modules before it and its text alone, in which the names of a module lie.
use Rattle.std.proofs.Common.{◌≡◌, ℕ, zero, suc, ◌+◌, List, [], ◌∷◌, Bool, true, false, ◌==◌, ◌&&◌, length, slice_get, Option, Some, None, if◌then◌else◌, codes, refl, ap, ◌∙◌}
use Rattle.std.specs.Option.{is_none}
use Rattle.aos_base.specs.declared.text.Pos.{Pos}
use Rattle.aos_tree.specs.declared.name.Name.{Name}
use Rattle.aos_tree.specs.declared.name.Qualident.{Qualident}
use Rattle.aos_tree.specs.declared.expr.Expr.{Expr}
use Rattle.aos_tree.specs.declared.decl.Decl.{Decl, Row_of-Decl, end_of-Decl, more_of-Decl, Row_of-VarDef, end_of-VarDef, more_of-VarDef, items-the_row-TypeDef, items-the_row-VarDef, items-the_row-Decl}
use Rattle.aos_tree.specs.declared.decl.Decl.TheVariants as decl
use Rattle.aos_tree.specs.declared.decl.Def.{Def}
use Rattle.aos_tree.specs.declared.decl.VarDef.{VarDef}
use Rattle.aos_tree.specs.declared.decl.TypeDef.{TypeDef}
use Rattle.aos_tree.specs.declared.decl.ConstDef.{ConstDef}
use Rattle.aos_tree.specs.declared.decl.Formals.{Formals}
use Rattle.aos_tree.specs.declared.decl.Section.{Section}
use Rattle.aos_tree.specs.declared.decl.Fields.{Fields}
use Rattle.aos_tree.specs.declared.decl.Fields.TheVariants as fields
use Rattle.aos_tree.specs.declared.decl.TypeExpr.{TypeExpr, Row_of-TypeExpr, end_of-TypeExpr, more_of-TypeExpr, Row_of-Fields, end_of-Fields, more_of-Fields, items-the_row-Fields}
use Rattle.aos_tree.specs.declared.decl.TypeExpr.TheVariants as type
use Rattle.aos_tree.specs.declared.module.Module.{Module}
use Rattle.aos_types.specs.declared.row.TypeId.{TypeId}
use Rattle.aos_types.specs.declared.row.TypeRow.{TypeRow}
use Rattle.aos_types.specs.declared.row.TypeRow.TheVariants as row
use Rattle.aos_types.specs.declared.signature.Parameter.{Parameter}
use Rattle.aos_symbols.specs.declared.home.ObjectScope.{ObjectScope}
use Rattle.aos_symbols.specs.declared.env.Env.{Env}
use Rattle.aos_symbols.specs.Env as env
use Rattle.aos_symbols.specs.Breaches.{breach}
use Rattle.aos_symbols.specs.Judged.{Judged, judged, kept as met_fine, walk}
use Rattle.aos_symbols.specs.Spelling.{is_word}
use Rattle.aos_symbols.specs.Declarations.{Procedure, procedures, inner_decls, methods_in, type_defs}
use Rattle.aos_symbols.specs.Scope.{Scope, empty, with_constant as with_value, with_variable as with_type, setting_variables}
use Rattle.aos_symbols.specs.Home.{Home, changed, set_variables}
use Rattle.aos_check_expr.specs.Expressions.{constant}
use Rattle.aos_check_decl.specs.Types.{Met, met, refused_type, FieldsMet, fields_met, placed, array_of, inner_arrays, arrays, lengths_of, open_of, array_in, is_empty, with_record, base_in, field_names, placed_record, are_parts_known, record_in, claiming, target_claims, pointer_to, is_no_target, type_place, pointer_behind, MembersMet, members_met, with_members, object_slot, object_in, named_type, type_in, members_in, member_in, variables_in, held_in, pointer_in, fields_in, field_in}
use Rattle.aos_made_types.specs.Formals.{opened, FormalsMet, formals_met, with_section, HeadingMet, formals_in, result_in, row_of_formals, placed_row, result_claims, with_formals, procedure_in}
use Rattle.aos_check_decl.specs.Headings.{with_variable, with_variables, constant_def, type_def, variable_def, settled, declared, inner_declared, types_within, inner_from, with_parameters, marked, with_signature, locals_in, procedure, procedures_from, within_type, type_methods, methods_from, headings, slot_in, defined_type}
use Rattle.aos_check_decl.specs.Pass.{begun, declare}

-- what declarations leave alone
abbrev pub fixed : Env → ℕ × List Home × List ℕ
fixed e = (e.number, e.before, e.here.text)

-- a walk keeps what each step keeps
walk_keeps : {A X B : Type 0} (f : A → B) (step : A → X → Judged A) → ((a : A) (x : X) → f (step a x).answer ≡ f a) → (a : A) (xs : List X) →
    f (walk step a xs).answer ≡ f a
walk_keeps f step each a [] = refl
walk_keeps f step each a (x ∷ xs) = walk_keeps f step each (step a x).answer xs ∙ each a x

-- Types.

placed_fixed : (slot : Option TypeId) (at : Pos) (r : TypeRow) (e : Env) → fixed (placed slot at r e).env ≡ fixed e
placed_fixed (Some t) at r e = refl
placed_fixed None at r e = refl

array_fixed : (slot : Option TypeId) (at : Pos) (n : ℕ) (e : Env) (of : Option TypeId) → fixed (array_of slot at n (met e of)).env ≡ fixed e
array_fixed slot at n e None = refl
array_fixed slot at n e (Some t) = placed_fixed slot at (row.Array n t) e

inner_fixed : (at : Pos) (ns : List ℕ) (m : Met) → fixed (inner_arrays at ns m).env ≡ fixed m.env
inner_fixed at [] m = refl
inner_fixed at (n ∷ ns) m = array_fixed None at n (inner_arrays at ns m).env (inner_arrays at ns m).of ∙ inner_fixed at ns m

arrays_fixed : (slot : Option TypeId) (at : Pos) (ns : Option (List ℕ)) (m : Met) → fixed (arrays slot at ns m).env ≡ fixed m.env
arrays_fixed slot at None m = refl
arrays_fixed slot at (Some []) m = refl
arrays_fixed slot at (Some (n ∷ ns)) m = array_fixed slot at n (inner_arrays at ns m).env (inner_arrays at ns m).of ∙ inner_fixed at ns m

open_fixed : (slot : Option TypeId) (at : Pos) (e : Env) (of : Option TypeId) → fixed (open_of slot at (met e of)).env ≡ fixed e
open_fixed slot at e None = refl
open_fixed slot at e (Some t) = placed_fixed slot at (row.Open t) e

array_in_fixed : (may_be_open : Bool) (slot : Option TypeId) (e : Env) (at : Pos) (xs : List Expr) (j : Judged Met) → fixed j.answer.env ≡ fixed e →
    fixed (array_in may_be_open slot e at xs j).answer.env ≡ fixed e
array_in_fixed false slot e at [] j kept = refl
array_in_fixed true slot e at [] j kept = open_fixed slot at j.answer.env j.answer.of ∙ kept
array_in_fixed may_be_open slot e at (x ∷ xs) j kept = arrays_fixed slot at (lengths_of e (x ∷ xs)).answer j.answer ∙ kept

record_fixed : (s : Scope) (e : Env) (of : Option TypeId) → fixed (with_record s (met e of)).env ≡ fixed e
record_fixed s e None = refl
record_fixed s e (Some t) = refl

record_in_fixed : (slot : Option TypeId) (e : Env) (at : Pos) (base : Option Qualident) (names : List Name) (j : Judged FieldsMet) → fixed j.answer.env ≡ fixed e →
    fixed (record_in slot e at base names j).answer.env ≡ fixed e
record_in_fixed slot e at base names j kept = by (are_parts_known base b (length f.types) (length f.scope.variables)) ∙ kept
  where
    b : Option TypeId
    b = (base_in e base).answer

    f : FieldsMet
    f = j.answer

    with_types : (ts : List TypeId) → fixed (placed_record slot at base names b ts f.scope f.env).env ≡ fixed f.env
    with_types ts =
        let r = row.Record b ts in
        let m = placed slot at r f.env in
        record_fixed f.scope m.env m.of ∙ placed_fixed slot at r f.env

    by : (known : Bool) → fixed (if known then placed_record slot at base names b f.types f.scope f.env else met (placed_record slot at base names b [] f.scope f.env).env None).env ≡ fixed f.env
    by true = with_types f.types
    by false = with_types []

pointer_fixed : (slot : Option TypeId) (at : Pos) (x : TypeExpr) (e : Env) (of : Option TypeId) → fixed (pointer_to slot at x (met e of)).env ≡ fixed e
pointer_fixed slot at x e None = refl
pointer_fixed slot at x e (Some t) = placed_fixed slot at (row.Pointer t) (claiming (target_claims x t) e)

behind_fixed : (slot : Option TypeId) (at : Pos) (x : TypeExpr) (m : Met) → fixed (pointer_behind slot at x m).answer.env ≡ fixed m.env
behind_fixed slot at x m = by (is_no_target x m.of)
  where
    by : (none : Bool) → fixed (if none then judged (breach 25 (type_place x)) (met m.env None) else met_fine (pointer_to slot at x m)).answer.env ≡ fixed m.env
    by true = refl
    by false = pointer_fixed slot at x m.env m.of

-- Formals, and procedure types.

opened_fixed : (ats : List Pos) (m : Met) → fixed (opened ats m).env ≡ fixed m.env
opened_fixed [] m = refl
opened_fixed (at ∷ ats) m = by (opened ats m).of refl ∙ opened_fixed ats m
  where
    by : (of : Option TypeId) → (opened ats m).of ≡ of → fixed (opened (at ∷ ats) m).env ≡ fixed (opened ats m).env
    by None is = rw is refl
    by (Some t) is = rw is refl

section_fixed : (f : FormalsMet) (s : Section) → fixed (with_section f s).answer.env ≡ fixed f.env
section_fixed f s = opened_fixed s.arrays (met f.env (named_type f.env s.of).answer)

formals_fixed : (e : Env) (fs : Option Formals) → fixed (formals_in e fs).answer.env ≡ fixed e
formals_fixed e None = refl
formals_fixed e (Some f) = walk_keeps (λ (m : FormalsMet). fixed m.env) with_section section_fixed (formals_met e []) f.sections

placed_row_fixed : (slot : Option TypeId) (at : Pos) (r : Option TypeRow) (e : Env) → fixed (placed_row slot at r e).env ≡ fixed e
placed_row_fixed slot at None e = refl
placed_row_fixed slot at (Some r) e = placed_fixed slot at r e

with_formals_fixed : (slot : Option TypeId) (e : Env) (at : Pos) (fs : Option Formals) → fixed (with_formals slot e at fs).answer.env ≡ fixed e
with_formals_fixed slot e at fs =
    let h = (formals_in e fs).answer in
    placed_row_fixed slot at (row_of_formals h.signature) (claiming (result_claims (result_in fs) h.signature.gives) h.env) ∙ formals_fixed e fs

procedure_fixed : (slot : Option TypeId) (e : Env) (at : Pos) (flag : Option Name) (fs : Option Formals) → fixed (procedure_in slot e at flag fs).answer.env ≡ fixed e
procedure_fixed slot e at None fs = with_formals_fixed slot e at fs
procedure_fixed slot e at (Some n) fs = by (is_word e.here.text (codes "DELEGATE") n)
  where
    by : (b : Bool) → fixed (if b then with_formals slot e at fs else refused_type 45 n.pos e).answer.env ≡ fixed e
    by true = with_formals_fixed slot e at fs
    by false = refl

-- Constants and variables.

text_kept : (f : Scope → Scope) (h : Home) (k : ℕ) (s : Option Scope) → (changed f h k s).text ≡ h.text
text_kept f h k None = refl
text_kept f h k (Some s) = refl

changed_fixed : (f : Scope → Scope) (e : Env) (k : ℕ) → fixed (record e { here = changed f e.here k (slice_get e.here.scopes k) }) ≡ fixed e
changed_fixed f e k = ap (λ t. (e.number, e.before, t)) (text_kept f e.here k (slice_get e.here.scopes k))

constant_fixed : (e : Env) (d : ConstDef) → fixed (constant_def e d).answer ≡ fixed e
constant_fixed e d = changed_fixed (λ s. with_value s (record { at = d.def.name.pos; value = (constant e d.value).answer })) e (env.innermost e.path)

variables_fixed : (e : Env) (n : ℕ) (of : Option TypeId) → fixed (with_variables e n of) ≡ fixed e
variables_fixed e zero of = refl
variables_fixed e (suc n) of = variables_fixed (with_variable e of) n of ∙ changed_fixed (λ s. with_type s of) e (env.innermost e.path)

-- Object types.

variables_put : (vs : List (Option TypeId)) (e : Env) (k : ℕ) → fixed (record e { here = set_variables e.here k vs }) ≡ fixed e
variables_put vs e k = changed_fixed (λ s. setting_variables s vs) e k

object_in_fixed : (slot : Option TypeId) (object : Option ObjectScope) (e : Env) (at : Pos) (base : Option Qualident) (ds : List Decl) (members : Env → Judged MembersMet) →
    ((f : Env) → fixed (members f).answer.env ≡ fixed f) → fixed (object_in slot object e at base ds members).answer.env ≡ fixed e
object_in_fixed slot object e at base ds members kept = by (env.innermost e.path == 0) refl slot object
  where
    by : (b : Bool) → (env.innermost e.path == 0) ≡ b → (slot : Option TypeId) (object : Option ObjectScope) → fixed (object_in slot object e at base ds members).answer.env ≡ fixed e
    by true is None object = rw is refl
    by true is (Some t) None = rw is refl
    by true is (Some t) (Some o) =
        let f = (members (env.within e o.scope)).answer in
        rw is (variables_put f.variables (env.back_at e.path f.env) o.scope ∙ kept (env.within e o.scope))
    by false is slot object = rw is refl

mutual
  type_fixed : (may_be_open : Bool) (slot : Option TypeId) (e : Env) (t : TypeExpr) → fixed (type_in may_be_open slot e t).answer.env ≡ fixed e
  type_fixed may_be_open slot e (type.Named q) = refl
  type_fixed may_be_open slot e (type.Array' p lengths shape row) =
      array_in_fixed may_be_open slot e p lengths (held_in (may_be_open && is_empty lengths) e row) (held_fixed (may_be_open && is_empty lengths) e row)
  type_fixed may_be_open slot e (type.Record' p base shape row) =
      record_in_fixed slot e p base (field_names (items-the_row-Fields _ row)) (fields_in (fields_met e [] empty) row) (fields_fixed (fields_met e [] empty) row)
  type_fixed may_be_open slot e (type.Pointer' p shape row) = pointed_fixed slot e p row
  type_fixed may_be_open slot e (type.Proc p flag formals) = procedure_fixed slot e p flag formals
  type_fixed may_be_open slot e (type.Object' p base shape row body end) =
      object_in_fixed slot (object_slot e slot) e p base (items-the_row-Decl _ row) (λ e. members_in (members_met e [] []) row) (λ f. members_fixed (members_met f [] []) row)

  members_fixed : {m : _} (f : MembersMet) (r : Row_of-Decl m) → fixed (members_in f r).answer.env ≡ fixed f.env
  members_fixed f end_of-Decl = refl
  members_fixed f (more_of-Decl d ds) = members_fixed (member_in f d).answer ds ∙ member_fixed f d

  member_fixed : (f : MembersMet) (d : Decl) → fixed (member_in f d).answer.env ≡ fixed f.env
  member_fixed f (decl.Consts p cs) = walk_keeps fixed constant_def constant_fixed f.env cs
  member_fixed f (decl.Types' p shape row) = refl
  member_fixed f (decl.Vars' p shape row) = own_fields_fixed f row
  member_fixed f (decl.Proc' o shape row) = refl

  own_fields_fixed : {m : _} (f : MembersMet) (r : Row_of-VarDef m) → fixed (variables_in f r).answer.env ≡ fixed f.env
  own_fields_fixed f end_of-VarDef = refl
  own_fields_fixed f (more_of-VarDef defs of ds) =
      let m = (type_in false None f.env of).answer in
      own_fields_fixed (with_members f (length defs) m) ds ∙ type_fixed false None f.env of

  held_fixed : {m : _} (may_be_open : Bool) (e : Env) (r : Row_of-TypeExpr m) → fixed (held_in may_be_open e r).answer.env ≡ fixed e
  held_fixed may_be_open e end_of-TypeExpr = refl
  held_fixed may_be_open e (more_of-TypeExpr t ts) = type_fixed may_be_open None e t

  pointed_fixed : {m : _} (slot : Option TypeId) (e : Env) (at : Pos) (r : Row_of-TypeExpr m) → fixed (pointer_in slot e at r).answer.env ≡ fixed e
  pointed_fixed slot e at end_of-TypeExpr = refl
  pointed_fixed slot e at (more_of-TypeExpr t ts) =
      behind_fixed slot at t (type_in true None e t).answer ∙ type_fixed true None e t

  fields_fixed : {m : _} (f : FieldsMet) (r : Row_of-Fields m) → fixed (fields_in f r).answer.env ≡ fixed f.env
  fields_fixed f end_of-Fields = refl
  fields_fixed f (more_of-Fields x xs) = fields_fixed (field_in f x).answer xs ∙ field_fixed f x

  field_fixed : (f : FieldsMet) (x : Fields) → fixed (field_in f x).answer.env ≡ fixed f.env
  field_fixed f fields.Empty = refl
  field_fixed f (fields.Of' defs of) = type_fixed false None f.env of

-- Declarations.

settled_fixed : (slot : Option TypeId) (e : Env) (of : Option TypeId) → fixed (settled slot (met e of)) ≡ fixed e
settled_fixed (Some t) e None = refl
settled_fixed (Some t) e (Some u) = refl
settled_fixed None e None = refl
settled_fixed None e (Some u) = refl

defined_fixed : (slot : Option TypeId) (e : Env) (t : TypeExpr) → fixed (settled slot (type_in false slot e t).answer) ≡ fixed e
defined_fixed slot e t = let m = (type_in false slot e t).answer in settled_fixed slot m.env m.of ∙ type_fixed false slot e t

type_def_fixed : (e : Env) (def : Def) (t : TypeExpr) → fixed (type_def e (record { def = def; value = t })).answer ≡ fixed e
type_def_fixed e def (type.Named q) = refl
type_def_fixed e def (type.Array' p lengths shape row) = defined_fixed (slot_in (env.lookup e def.name)) e (type.Array' p lengths shape row)
type_def_fixed e def (type.Record' p base shape row) = defined_fixed (slot_in (env.lookup e def.name)) e (type.Record' p base shape row)
type_def_fixed e def (type.Pointer' p shape row) = defined_fixed (slot_in (env.lookup e def.name)) e (type.Pointer' p shape row)
type_def_fixed e def (type.Proc p flag formals) = defined_fixed (slot_in (env.lookup e def.name)) e (type.Proc p flag formals)
type_def_fixed e def (type.Object' p base shape row body end) = defined_fixed (slot_in (env.lookup e def.name)) e (type.Object' p base shape row body end)

variable_fixed : (e : Env) (v : VarDef) → fixed (variable_def e v).answer ≡ fixed e
variable_fixed e v = let m = (type_in false None e v.of).answer in variables_fixed m.env (length v.defs) m.of ∙ type_fixed false None e v.of

declared_fixed : (e : Env) (d : Decl) → fixed (declared e d).answer ≡ fixed e
declared_fixed e (decl.Consts p cs) = walk_keeps fixed constant_def constant_fixed e cs
declared_fixed e (decl.Types' p shape row) = walk_keeps fixed type_def (λ e d. type_def_fixed e d.def d.value) e (items-the_row-TypeDef _ row)
declared_fixed e (decl.Vars' p shape row) = walk_keeps fixed variable_def variable_fixed e (items-the_row-VarDef _ row)
declared_fixed e (decl.Proc' o shape row) = refl

-- Headings.

parameters_fixed : (e : Env) (ps : List Parameter) → fixed (with_parameters e ps) ≡ fixed e
parameters_fixed e [] = refl
parameters_fixed e (p ∷ ps) = parameters_fixed (with_variable e p.of) ps ∙ changed_fixed (λ s. with_type s p.of) e (env.innermost e.path)

locals_fixed : (k : ℕ) (h : HeadingMet) (ds : List Decl) → fixed (locals_in k h ds).answer ≡ fixed h.env
locals_fixed k h ds =
    let inner = env.within (with_signature h.env h.signature) k in
    walk_keeps fixed declared declared_fixed (with_parameters inner h.signature.parameters) ds ∙ parameters_fixed inner h.signature.parameters

procedures_fixed : (may_stand : Bool) (e : Env) (k : ℕ) (ps : List Procedure) → fixed (procedures_from may_stand e k ps).answer ≡ fixed e
procedures_fixed may_stand e k [] = refl
procedures_fixed may_stand e k (p ∷ ps) =
    procedures_fixed (may_stand && is_none p.initializer) (procedure may_stand e k p.initializer p.formals p.decls).answer (suc k) ps
    ∙ locals_fixed k (marked p.initializer (formals_in e p.formals).answer) p.decls ∙ formals_fixed e p.formals

within_fixed : (e : Env) (of : Option TypeId) → fixed (within_type e of) ≡ fixed e
within_fixed e None = refl
within_fixed e (Some t) = refl

methods_fixed : (e : Env) (k : ℕ) (ds : List TypeDef) → fixed (methods_from e k ds).answer ≡ fixed e
methods_fixed e k [] = refl
methods_fixed e k (d ∷ ds) =
    methods_fixed (type_methods e k d).answer (k + length (methods_in d)) ds
    ∙ procedures_fixed true (within_type e (defined_type e d)) k (methods_in d) ∙ within_fixed e (defined_type e d)

-- the types that object types declare

inner_declared_fixed : (e : Env) (d : Decl) → fixed (inner_declared e d).answer ≡ fixed e
inner_declared_fixed e (decl.Consts p cs) = refl
inner_declared_fixed e (decl.Types' p shape row) = walk_keeps fixed type_def (λ e d. type_def_fixed e d.def d.value) e (items-the_row-TypeDef _ row)
inner_declared_fixed e (decl.Vars' p shape row) = refl
inner_declared_fixed e (decl.Proc' o shape row) = refl

types_fixed : (e : Env) (k : ℕ) (ds : List TypeDef) → fixed (inner_from e k ds).answer ≡ fixed e
types_fixed e k [] = refl
types_fixed e k (d ∷ ds) =
    let inner = inner_decls d.value in
    types_fixed (types_within e k inner).answer (suc k) ds ∙ walk_keeps fixed inner_declared inner_declared_fixed (env.within e k) inner

headings_fixed : (e : Env) (ds : List Decl) → fixed (headings e ds).answer ≡ fixed e
headings_fixed e ds =
    let first = suc (length (type_defs ds)) in
    let f = (walk declared e ds).answer in
    let g = (inner_from f 1 (type_defs ds)).answer in
    methods_fixed (procedures_from false g first (procedures ds)).answer (first + length (procedures ds)) (type_defs ds)
    ∙ procedures_fixed false g first (procedures ds) ∙ types_fixed f 1 (type_defs ds) ∙ walk_keeps fixed declared declared_fixed e ds

module _ (number : ℕ) (before : List Home) (types : List TypeRow) (text : List ℕ) (m : Module) where
  declare_fixed : fixed (declare number before types text m).answer ≡ (number, before, text)
  declare_fixed = headings_fixed (begun number before types text m).answer m.decls

  pub number_kept : (declare number before types text m).answer.number ≡ number
  number_kept = ap (λ (x : ℕ × List Home × List ℕ). x.0) declare_fixed

  pub before_kept : (declare number before types text m).answer.before ≡ before
  before_kept = ap (λ (x : ℕ × List Home × List ℕ). x.1) declare_fixed

  pub text_same : (declare number before types text m).answer.here.text ≡ text
  text_same = ap (λ (x : ℕ × List Home × List ℕ). x.2) declare_fixed
