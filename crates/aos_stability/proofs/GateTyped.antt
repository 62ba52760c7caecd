-- The program of the gate is well typed.
use Rattle.std.proofs.Common.{◌≡◌, ◌<◌, ◌≤◌, inl, inr, ℕ, zero, suc, List, [], ◌∷◌, ◌++◌, length, Option, Some, None, refl, sym, ◌∙◌, subst, arith}
use Rattle.std.specs.Prelude.{slice_get, All, Bool, true, false}
use Rattle.std.specs.List.{AllByRecursion}
use Rattle.std.proofs.lemmas.List.Elements.{All-nil, All-cons}
use Rattle.std.proofs.lemmas.Option.{slice_get-get_or}
use Rattle.aos_base.specs.declared.limits.TheConstants.{MOST_SCALARS}
use Rattle.aos_base.specs.declared.text.Pos.{Pos}
use Rattle.aos_types.specs.declared.row.Basic.{Basic}
use Rattle.aos_types.specs.declared.row.TypeId.{TypeId}
use Rattle.aos_types.specs.declared.row.TypeRow.{TypeRow}
use Rattle.aos_types.specs.declared.row.TypeRow.TheVariants as row
use Rattle.aos_types.specs.Chain.{IsChain, IsOneOf, IsPartOf, parts_of}
use Rattle.aos_types.specs.Contents.{scalars, unfolded, with_parts}
use Rattle.aos_types.specs.Shape.{size}
use Rattle.aos_types.specs.Table.{base_of, row_of}
use Rattle.aos_typed.specs.Numbers.{id_of, predeclared_rows}
use Rattle.aos_typed.specs.declared.tree.TType.TheVariants.{Boolean}
use Rattle.aos_typed.specs.Program.{Body, Procedure}
use Rattle.aos_typed.specs.Rules.{BodyKeepsRules, IsClosed, RowKeepsRules, RowsKeepRules, ModuleKeepsRules, ObjectKeepsRules}
use Rattle.aos_typed.specs.WellTyped.{AreStatements, AreTypes, HasTypedParts, IsMethod, IsObjectType, IsPlaceOf, IsProcedure, IsType, IsVariableType, IsWellTyped, ProgramKeepsRules, is_ident, module_scalars}
use Rattle.aos_sim.proofs.Lists.{get_left}
use Rattle.aos_stability.specs.Example.{at, gates, gate_row, gate_variable, init, init_method, opens, opens_method, procedure_with, set_up, text_of, beside_gate, gates_module, up, waits}

-- The table of types.

abbrev rows : List TypeRow
rows = gates.types

abbrev boolean : TypeId
boolean = id_of Boolean

-- what holds of each row, and of none
walk : (P : Option TypeRow → Type 0) → P None → (rs : List TypeRow) → AllByRecursion (λ r. P (Some r)) rs → (k : ℕ) → P (slice_get rs k)
walk P none [] ps k = none
walk P none (r ∷ rs) ps zero = ps.0
walk P none (r ∷ rs) ps (suc k) = walk P none rs ps.1 k

each_row : (P : Option TypeRow → Type 0) → ((b : Basic) → P (Some (row.Basic b))) → P (Some row.Any) → P (Some gate_row) → P None → (k : ℕ) → P (slice_get rows k)
each_row P basic any gate none k =
    walk P none rows
    (basic _, (basic _, (basic _, (basic _, (basic _, (basic _, (basic _, (basic _, (any, (basic _, (gate, tt))))))))))) k

no_base : (t b : TypeId) → base_of (row_of rows t) ≡ Some b → ⊥
no_base t b e =
    let none : base_of (row_of rows t) ≡ None = each_row (λ r. base_of r ≡ None) (λ b. refl) refl refl refl t.0 in
    let no : None ≡ Some b = sym none ∙ e in
    absurd (cc)

-- the only part is a truth value, which has none
part_is : (t p : TypeId) → IsPartOf rows p t → boolean ≡ p
part_is t p h =
    each_row (λ r. IsOneOf p (parts_of rows r) → boolean ≡ p) (λ b h. absurd h) (λ h. absurd h)
    (λ h. elim h [
      | inl e ↦ e
      | inr z ↦ absurd z
    ]) (λ h. absurd h) t.0 h

none_in_boolean : (t : TypeId) (ps : List TypeId) → IsChain rows boolean (ps ++ t ∷ []) → ⊥
none_in_boolean t [] c = c.0
none_in_boolean t (p ∷ ps) c = c.0

none_in_itself : (t : TypeId) (ps : List TypeId) → IsChain rows t (ps ++ t ∷ []) → ⊥
none_in_itself t [] c = subst (λ x. IsPartOf rows x x) (sym (part_is t t c.0)) c.0
none_in_itself t (p ∷ ps) c =
    none_in_boolean t ps (subst (λ x. IsChain rows x (ps ++ t ∷ [])) (sym (part_is t p c.0)) c.1)

few_scalars : (t : TypeId) → scalars rows t ≤ MOST_SCALARS
few_scalars t =
    let one : 1 ≤ MOST_SCALARS = omega arith in
    let none : 0 ≤ MOST_SCALARS = omega arith in
    each_row (λ r. size (with_parts (unfolded (length rows) rows) rows t r) ≤ MOST_SCALARS) (λ b. one) one one none t.0

types : AreTypes rows
types = record {
  none_contains_itself = λ t c. none_in_itself t c.between c.chain;
  bases = λ t b e. absurd (no_base t b e);
  record_bases = λ t b e. absurd (no_base t b e);
  sizes = few_scalars;
}

-- What stands in the text.

one : {X : Type 0} (P : X → Type 0) (x : X) → P x → All P (x ∷ [])
one P x h = All-cons P x [] h (All-nil P)

-- a procedure of the gate
module _ (name : List ℕ) (place : Pos) (initial : Bool) (body : Body) where
  abbrev own : Procedure
  own = procedure_with name place initial body

  up_typed : IsPlaceOf gates (Some own) up Boolean
  up_typed = (inr ((0, refl, refl, inl refl), refl, refl), refl)

  procedure_typed : AreStatements gates (Some own) body.statements → IsProcedure gates own
  procedure_typed h = record {
    parameters = All-nil (λ a. IsType gates a.of);
    locals = All-nil (λ v. IsVariableType gates v.of);
    result = tt;
    body = h;
  }

-- one that sets the field
module _ (name : List ℕ) (place : Pos) (initial is_exclusive : Bool) (p : Pos) (b : Bool) where
  setting_typed : IsMethod gates 0 (procedure_with name place initial (text_of is_exclusive (set_up p b)))
  setting_typed =
      let body = text_of is_exclusive (set_up p b) in
      (procedure_typed name place initial body ((up_typed name place initial body, refl, inl tt), tt), refl, λ _. refl)

gate_typed : IsObjectType gates 0 beside_gate
gate_typed = record {
  body = procedure_typed waits.name waits.at false waits.body (((up_typed waits.name waits.at false waits.body, refl, inl refl), tt), tt);
  beside = record { own = refl; plain = refl; proper = refl };
  bare = refl;
  methods =
      All-cons (λ m. IsMethod gates 0 m.procedure) init_method (opens_method ∷ []) (setting_typed init.name init.at true false (at 6 11) false)
      (one (λ m. IsMethod gates 0 m.procedure) opens_method (setting_typed opens.name opens.at false true (at 8 23) true));
  slots = (inl refl, (inl refl, tt));
  others = inl refl;
}

module_typed : AreStatements gates None gates_module.body.statements
module_typed =
    ((refl, refl, (init, refl, refl, refl)), ((opens, ((refl, refl, inl refl), refl, refl), refl, refl), tt))

parts : HasTypedParts gates
parts =
    let one_below : 1 ≤ 64 = omega arith in
    let first : 0 < 1 = omega arith in
    let there : 10 < 11 = omega arith in
    let few : 1 ≤ MOST_SCALARS = omega arith in
    let least : 1 ≤ 1 = omega arith in
    record {
      some = least;
      few = one_below;
      names = one (λ m. is_ident m.name ≡ true) gates_module refl;
      differ = λ i j d lt below same. absurd (let k : j < 1 = below in omega (arith, lt, k));
      bodies = one (λ m. AreStatements gates None m.body.statements) gates_module module_typed;
      objects = (gate_typed, tt);
      homes = one (λ o. o.home < length gates.modules) beside_gate first;
      types = types;
      texts = one (λ m. All (λ t. All (λ c. c < 256) t) m.texts) gates_module (All-nil (λ t. All (λ c. c < 256) t));
      predeclared =
          λ k lt.
          let h = slice_get-get_or predeclared_rows k gate_row lt in
          get_left predeclared_rows (gate_row ∷ []) k _ h ∙ sym h;
      beside = refl;
      variables =
          one (λ m. All (λ v. IsVariableType gates v.of) m.variables) gates_module
          (one (λ v. IsVariableType gates v.of) gate_variable (record { there = there; closed = refl }));
      few_scalars = one (λ m. module_scalars gates m ≤ MOST_SCALARS) gates_module few;
      procedures =
          one (λ m. All (λ q. IsProcedure gates q × (q.of ≡ None)) m.procedures) gates_module
          (All-nil (λ q. IsProcedure gates q × (q.of ≡ None)));
    }

-- The rules beside types.

gate_keeps : ObjectKeepsRules beside_gate
gate_keeps =
    let least : 1 ≤ 1 = omega arith in
    record {
      body = (refl, tt);
      methods =
          All-cons (λ m. BodyKeepsRules m.procedure.body) init_method (opens_method ∷ []) (tt, tt) (one (λ m. BodyKeepsRules m.procedure.body) opens_method (tt, tt));
      initializers = least;
      active = λ _. refl;
      priority = λ _. refl;
    }

module_keeps : ModuleKeepsRules gates_module
module_keeps = record {
  body = (tt, (tt, tt));
  procedures = All-nil (λ q. BodyKeepsRules q.body);
  initializers = All-nil (λ q. q.is_initializer ≡ false);
}

-- a row, if there is one
abbrev OnRow : Option TypeRow → Type 0
OnRow None = Unit {0}
OnRow (Some r) = RowKeepsRules rows r

rows_keep : RowsKeepRules rows
rows_keep k r is = subst OnRow is (each_row OnRow (λ b. tt) tt (one (IsClosed rows) boolean refl) tt k)

rules_kept : ProgramKeepsRules gates
rules_kept =
    let few : 1 ≤ MOST_SCALARS = omega arith in
    record {
      modules = one ModuleKeepsRules gates_module module_keeps;
      objects = one ObjectKeepsRules beside_gate gate_keeps;
      rows = rows_keep;
      scalars = few;
    }

pub typed : IsWellTyped gates
typed = record { parts = parts; conditions = ((tt, (tt, tt)), ((refl, tt), ((tt, tt), ((tt, tt), tt)))); rules = rules_kept }
