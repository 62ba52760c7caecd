-- What stands beside a procedure type: it has the formals of the type's row, which are types that there are.
use Rattle.std.proofs.Common.{◌≡◌, ℕ, ◌<◌, ◌≤◌, ◌⊎◌, inl, inr, List, [], ◌∷◌, length, map, Bool, true, Option, Some, None, option_map, refl, sym, ap, ap₂, ◌∙◌, subst}
use Rattle.std.proofs.lemmas.Bool.{cases_lt}
use Rattle.aos_types.specs.declared.row.TypeId.{TypeId}
use Rattle.aos_types.specs.declared.row.TypeRow.{TypeRow}
use Rattle.aos_types.specs.declared.row.TypeRow.TheVariants as row
use Rattle.aos_types.specs.Table.{row_of, is_scalar}
use Rattle.aos_typed.specs.declared.tree.TType.TheVariants.{Named}
use Rattle.aos_typed.specs.Numbers.{id_of}
use Rattle.aos_typed.specs.Program.{Body, Variable, Parameter, Program}
use Rattle.aos_typed.specs.WellTyped.{AreStatements, IsType, IsVariableType, IsResult, IsProcedure, IsPattern, IsBeside as IsBesideRow}
use Rattle.aos_symbols.proofs.Each.{Each, all_of}
use Rattle.aos_symbols.proofs.Told.{IsFormalType, IsResultType}
use Rattle.aos_known.specs.Known.{type_as}
use Rattle.aos_check_decl.proofs.Typing.{AreReady}
use Rattle.aos_compile.specs.Modules.{object_procedure, formal_of, pattern, body_beside}
use Rattle.aos_compile.proofs.TypingTypes.{IsFlat, basic_flat, number_is, told_number}

module _ (types : List TypeRow) (table : AreReady types) where
  formals_are : (fs : List (Bool × TypeId)) → Each (λ f. IsFormalType types f.1) fs → map (λ (a : Parameter). (a.by_reference, id_of a.of)) (map formal_of fs) ≡ fs
  formals_are [] each = refl
  formals_are (f ∷ fs) each = ap₂ (λ (t : TypeId) l. (f.0, t) ∷ l) (number_is f.1 each.0.1) (formals_are fs each.1)

  result_is : (r : Option TypeId) → IsResultType types r → option_map id_of (option_map type_as r) ≡ r
  result_is None told = refl
  result_is (Some t) told = ap (λ u. Some u) (number_is t (told_number types t told.0))

  pub is_pattern : (t : TypeId) (fs : List (Bool × TypeId)) (r : Option TypeId) → row_of types t ≡ Some (row.Procedure fs r) → IsPattern (pattern fs r) fs r
  is_pattern t fs r is =
      let told = table.parts t.0 (row.Procedure fs r) is in
      record { own = refl; parameters = formals_are fs told.0; result = result_is r told.1 }

  -- procedure types stand behind the predeclared ones
  pub procedure_high : (t : TypeId) (fs : List (Bool × TypeId)) (r : Option TypeId) → row_of types t ≡ Some (row.Procedure fs r) → 10 ≤ t.0
  procedure_high t fs r is = by (cases_lt t.0 10)
    where
      by : (t.0 < 10) ⊎ (10 ≤ t.0) → 10 ≤ t.0
      by (inl low) = absurd (subst IsFlat (sym (table.basic t.0 low) ∙ is) (basic_flat t.0))
      by (inr high) = high

module _ (p : Program) (table : AreReady p.types) where
  parameters : (fs : List (Bool × TypeId)) → Each (λ f. IsFormalType p.types f.1) fs → Each (λ (a : Parameter). IsType p a.of) (map formal_of fs)
  parameters [] each = tt
  parameters (f ∷ fs) each =
      (subst (λ (u : TypeId). u.0 < length p.types) (sym (number_is f.1 each.0.1)) each.0.0, parameters fs each.1)

  result : (r : Option TypeId) → IsResultType p.types r → IsResult p (option_map type_as r)
  result None told = tt
  result (Some t) told = subst (λ (u : TypeId). is_scalar (row_of p.types u) ≡ true) (sym (number_is t (told_number p.types t told.0))) told.1

  pattern_typed : (t : TypeId) (fs : List (Bool × TypeId)) (r : Option TypeId) → row_of p.types t ≡ Some (row.Procedure fs r) → IsProcedure p (pattern fs r)
  pattern_typed t fs r is =
      let told = table.parts t.0 (row.Procedure fs r) is in
      record {
        parameters = all_of (λ (a : Parameter). IsType p a.of) (map formal_of fs) (parameters fs told.0);
        locals = all_of (λ (v : Variable). IsVariableType p v.of) [] tt;
        result = result r told.1;
        body = tt;
      }

  object_typed : (k : ℕ) (body : Body) → AreStatements p (Some (object_procedure k body)) body.statements → IsProcedure p (object_procedure k body)
  object_typed k body typed = record {
    parameters = all_of (λ (a : Parameter). IsType p a.of) [] tt;
    locals = all_of (λ (v : Variable). IsVariableType p v.of) [] tt;
    result = tt;
    body = typed;
  }

  -- what stands beside the type with a number
  pub beside_typed : (k : ℕ) (body : Body) → AreStatements p (Some (object_procedure k body)) body.statements → IsProcedure p (body_beside (row_of p.types (id_of (Named k))) k body)
  beside_typed k body typed = by (row_of p.types (id_of (Named k))) refl
    where
      by : (r : Option TypeRow) → row_of p.types (id_of (Named k)) ≡ r → IsProcedure p (body_beside r k body)
      by (Some (row.Procedure fs r)) is = pattern_typed (id_of (Named k)) fs r is
      by r is = object_typed k body typed

  pub beside_is : (k : ℕ) (body : Body) →
      IsBesideRow k (body_beside (row_of p.types (id_of (Named k))) k body) (row_of p.types (id_of (Named k))) × ((body_beside (row_of p.types (id_of (Named k))) k body).locals ≡ [])
  beside_is k body = by (row_of p.types (id_of (Named k))) refl
    where
      by : (r : Option TypeRow) → row_of p.types (id_of (Named k)) ≡ r → IsBesideRow k (body_beside r k body) r × ((body_beside r k body).locals ≡ [])
      by (Some (row.Procedure fs r)) is = (is_pattern p.types table (id_of (Named k)) fs r is, refl)
      by r is = (record { own = refl; plain = refl; proper = refl }, refl)
