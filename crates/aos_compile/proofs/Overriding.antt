-- A method whose signature may stand in the place of another one's overrides that one.
use Rattle.std.proofs.Common.{◌≡◌, ℕ, zero, suc, ◌<◌, ◌==◌, nat_lt, Bool, true, false, Option, Some, slice_get, if◌then◌else◌, refl, sym, ap, ◌∙◌, eqb-true, ltb-true, ltb-false, arith}
use Rattle.std.proofs.lemmas.Option.{same_Some}
use Rattle.std.proofs.lemmas.Bool.{and_parts}
use Rattle.aos_types.specs.declared.row.Basic.TheVariants as basic
use Rattle.aos_types.specs.declared.row.TypeId.{TypeId}
use Rattle.aos_types.specs.declared.row.TypeRow.{TypeRow}
use Rattle.aos_types.specs.declared.row.TypeRow.TheVariants as row
use Rattle.aos_types.specs.Table.{row_of}
use Rattle.aos_types.specs.Sameness.{place, are_predeclared}
use Rattle.aos_typed.specs.Program.{Procedure as TypedProcedure, Program}
use Rattle.aos_typed.specs.WellTyped.{Overrides}
use Rattle.aos_types.specs.declared.signature.Signature.{Signature}
use Rattle.aos_symbols.specs.Env.{basic_rows}
use Rattle.aos_types.specs.Signature.{same_kind, same_parameters, same_result, same_signature, may_stand}
use Rattle.aos_check_expr.proofs.Agreeing.{agree, results}
use Rattle.aos_check_expr.proofs.Opens.{OpensFall, stand_fall}
use Rattle.aos_check_expr.proofs.Whole.{IsWritten}
use Rattle.aos_check_decl.proofs.Typing.{AreReady, IsThere}
use Rattle.aos_compile.proofs.TypingTypes.{number_is}
use Rattle.aos_compile.proofs.TypingProcedures.{IsSignature}

not_both : true ≡ false → ⊥
not_both e = cc

-- The predeclared types have one row each.

abbrev number_of : TypeRow → ℕ
number_of (row.Basic b) = let n = place b in if n == 8 then 9 else n
number_of row.Any = 8
number_of r = 0

numbered : (k : ℕ) → k < 10 → (r : TypeRow) → slice_get basic_rows k ≡ Some r → number_of r ≡ k
numbered zero l r e = ap number_of (sym (same_Some (row.Basic basic.ShortInt) r e))
numbered (suc zero) l r e = ap number_of (sym (same_Some (row.Basic basic.Integer) r e))
numbered (suc (suc zero)) l r e = ap number_of (sym (same_Some (row.Basic basic.LongInt) r e))
numbered (suc (suc (suc zero))) l r e = ap number_of (sym (same_Some (row.Basic basic.HugeInt) r e))
numbered (suc (suc (suc (suc zero)))) l r e = ap number_of (sym (same_Some (row.Basic basic.Boolean) r e))
numbered (suc (suc (suc (suc (suc zero))))) l r e = ap number_of (sym (same_Some (row.Basic basic.Char) r e))
numbered (suc (suc (suc (suc (suc (suc zero)))))) l r e = ap number_of (sym (same_Some (row.Basic basic.Set) r e))
numbered (suc (suc (suc (suc (suc (suc (suc zero))))))) l r e = ap number_of (sym (same_Some (row.Basic basic.Nil) r e))
numbered (suc (suc (suc (suc (suc (suc (suc (suc zero)))))))) l r e = ap number_of (sym (same_Some row.Any r e))
numbered (suc (suc (suc (suc (suc (suc (suc (suc (suc zero))))))))) l r e = ap number_of (sym (same_Some (row.Basic (basic.Text 0)) r e))
numbered (suc (suc (suc (suc (suc (suc (suc (suc (suc (suc k)))))))))) l r e = absurd (omega (arith, l))

module _ (p : Program) (ready : AreReady p.types) where
  falls : OpensFall p.types
  falls = stand_fall p.types ready.opens

  low : (t : TypeId) (r : TypeRow) → row_of p.types t ≡ Some r → (IsWritten r → ⊥) → number_of r ≡ t.0
  low t r there un = by (nat_lt t.0 10) refl
    where
      by : (b : Bool) → nat_lt t.0 10 ≡ b → number_of r ≡ t.0
      by true less = let below = ltb-true t.0 10 less in numbered t.0 below r (sym (ready.basic t.0 below) ∙ there)
      by false high = absurd (un (ready.written t.0 r (ltb-false t.0 10 high) there))

  unique : (a b : TypeId) → are_predeclared (row_of p.types a) (row_of p.types b) ≡ true → a ≡ b
  unique a b is = by (row_of p.types a) (row_of p.types b) refl refl is
    where
      by : (r s : Option TypeRow) → row_of p.types a ≡ r → row_of p.types b ≡ s → are_predeclared r s ≡ true → a ≡ b
      by (Some (row.Basic x)) (Some (row.Basic y)) i j is =
          let same : number_of (row.Basic x) ≡ number_of (row.Basic y) = ap (λ n. if n == 8 then 9 else n) (eqb-true (place x) (place y) is) in
          ap (λ (n : ℕ). record { 0 = n }) (sym (low a (row.Basic x) i (λ w. w)) ∙ same ∙ low b (row.Basic y) j (λ w. w))
      by (Some row.Any) (Some row.Any) i j is = ap (λ (n : ℕ). record { 0 = n }) (sym (low a row.Any i (λ w. w)) ∙ low b row.Any j (λ w. w))
      by r s i j is = absurd (not_both (sym is))

  kind_same : (a b : Bool) → same_kind a b ≡ true → a ≡ b
  kind_same true true is = refl
  kind_same true false is = absurd (not_both (sym is))
  kind_same false true is = absurd (not_both (sym is))
  kind_same false false is = refl

  pub overrides : (s t : Signature) (q r : TypedProcedure) → IsSignature p.types s q → IsSignature p.types t r → may_stand p.types s t ≡ true → Overrides p q r
  overrides s t q r one two is =
      let all = and_parts (same_signature p.types s t) (same_kind s.is_initializer t.is_initializer) is in
      let both = and_parts (same_parameters p.types s.parameters t.parameters) (same_result p.types s.gives t.gives) all.0 in (
        (
          agree p.types falls unique (λ u. IsThere p.types (Some u)) (λ u there. number_is u there.1) s.parameters t.parameters q.parameters r.parameters one.parameters two.parameters both.0,
          results p.types falls unique s.gives t.gives q.result r.result one.result two.result (λ u is. (two.closed u is).1) both.1,
        ),
        one.mark ∙ kind_same s.is_initializer t.is_initializer all.1 ∙ sym two.mark,
      )
