-- The fields of the record types that a module knows, behind those of one more type.
use Rattle.std.proofs.Common.{◌≡◌, ℕ, nat_eq, List, [], ◌∷◌, Bool, true, false, cond, if◌then◌else◌, Some, None, refl, sym, ap, ◌∙◌, eq-eqb, eqb-true}
use Rattle.std.specs.Map.{lookup}
use Rattle.indexmap.specs.IndexMap.{insert_entry}
use Rattle.aos_types.specs.declared.row.TypeId.{TypeId}
use Rattle.aos_symbols.specs.Scope.{Scope}
use Rattle.aos_symbols.specs.Home.{Home, add_record, record_fields}

pub lookup_here : {A : Type 0} (rs : List (ℕ × A)) (k : ℕ) (s : A) → lookup (λ j. nat_eq k j) (insert_entry nat_eq rs k s) ≡ Some s
lookup_here [] k s = ap (λ b. cond b (Some s) None) (eq-eqb k k refl)
lookup_here (e ∷ rs) k s = by (lookup_here rs k s) (nat_eq k e.0) refl
  where
    by : lookup (λ j. nat_eq k j) (insert_entry nat_eq rs k s) ≡ Some s → (b : Bool) → nat_eq k e.0 ≡ b →
        lookup (λ j. nat_eq k j) (if b then (e.0, s) ∷ rs else e ∷ insert_entry nat_eq rs k s) ≡ Some s
    by more true is = ap (λ b. cond b (Some s) (lookup (λ j. nat_eq k j) rs)) is
    by more false is = ap (λ b. cond b (Some e.1) (lookup (λ j. nat_eq k j) (insert_entry nat_eq rs k s))) is ∙ more

differ : (j k : ℕ) → (j ≡ k → ⊥) → nat_eq j k ≡ false
differ j k other = by (nat_eq j k) refl
  where
    by : (b : Bool) → nat_eq j k ≡ b → nat_eq j k ≡ false
    by true is = absurd (other (eqb-true j k is))
    by false is = is

pub lookup_other : {A : Type 0} (rs : List (ℕ × A)) (k j : ℕ) (s : A) → (j ≡ k → ⊥) →
    lookup (λ i. nat_eq j i) (insert_entry nat_eq rs k s) ≡ lookup (λ i. nat_eq j i) rs
lookup_other [] k j s other = ap (λ b. cond b (Some s) None) (differ j k other)
lookup_other (e ∷ rs) k j s other = by (lookup_other rs k j s other) (nat_eq k e.0) refl
  where
    by : lookup (λ i. nat_eq j i) (insert_entry nat_eq rs k s) ≡ lookup (λ i. nat_eq j i) rs → (b : Bool) → nat_eq k e.0 ≡ b →
        lookup (λ i. nat_eq j i) (if b then (e.0, s) ∷ rs else e ∷ insert_entry nat_eq rs k s) ≡ lookup (λ i. nat_eq j i) (e ∷ rs)
    by more true is =
        let no_match = differ j e.0 (λ same. other (same ∙ sym (eqb-true k e.0 is))) in
        ap (λ b. cond b (Some s) (lookup (λ i. nat_eq j i) rs)) no_match ∙ sym (ap (λ b. cond b (Some e.1) (lookup (λ i. nat_eq j i) rs)) no_match)
    by more false is = ap (λ o. cond (nat_eq j e.0) (Some e.1) o) more

-- the fields of that type, and those of another one
pub record_here : (h : Home) (t : TypeId) (s : Scope) → record_fields (add_record h t s) t ≡ Some s
record_here h t s = lookup_here h.records t.0 s

pub record_other : (h : Home) (t u : TypeId) (s : Scope) → (u.0 ≡ t.0 → ⊥) → record_fields (add_record h t s) u ≡ record_fields h u
record_other h t u s other = lookup_other h.records t.0 u.0 s other
