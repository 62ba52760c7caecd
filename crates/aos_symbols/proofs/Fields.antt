-- One more name of a scope, of which the variables are fields.
use Rattle.std.proofs.Common.{◌≡◌, ◌≤◌, ℕ, suc, List, [], ◌∷◌, ◌++◌, ◌+◌, length, take, take_all, add-one, Bool, true, false, Option, Some, None, slice_get, if◌then◌else◌, ap, ◌∙◌, sym, refl, append-nil}
use Rattle.std.specs.Prelude.{filter}
use Rattle.std.proofs.lemmas.Option.{none-some, same_Some}
use Rattle.std.proofs.lemmas.List.{map-append}
use Rattle.aos_symbols.specs.Scope.{Named, Scope, is_variable, if_field, fields_of, place_of, places_in}
use Rattle.aos_symbols.proofs.Methods.{taken_none, one, filter_next}

-- the fields among the first names of a scope
abbrev pub fields_before : Scope → ℕ → List Named
fields_before s i = filter (λ n. is_variable n.1.means) (take i s.entries)

module _ (s : Scope) (i : ℕ) where
  abbrev test : Named → Bool
  test n = is_variable n.1.means

  field_next : (n : Named) → if_field (slice_get s.entries i) ≡ Some n → fields_before s (i + 1) ≡ fields_before s i ++ n ∷ []
  field_next n is = ap (λ j. fields_before s j) (add-one i) ∙ by (slice_get s.entries i) refl is
    where
      by_test : (m : Named) → slice_get s.entries i ≡ Some m → (b : Bool) → test m ≡ b → (if b then Some m else None) ≡ Some n →
          fields_before s (suc i) ≡ fields_before s i ++ n ∷ []
      by_test m there true field same =
          filter_next test s.entries i m there ∙ ap (λ b. fields_before s i ++ one m b) field ∙ ap (λ z. fields_before s i ++ z ∷ []) (same_Some m n same)
      by_test m there false other same = absurd (none-some n same)

      by : (o : Option Named) → slice_get s.entries i ≡ o → if_field o ≡ Some n → fields_before s (suc i) ≡ fields_before s i ++ n ∷ []
      by None there same = absurd (none-some n same)
      by (Some m) there same = by_test m there (test m) refl same

  field_none : if_field (slice_get s.entries i) ≡ None → fields_before s (i + 1) ≡ fields_before s i
  field_none is = ap (λ j. fields_before s j) (add-one i) ∙ by (slice_get s.entries i) refl is
    where
      by_test : (m : Named) → slice_get s.entries i ≡ Some m → (b : Bool) → test m ≡ b → (if b then Some m else None) ≡ None →
          fields_before s (suc i) ≡ fields_before s i
      by_test m there true field none = absurd (none-some m (sym none))
      by_test m there false other none = filter_next test s.entries i m there ∙ ap (λ b. fields_before s i ++ one m b) other ∙ append-nil (fields_before s i)

      by : (o : Option Named) → slice_get s.entries i ≡ o → if_field o ≡ None → fields_before s (suc i) ≡ fields_before s i
      by None there none = ap (filter test) (taken_none s.entries i there)
      by (Some m) there none = by_test m there (test m) refl none

-- and where they stand among the names of another scope
module _ (s all : Scope) (i : ℕ) where
  pub placed_more : (n : Named) → if_field (slice_get s.entries i) ≡ Some n →
      places_in all (fields_before s (i + 1)) ≡ places_in all (fields_before s i) ++ place_of all n.0 ∷ []
  placed_more n is = ap (λ l. places_in all l) (field_next s i n is) ∙ map-append (λ n. place_of all n.0) (fields_before s i) (n ∷ [])

  pub placed_none : if_field (slice_get s.entries i) ≡ None → places_in all (fields_before s (i + 1)) ≡ places_in all (fields_before s i)
  placed_none is = ap (λ l. places_in all l) (field_none s i is)

  pub placed_end : length s.entries ≤ i → places_in all (fields_before s i) ≡ places_in all (fields_of s)
  placed_end whole = ap (λ l. places_in all (filter (test s i) l)) (take_all i s.entries whole)
