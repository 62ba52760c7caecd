-- Two lists of parameters, of which the first ones are the same.
use Rattle.std.proofs.Common.{◌≡◌, ◌==◌, ◌&&◌, ◌<◌, ◌≤◌, ℕ, suc, ◌+◌, List, [], ◌∷◌, length, get_or, drop, drop-cons, add-one, Bool, true, false, refl, sym, ap, ◌∙◌, arith}
use Rattle.std.proofs.lemmas.Bool.Decides.{nat_tests}
use Rattle.std.proofs.lemmas.List.{drop_all}
use Rattle.aos_types.specs.declared.row.TypeRow.{TypeRow}
use Rattle.aos_types.specs.declared.signature.Parameter.{Parameter}
use Rattle.aos_types.specs.Signature.{same_parameter, same_parameters}

module _ (rows : List TypeRow) (as' bs : List Parameter) where
  pub both_step : (i : ℕ) (d : Parameter) → i < length as' → length as' ≡ length bs →
      same_parameters rows (drop i as') (drop i bs) ≡ same_parameter rows (get_or as' i d) (get_or bs i d) && same_parameters rows (drop (i + 1) as') (drop (i + 1) bs)
  both_step i d lt long =
      ap (λ l. same_parameters rows l (drop i bs)) (drop-cons as' i d lt)
      ∙ ap (λ l. same_parameters rows (get_or as' i d ∷ drop (suc i) as') l) (drop-cons bs i d (omega (arith, lt, long)))
      ∙ ap (λ j. same_parameter rows (get_or as' i d) (get_or bs i d) && same_parameters rows (drop j as') (drop j bs)) (sym (add-one i))

  pub both_end : (i : ℕ) → length as' ≤ i → length as' ≡ length bs → same_parameters rows (drop i as') (drop i bs) ≡ true
  both_end i over long =
      ap (λ l. same_parameters rows l (drop i bs)) (drop_all i as' over) ∙ ap (λ l. same_parameters rows [] l) (drop_all i bs (omega (arith, over, long)))

-- other numbers of them aren't the same
pub other_length : (rows : List TypeRow) (as' bs : List Parameter) → (length as' == length bs) ≡ false → same_parameters rows as' bs ≡ false
other_length rows [] [] differ = absurd (cc)
other_length rows [] (b ∷ bs) differ = refl
other_length rows (a ∷ as') [] differ = refl
other_length rows (a ∷ as') (b ∷ bs) differ = by (same_parameter rows a b) (other_length rows as' bs (grind (arith, nat_tests, differ)))
  where
    by : (x : Bool) → same_parameters rows as' bs ≡ false → (x && same_parameters rows as' bs) ≡ false
    by true rest = rest
    by false rest = refl
