-- A test of all elements of a list, by a loop that stops at the first one that fails.
use Rattle.std.proofs.Common.{◌≡◌, ◌<◌, ◌≤◌, ◌+◌, ℕ, List, ◌∷◌, length, drop, get_or, Bool, true, false, IsTrue, refl, ◌∙◌, sym, ap, subst}
use Rattle.std.specs.Prelude.{◌↔◌}
use Rattle.std.proofs.lemmas.List.{drop_more, drop_all}
use Rattle.aos_uses.specs.declared.uses.Use.{Use}
use Rattle.aos_uses.specs.Guarded.{Each}

-- what is left decides
abbrev pub LeftDecides : (R : Use → Type 0) → (us : List Use) → (i : ℕ) → Type 0
LeftDecides R us i = Each R us ↔ Each R (drop i us)

module _ (R : Use → Type 0) (us : List Use) where
  pub each_first : LeftDecides R us 0
  each_first = (λ h. h, λ h. h)

  -- with the answer to one more
  module _ (i : ℕ) (u : Use) (b : Bool) (lt : i < length us) (is : u ≡ get_or us i u) (says : IsTrue b ↔ R u) where
    here : drop i us ≡ u ∷ drop (i + 1) us
    here = drop_more us i u lt ∙ ap (λ x. x ∷ drop (i + 1) us) (sym is)

    pub each_more : b ≡ true → LeftDecides R us i → LeftDecides R us (i + 1)
    each_more holds d = (λ h. (subst (Each R) here (d.0 h)).1, λ h. d.1 (subst (Each R) (sym here) (says.0 holds, h)))

    pub each_no : b ≡ false → LeftDecides R us i → IsTrue false ↔ Each R us
    each_no fails d = (
      λ e. absurd (cc e),
      λ h. absurd (let e : false ≡ true = sym fails ∙ says.1 (subst (Each R) here (d.0 h)).0 in cc e),
    )

  pub each_yes : (i : ℕ) → length us ≤ i → LeftDecides R us i → IsTrue true ↔ Each R us
  each_yes i le d = (λ e. d.1 (subst (Each R) (sym (drop_all i us le)) tt), λ h. refl)
