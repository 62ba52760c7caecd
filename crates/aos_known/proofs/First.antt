-- The first type that is the same as another.
use Rattle.std.proofs.Common.{◌≡◌, ◌<◌, ◌≤◌, ℕ, suc, ◌+◌, ◌-◌, List, add-one, true, false, if◌then◌else◌, ap, sym, ◌∙◌, arith}
use Rattle.aos_types.specs.declared.row.TypeId.{TypeId}
use Rattle.aos_types.specs.declared.row.TypeRow.{TypeRow}
use Rattle.aos_types.specs.Sameness.{same}
use Rattle.aos_typed.specs.Open.{first_from}

-- The first of n types that begin with number k.
module _ (rows : List TypeRow) (t : TypeId) (n k : ℕ) where
  abbrev here : TypeId
  here = record { 0 = k }

  pub first_met : (all : TypeId) → 0 < n → same rows here t ≡ true → first_from n k rows t ≡ all → here ≡ all
  first_met all some is before =
      let next : n ≡ suc (n - 1) = omega arith in
      sym (ap (λ m. first_from m k rows t) next ∙ ap (λ b. if b then here else first_from (n - 1) (suc k) rows t) is) ∙ before

  pub first_later : (all : TypeId) → 0 < n → same rows here t ≡ false → first_from n k rows t ≡ all → first_from (n - 1) (k + 1) rows t ≡ all
  first_later all some isnt before =
      let next : n ≡ suc (n - 1) = omega arith in
      ap (λ j. first_from (n - 1) j rows t) (add-one k)
      ∙ sym (ap (λ m. first_from m k rows t) next ∙ ap (λ b. if b then here else first_from (n - 1) (suc k) rows t) isnt) ∙ before

  pub first_none : (all : TypeId) → n ≤ 0 → first_from n k rows t ≡ all → t ≡ all
  first_none all over before =
      let none : n ≡ 0 = omega (arith, over) in ap (λ m. first_from m k rows t) (sym none) ∙ before
