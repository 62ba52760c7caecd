-- One more open dimension.
use Rattle.std.proofs.Common.{◌≡◌, ℕ, suc, ◌+◌, ◌-◌, ◌<◌, List, Some, refl, ap, ◌∙◌, arith}
use Rattle.aos_types.specs.declared.row.TypeId.{TypeId}
use Rattle.aos_types.specs.declared.row.TypeRow.{TypeRow}
use Rattle.aos_types.specs.Table.{row_of}
use Rattle.aos_types.specs.Sameness.{element_of}
use Rattle.aos_typed.specs.Open.{open_by, behind}

module _ (rows : List TypeRow) (t of : TypeId) (e : element_of (row_of rows t) ≡ Some of) where
  pub open_more : (n : ℕ) → open_by (suc n) rows t ≡ suc (open_by n rows of)
  open_more n = rw e refl

  behind_more : (n : ℕ) → behind (suc n) rows t ≡ behind n rows of
  behind_more n = rw e refl

  -- where so many are left
  pub open_step : (n k : ℕ) → k < n → open_by (n - k) rows t ≡ suc (open_by (n - (k + 1)) rows of)
  open_step n k l = let m : n - k ≡ suc (n - (k + 1)) = omega arith in ap (λ j. open_by j rows t) m ∙ open_more (n - (k + 1))

  pub behind_step : (n k : ℕ) → k < n → behind (n - k) rows t ≡ behind (n - (k + 1)) rows of
  behind_step n k l = let m : n - k ≡ suc (n - (k + 1)) = omega arith in ap (λ j. behind j rows t) m ∙ behind_more (n - (k + 1))
