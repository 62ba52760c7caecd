-- One more definition with a number of its own.
use Rattle.std.proofs.Common.{◌≡◌, ◌∷◌, ◌++◌, ◌+◌, ℕ, [], Option, Some, sym, arith}
use Rattle.std.proofs.lemmas.List.FromFn.{map-range_with_len_more}
use Rattle.aos_types.specs.declared.row.TypeId.{TypeId}
use Rattle.aos_check_decl.specs.Pass.{own_numbers}

-- one number behind so many
pub numbers_more : (first count : ℕ) → own_numbers first count ++ Some (record { 0 = first + count }) ∷ [] ≡ own_numbers first (count + 1)
numbers_more first count = sym (map-range_with_len_more (λ k. number k) 0 count count (omega arith))
  where
    number : ℕ → Option TypeId
    number k = Some (record { 0 = first + k })
