-- One step of the walks along bases and along the elements of open arrays.
use Rattle.std.proofs.Common.{◌≡◌, ℕ, zero, suc, ◌-◌, ◌<◌, List, refl, arith}
use native.Mathlib.Numerals.{unary_clauses}
use Rattle.std.specs.Prelude.{Bool, true, false, ◌==◌, ◌||◌}
use Rattle.aos_types.specs.declared.row.TypeId.{TypeId}
use Rattle.aos_types.specs.declared.row.TypeRow.{TypeRow}
use Rattle.aos_types.specs.Table.{row_of, on_both, base_of}
use Rattle.aos_types.specs.Extension.{on_base, comes_by}
use Rattle.aos_types.specs.Sameness.{are_one, element_of, same_by}

false_or : (x y : Bool) → x ≡ false → (x || y) ≡ y
false_or true y e = cc
false_or false y e = refl

true_or : (x y : Bool) → x ≡ true → (x || y) ≡ true
true_or true y e = refl
true_or false y e = cc

-- a type comes to itself
pub comes_here : (n : ℕ) (rows : List TypeRow) (a b : TypeId) → a.0 == b.0 ≡ true → comes_by n rows a b ≡ true
comes_here zero rows a b e = e
comes_here (suc n) rows a b e = true_or (a.0 == b.0) (on_base (λ c. comes_by n rows c b) (base_of (row_of rows a))) e

-- to another by its base
pub comes_up : (n : ℕ) (rows : List TypeRow) (a b : TypeId) → 0 < n → a.0 == b.0 ≡ false → comes_by n rows a b ≡ on_base (λ c. comes_by (n - 1) rows c b) (base_of (row_of rows a))
comes_up zero rows a b l e = absurd (omega arith)
comes_up (suc n) rows a b l e =
    simp unary_clauses (false_or (a.0 == b.0) (on_base (λ c. comes_by n rows c b) (base_of (row_of rows a))) e)

pub same_here : (n : ℕ) (rows : List TypeRow) (a b : TypeId) → are_one rows a b ≡ true → same_by n rows a b ≡ true
same_here zero rows a b e = e
same_here (suc n) rows a b e =
    true_or (are_one rows a b) (on_both (same_by n rows) (element_of (row_of rows a)) (element_of (row_of rows b))) e

pub same_within : (n : ℕ) (rows : List TypeRow) (a b : TypeId) → 0 < n → are_one rows a b ≡ false → same_by n rows a b ≡ on_both (same_by (n - 1) rows) (element_of (row_of rows a)) (element_of (row_of rows b))
same_within zero rows a b l e = absurd (omega arith)
same_within (suc n) rows a b l e =
    simp unary_clauses (
    false_or (are_one rows a b) (on_both (same_by n rows) (element_of (row_of rows a)) (element_of (row_of rows b))) e
    )
