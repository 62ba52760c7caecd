-- The labels of a CASE, kept by their first values.
use Rattle.std.specs.Prelude.{◌≡◌, ℤ, ◌≤ℤ◌, ◌<ℤ◌, List, true, Some}
use Rattle.std.specs.List.{list_any}
use Rattle.std.specs.Ordering.{int_cmp}
use Rattle.std.specs.BTreeMap.{BTreeMap, get}
use Rattle.aos_typed.specs.declared.tree.LabelRange.{LabelRange}
use Rattle.aos_typed.specs.WellTyped.{meets}

abbrev pub range : ℤ → ℤ → LabelRange
range a b = record { low = a; high = b }

-- A map has ends by first values: of the labels that aren't empty, which don't meet, so that a later one begins behind the end
-- of an earlier one.
pub record AreTaken (ls : List LabelRange) (m : BTreeMap ℤ ℤ) : Type 0 where
  pub found : (r : LabelRange) → list_any (meets r) ls ≡ true → (a : ℤ) × (b : ℤ) × (get int_cmp m a ≡ Some b) × (meets r (range a b) ≡ true)
  pub label : (r : LabelRange) (a b : ℤ) → get int_cmp m a ≡ Some b → meets r (range a b) ≡ true → list_any (meets r) ls ≡ true
  pub some : (a b : ℤ) → get int_cmp m a ≡ Some b → a ≤ℤ b
  pub apart : (a b c d : ℤ) → get int_cmp m a ≡ Some b → get int_cmp m c ≡ Some d → a <ℤ c → b <ℤ c
