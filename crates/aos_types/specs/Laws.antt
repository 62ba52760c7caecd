-- Laws of the definitions.
use Rattle.std.specs.Prelude.{◌≡◌, ◌<◌, ℕ, List, Some}
use Rattle.aos_types.specs.declared.row.TypeId.{TypeId}
use Rattle.aos_types.specs.Shape.{Shape, One, join, size, inside, offset}

-- what a shape begins with
pub record BeginsWith (whole front : Shape TypeId) : Type 0 where
  pub more : Shape TypeId
  pub is : whole ≡ join front more

-- ways to scalars that stand apart from each other, below the size
abbrev pub AreApart : {S : Type 0} → Shape S → List ℕ → List ℕ → Type 0
AreApart s p q = (offset p s ≡ offset q s → p ≡ q) × (offset p s < size s)

-- a way to a scalar
pub record IsScalar {S : Type 0} (s : Shape S) (p : List ℕ) : Type 0 where
  pub kind : S
  pub there : inside p s ≡ Some (One kind)
