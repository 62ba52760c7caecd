-- How the types that contain themselves are marked, one after another.
use Rattle.std.specs.Prelude.{◌≡◌, ℕ, ◌<◌, List, [], ◌∷◌, length, Bool, true, Option, Some, None, slice_get}
use Rattle.aos_types.specs.declared.row.TypeId.{TypeId}
use Rattle.aos_types.specs.declared.row.TypeRow.{TypeRow}
use Rattle.aos_types.specs.Chain.{ContainsItself}

-- the one of these types, where there is one alone
abbrev pub only : List TypeId → Option TypeId
only [] = None
only (t ∷ []) = Some t
only (t ∷ u ∷ ts) = None

-- each type has a mark, and those that are marked contain themselves
pub record AreSound (rows : List TypeRow) (flags : List Bool) : Type 0 where
  pub long : length flags ≡ length rows
  pub sound : (p : TypeId) → slice_get flags p.0 ≡ Some true → ContainsItself rows p

-- marks stay
abbrev pub AreKept : List Bool → List Bool → Type 0
AreKept flags flags' = (p : TypeId) → slice_get flags p.0 ≡ Some true → slice_get flags' p.0 ≡ Some true

-- a type was marked, and perhaps others with it
pub record IsMarked (rows : List TypeRow) (flags : List Bool) (t : TypeId) (flags' : List Bool) : Type 0 where
  pub sound : AreSound rows flags'
  pub kept : AreKept flags flags'
  pub own : slice_get flags' t.0 ≡ Some true

-- the same where it contains itself
pub record IsTested (rows : List TypeRow) (flags : List Bool) (t : TypeId) (flags' : List Bool) : Type 0 where
  pub sound : AreSound rows flags'
  pub kept : AreKept flags flags'
  pub own : ContainsItself rows t → slice_get flags' t.0 ≡ Some true

-- each of the first so many types that contains itself is marked
pub record AreTested (rows : List TypeRow) (flags : List Bool) (n : ℕ) : Type 0 where
  pub sound : AreSound rows flags
  pub whole : (p : TypeId) → p.0 < n → ContainsItself rows p → slice_get flags p.0 ≡ Some true
