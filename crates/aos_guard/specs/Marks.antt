-- The largest set within marks that a list of edges allows.
use Rattle.std.specs.Prelude.{ℕ, List, Bool, false, get_or, All, IsTrue}
use Rattle.aos_guard.specs.declared.marks.Edge.{Edge}

-- a number has a mark
abbrev pub marked : List Bool → ℕ → Bool
marked ms k = get_or ms k false

-- one of the set has the other with it
abbrev pub KeepsEdge : (set : ℕ → Bool) → Edge → Type 0
KeepsEdge set e = IsTrue (set e.from) → IsTrue (set e.to)

abbrev pub IsClosed : List Edge → (ℕ → Bool) → Type 0
IsClosed edges set = All (KeepsEdge set) edges

abbrev pub IsWithin : (ℕ → Bool) → (ℕ → Bool) → Type 0
IsWithin set other = (k : ℕ) → IsTrue (set k) → IsTrue (other k)

-- in one such set of candidates, so in the largest
abbrev pub IsLeft : List Edge → List Bool → ℕ → Type 0
IsLeft edges candidates k = (set : ℕ → Bool) × (IsWithin set (marked candidates) × (IsClosed edges set × IsTrue (set k)))
