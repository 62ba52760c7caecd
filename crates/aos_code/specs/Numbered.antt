-- Procedures, types and objects are numbered from 1, and the number 0 names none.
use Rattle.std.specs.Prelude.{ℕ, zero, suc, List, Option, None, slice_get}

abbrev pub numbered : {A : Type 0} → List A → ℕ → Option A
numbered xs zero = None
numbered xs (suc k) = slice_get xs k
