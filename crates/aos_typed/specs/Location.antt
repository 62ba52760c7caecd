-- Places of a program: a root and a way of numbers of parts.
use Rattle.std.specs.Prelude.{ℕ, List}
use Rattle.aos_base.specs.declared.root.Root.{Root}

-- the declared variable that a place is, or is a part of: one of a frame, one of a module, a field by the type that declares it,
-- or none where a pointer was followed last
pub data Declared : Type 0 where
  InFrame : Declared
  OfModule : (home number : ℕ) → Declared
  Field : (type number : ℕ) → Declared
  OnHeap : Declared

-- a place, the dynamic type of a record there by its number from 1, 0 where it is the declared one, and the variable
pub record Location : Type 0 where
  pub root : Root
  pub path : List ℕ
  pub type : ℕ
  pub of : Declared
