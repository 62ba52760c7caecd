-- The rules on quiet initializers as edges between numbers: where the first is in a set, the second is. Nothing has the number 0.
use Rattle.std.specs.Prelude.{◌≡◌, ℕ, suc, List, map, Bool, IsTrue, Some, slice_get, true}
use Rattle.std.specs.declared.vec.Vec.{Vec}
use Rattle.std.specs.declared.alloc.Global.{Global}
use Rattle.aos_types.specs.Extension.{comes_to}
use Rattle.aos_typed.specs.declared.tree.TType.TheVariants.{Named}
use Rattle.aos_typed.specs.Numbers.{id_of}
use Rattle.aos_typed.specs.Program.{Program}
use Rattle.aos_typed.specs.Routines.{routines}
use Rattle.aos_uses.specs.declared.uses.Use.{Use}
use Rattle.aos_uses.specs.Guarded.{Each, method_of, IsQuiet}
use Rattle.aos_guard.specs.Marks.{marked}
use Rattle.aos_uses.specs.Uses.{routine_uses}

module _ (p : Program) where
  -- a base of a type, or the type itself, has in a slot what is named
  abbrev pub HasBelow : (owner slot named : ℕ) → Type 0
  HasBelow u k m = (base : ℕ) × ((method_of p base k ≡ Some m) × (comes_to p.types (id_of (Named u)) (id_of (Named base)) ≡ true))

  -- each method in a slot of a type that names what is named has with it this number
  abbrev pub LeadsFrom : (set : ℕ → Bool) → (owner slot named to : ℕ) → Type 0
  LeadsFrom set u k m to = (n : ℕ) → method_of p u k ≡ Some n → HasBelow u k m → IsTrue (set n) → IsTrue (set to)

  -- these are what the texts use
  abbrev pub AreTexts : List (Vec Use Global) → Type 0
  AreTexts texts = map (λ v. v.items) texts ≡ map (routine_uses p) (routines p)

  -- these marks are those of the quiet initializers
  abbrev pub AreMarks : List Bool → Type 0
  AreMarks marks = (n : ℕ) → (IsTrue (marked marks n) → IsQuiet p n) × (IsQuiet p n → IsTrue (marked marks n))

-- in each of these texts, which are numbered from 1
abbrev pub InTexts : (R : ℕ → Use → Type 0) → List (Vec Use Global) → Type 0
InTexts R texts = (i : ℕ) (us : Vec Use Global) → slice_get texts i ≡ Some us → Each (R (suc i)) us.items
