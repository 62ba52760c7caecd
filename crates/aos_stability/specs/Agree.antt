-- When two stores agree on what a lock guards.
use Rattle.std.specs.Prelude.{◌≡◌, ℕ, [], ◌∷◌, Option, Some, false, slice_get}
use Rattle.aos_base.specs.declared.kernel.LockName.{LockName}
use Rattle.aos_base.specs.declared.kernel.LockName.TheVariants as lock
use Rattle.aos_base.specs.declared.root.Root.{Root}
use Rattle.aos_base.specs.declared.root.Root.TheVariants as root
use Rattle.aos_base.specs.Rooted.{Made}
use Rattle.aos_types.specs.Content.{Content}
use Rattle.aos_types.specs.World.{read}
use Rattle.aos_typed.specs.Conditions.{Condition, conditions}
use Rattle.aos_typed.specs.Program.{Program}
use Rattle.aos_typed.specs.Store.{Store, made_in}
use Rattle.aos_typed.specs.Value.{Value}
use Rattle.aos_typed.specs.Source.{all_rooted}
use Rattle.aos_uses.specs.declared.uses.Variable.TheVariants as variable
use Rattle.aos_uses.specs.Guarded.{IsGuarded, IsLocal, is_of_module}
use Rattle.aos_stability.specs.Locations.{HasFields, field_of}

-- part k of what stands below a root
abbrev pub part_of : Store → Root → ℕ → Option (Content Value)
part_of s r k = read r (k ∷ []) (all_rooted [] s)

abbrev pub IsSame : Store → Store → Root → ℕ → Type 0
IsSame s t r k = part_of s r k ≡ part_of t r k

module _ (p : Program) where
  -- what its owner alone writes
  abbrev pub AreSame : LockName → Store → Store → Type 0
  AreSame (lock.Module m) s t = (k : ℕ) → IsGuarded p (variable.Module m k) → IsSame s t (root.Module m) k
  AreSame (lock.Object o) s t =
      (m : Made) → made_in s o ≡ Some m → HasFields p m → (k : ℕ) → IsGuarded p (field_of p m k) → IsSame s t (root.Object o) k

  -- objects stay what they are, string constants that nothing writes stay, and so does what the lock guards
  pub record AgreeOn (l : LockName) (s t : Store) : Type 0 where
    pub made : (o : ℕ) (m : Made) → made_in s o ≡ Some m → made_in t o ≡ Some m
    pub constants : (m k : ℕ) → is_of_module p m k ≡ false → IsGuarded p (variable.Module m k) → IsSame s t (root.Module m) k
    pub guarded : AreSame l s t

  -- a condition is local, as is told of it by its number
  abbrev pub IsLocalAt : LockName → ℕ → Type 0
  IsLocalAt l c = (d : Condition) → slice_get (conditions p) c ≡ Some d → IsLocal p d
