-- The numbers of a program's procedures, and what its types tell, as they are looked up.
use Rattle.std.specs.Prelude.{◌≡◌, ◌≤◌, ◌^◌, ℕ, suc, ◌+◌, ◌∷◌, List, [], length, map, Option, Some, None, nat_lt, if◌then◌else◌, Bool, false}
use Rattle.std.specs.List.{range_with_len}
use Rattle.aos_base.specs.declared.priority.Priority.{Priority}
use Rattle.aos_base.specs.declared.priority.Priority.TheVariants.{Normal}
use Rattle.aos_types.specs.declared.row.TypeId.{TypeId}
use Rattle.aos_types.specs.declared.row.TypeRow.{TypeRow}
use Rattle.aos_typed.specs.declared.tree.TObject.{TObject}
use Rattle.aos_typed.specs.declared.tree.TType.{TType}
use Rattle.aos_typed.specs.Methods.{slots, own_numbers}
use Rattle.aos_typed.specs.Numbers.{id_of}
use Rattle.aos_typed.specs.Program.{Module, Program}
use Rattle.aos_typed.specs.Routines.{routines}
use Rattle.aos_dispatch.specs.declared.nearest.Asked.TheVariants.{Body, Initializer}
use Rattle.aos_dispatch.specs.declared.routines.Routine.{Routine}
use Rattle.aos_dispatch.specs.Nearest.{AreNearest}
use Rattle.aos_dispatch.specs.Routines.{seen_routines}

-- the number of the first of what each of these has so many of, where that of the first one is this, and the number behind all
abbrev pub firsts_by : {A : Type 0} → (A → ℕ) → ℕ → List A → List ℕ
firsts_by count n [] = n ∷ []
firsts_by count n (x ∷ xs) = n ∷ firsts_by count (n + count x) xs

-- the number of the first procedure of each of these modules
abbrev pub firsts_from : ℕ → List Module → List ℕ
firsts_from n ms = firsts_by (λ x. length x.procedures) n ms

-- first come the bodies of the modules, and then those of the object types
abbrev pub AreFirsts : Program → List ℕ → Type 0
AreFirsts p ns = ns ≡ firsts_from (suc (length p.modules + length p.objects)) p.modules

-- the methods of each type by their slots, as numbers of routines
abbrev pub AreTables : Program → List (List ℕ) → Type 0
AreTables p tables = tables ≡ map (λ k. slots p (own_numbers p) k) (range_with_len 0 (length p.objects))

-- these are the numbers of the modules' first procedures, the methods of each type, the type whose body and the slot of the
-- initializer that each type's objects have, and what runs
pub record IsDispatch (p : Program) (ns : List ℕ) (ts : List (List ℕ)) (os is : List (Option ℕ)) (rs : List Routine) : Type 0 where
  pub few : length p.types ≤ 2 ^ 32
  pub firsts : AreFirsts p ns
  pub tables : AreTables p ts
  pub bodies : AreNearest p Body os
  pub initials : AreNearest p Initializer is
  pub all : seen_routines rs ≡ routines p

-- a type, where it is in the table
abbrev pub there_in : List TypeRow → TType → Option TypeId
there_in rows t = if nat_lt (id_of t).0 (length rows) then Some (id_of t) else None

-- whether the objects of a type have activities of their own, where it is there
abbrev pub active_of : Option TObject → Bool
active_of None = false
active_of (Some o) = o.is_active

-- and their priority
abbrev pub priority_of : Option TObject → Priority
priority_of None = Normal
priority_of (Some o) = o.priority
