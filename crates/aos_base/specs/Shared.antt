-- What all activities under a machine share: the contents of its modules and objects.
use Rattle.std.specs.Prelude.{ℕ, suc, ◌+◌, List, [], ◌∷◌, ◌++◌, length, max, sum_by, nat_le, Bool, ◌&&◌, Option, option_map}
use Rattle.std.specs.List.{list_all}
use Rattle.aos_base.specs.declared.limits.TheConstants.{MOST_SCALARS}
use Rattle.aos_base.specs.declared.root.Root.{Root}
use Rattle.aos_base.specs.declared.root.Root.TheVariants.{Frame, Module, Object}
use Rattle.aos_base.specs.Rooted.{Made, Rooted, by_number, change_at, change_by_number}

-- those of each module, in load order, and of each object, in the order of making, with what it was made as; X: once what variables
-- hold, once cells
pub record Shared (X : Type 0) : Type 0 where
  pub modules : List X
  pub objects : List X
  pub made : List Made

module _ {X : Type 0} where
  -- with what the frames of an activity hold
  abbrev pub rooted : List X → Shared X → Rooted X
  rooted frames s = record { frames = frames; modules = s.modules; objects = s.objects }

  -- other contents below a root
  abbrev pub store_with : Root → (X → X) → Shared X → Shared X
  store_with (Frame d) g s = s
  store_with (Module m) g s = record s { modules = change_at m g s.modules }
  store_with (Object o) g s = record s { objects = change_by_number o g s.objects }

  -- what an object was made as, and its type, by its number from 1
  abbrev pub made_in : Shared X → ℕ → Option Made
  made_in s o = by_number o s.made

  abbrev pub type_of_object : ℕ → Shared X → Option ℕ
  type_of_object o s = option_map (λ m. m.type) (by_number o s.made)

  -- a new object that is made as this and holds this, and its number
  abbrev pub with_object : Made → X → Shared X → Shared X
  with_object m x s = record s { objects = s.objects ++ x ∷ []; made = s.made ++ m ∷ [] }

  abbrev pub new_number : Shared X → ℕ
  new_number s = suc (length s.made)

  -- how many scalars an object counts as: one that has none counts as one
  abbrev pub counted_by : (scalars : X → ℕ) → X → ℕ
  counted_by scalars x = max 1 (scalars x)

  -- the heap has room for so many scalars, and for no array that is longer
  abbrev pub has_room_by : (scalars : X → ℕ) → Made → X → Shared X → Bool
  has_room_by scalars m x s =
      list_all (λ n. nat_le n MOST_SCALARS) m.lengths && nat_le (counted_by scalars x + sum_by (counted_by scalars) s.objects) MOST_SCALARS
