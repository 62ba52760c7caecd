-- What types tell of the objects that are made of them, each by its bases where it says nothing itself.
use Rattle.std.specs.Prelude.{◌≡◌, ℕ, List, [], ◌∷◌, length, map, Option, Some, None, is_some, slice_get, Bool, false, ◌||◌, if◌then◌else◌}
use Rattle.std.specs.List.{range_with_len}
use Rattle.aos_typed.specs.declared.tree.TObject.{TObject}
use Rattle.aos_typed.specs.Methods.{initial_slot, nearest}
use Rattle.aos_typed.specs.Program.{ObjectType, Program}
use Rattle.aos_typed.specs.Seen.{seen_object}
use Rattle.aos_dispatch.specs.declared.nearest.Asked.{Asked}
use Rattle.aos_dispatch.specs.declared.nearest.Asked.TheVariants.{Body, Initializer}

-- what a type with this number tells: that it has a body, by its own number, or the slot of the initializer that it declares
abbrev pub told_at : Asked → (type : ℕ) → ObjectType → Option ℕ
told_at Body t o = if o.has_body then Some t else None
told_at Initializer t o = initial_slot o.methods

abbrev pub told_of : Asked → (type : ℕ) → Option ObjectType → Option ℕ
told_of asked t None = None
told_of asked t (Some o) = told_at asked t o

abbrev pub told_by : Program → Asked → (type : ℕ) → Option ℕ
told_by p asked t = told_of asked t (slice_get p.objects t)

-- one of these types tells something
abbrev pub tells_some : Asked → List TObject → Bool
tells_some asked [] = false
tells_some asked (o ∷ os) = is_some (told_at asked 0 (seen_object o)) || tells_some asked os

-- what the nearest type of each type's chain tells
abbrev pub AreNearest : Program → Asked → List (Option ℕ) → Type 0
AreNearest p asked xs = xs ≡ map (λ t. nearest p (told_by p asked) t) (range_with_len 0 (length p.objects))
