-- The store: below each root stand contents, which a way reads and writes.
use Rattle.std.specs.Prelude.{ℕ, length, Bool, Option, Some, None, pos}
use Rattle.aos_base.specs.Rooted.{Made, Rooted}
use Rattle.aos_base.specs.Shared.{Shared, counted_by, has_room_by}
pub use Rattle.aos_base.specs.Shared.{rooted, store_with, made_in, type_of_object, with_object, new_number}
use Rattle.aos_types.specs.Content.{Content, Scalar, Empty, Row, flatten}
use Rattle.aos_types.specs.World.{read}
use Rattle.aos_typed.specs.Value.{Value, Int}
use Rattle.aos_typed.specs.Location.{Location}

-- what the variables of modules and the fields of objects hold
abbrev pub Store : Type 0
Store = Shared (Content Value)

-- how many scalars contents have
abbrev pub scalars : Content Value → ℕ
scalars c = length (flatten c)

abbrev pub counted : Content Value → ℕ
counted c = counted_by scalars c

abbrev pub has_room : Made → Content Value → Store → Bool
has_room m c s = has_room_by scalars m c s

-- what a scalar place holds; a place that isn't there, or is no scalar's, holds some value, and no well-typed program comes to it
abbrev pub scalar_in : Option (Content Value) → Value
scalar_in None = Int (pos 0)
scalar_in (Some (Scalar v)) = v
scalar_in (Some Empty) = Int (pos 0)
scalar_in (Some (Row a b)) = Int (pos 0)

abbrev pub value_at : Location → Rooted (Content Value) → Value
value_at p x = scalar_in (read p.root p.path x)
