-- How the types that chains lead to are found: those that were reached, in the order in which they were, and a mark for each.
use Rattle.std.specs.Prelude.{ℕ, List, [], ◌∷◌, ◌++◌, Bool, true, false, Option, Some, None, slice_get, slice_set, replicate}
use Rattle.aos_types.specs.declared.row.TypeId.{TypeId}

pub record Marks : Type 0 where
  pub seen : List Bool
  pub order : List TypeId

abbrev pub noted_by : TypeId → Marks → Option Bool → Marks
noted_by t m (Some false) = record { seen = slice_set m.seen t.0 true; order = m.order ++ t ∷ [] }
noted_by t m (Some true) = m
noted_by t m None = m

-- a type is noted, where it has a mark and wasn't noted before
abbrev pub noted : TypeId → Marks → Marks
noted t m = noted_by t m (slice_get m.seen t.0)

abbrev pub all_noted : List TypeId → Marks → Marks
all_noted [] m = m
all_noted (t ∷ ts) m = all_noted ts (noted t m)

abbrev pub is_seen : Option Bool → Bool
is_seen (Some b) = b
is_seen None = false

abbrev pub unbegun : ℕ → Marks
unbegun n = record { seen = replicate n false; order = [] }
