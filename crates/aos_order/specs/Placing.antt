-- The placing of files, by their numbers in command order from 0, where each needs some others before it.
use Rattle.std.specs.Prelude.{◌≡◌, ◌<◌, ℕ, zero, suc, Bool, true, take, slice_index, nat_eq, not, ◌&&◌, List, [], ◌++◌, Option, option_to_list, length, filter, find, slice_index_or}
use Rattle.std.specs.List.{list_any, list_all, range_with_len}

-- a file is among these
abbrev pub is_among : List ℕ → ℕ → Bool
is_among placed k = list_any (nat_eq k) placed

-- `needs` has for each file the files that it needs
module _ (needs : List (List ℕ)) where
  abbrev pub numbers : List ℕ
  numbers = range_with_len 0 (length needs)

  -- a file that isn't placed yet, and all that it needs is
  abbrev pub is_ready : List ℕ → ℕ → Bool
  is_ready placed k = not (is_among placed k) && list_all (is_among placed) (slice_index_or needs k [])

  -- the next is the first of those in command order
  abbrev pub next : List ℕ → Option ℕ
  next placed = find (is_ready placed) numbers

  -- the files that are placed when the next was placed so many times, as long as there was one
  abbrev pub placed_after : ℕ → List ℕ
  placed_after zero = []
  placed_after (suc n) = placed_after n ++ option_to_list (next (placed_after n))

  abbrev pub placed : List ℕ
  placed = placed_after (length needs)

  -- the files that can't be placed, in command order
  abbrev pub unplaced : List ℕ
  unplaced = filter (λ k. not (is_among placed k)) numbers

-- the first so many of the files that each file needs are placed
abbrev pub AreKnown : List (List ℕ) → List ℕ → List ℕ → Type 0
AreKnown needs known placed = (k : ℕ) → k < length needs →
    list_all (is_among placed) (take (slice_index known k) (slice_index_or needs k [])) ≡ true
