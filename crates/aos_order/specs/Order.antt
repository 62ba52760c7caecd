-- The load order of files, or the first of the rules 8 to 10 that they break. A module is loaded behind those that it
-- imports; Out is always there (Oberon-2 report, section on modules; Oakwood Guidelines, module Out).
use Rattle.std.specs.Prelude.{◌≡◌, ℕ, ◌<◌, Bool, not, ◌||◌, List, [], ◌∷◌, Option, Some, None, Result, Ok, Err, is_some, codes, if◌then◌else◌, map, length, take, find, position, slice_get, slice_index_or, option_map, option_and_then, filter_map, All, Vec}
use Rattle.std.specs.List.{list_any, position_or_len, range_with_len}
use Rattle.std.specs.Str.{bytes_eq}
use Rattle.std.specs.declared.alloc.Global.{Global}
use Rattle.aos_base.specs.declared.text.Pos.{Pos}
use Rattle.aos_order.specs.declared.order_err.OrderErr.{OrderErr}
use Rattle.aos_order.specs.declared.order_err.OrderErr.TheVariants as err
use Rattle.aos_order.specs.Files.{File, Wanted}
use Rattle.aos_order.specs.Placing.{placed, unplaced}

abbrev pub names : List File → List (List ℕ)
names files = map (λ f. f.name) files

-- an earlier file has this one's name
abbrev pub is_again : List (List ℕ) → ℕ → Bool
is_again names k = list_any (bytes_eq (slice_index_or names k [])) (take k names)

-- the earlier file that has it, and this one
abbrev pub repetition : List (List ℕ) → ℕ → ℕ × ℕ
repetition names k = (position_or_len (bytes_eq (slice_index_or names k [])) (take k names), k)

-- rule 8: the first file whose name an earlier one has
abbrev pub twice : List (List ℕ) → Option (ℕ × ℕ)
twice names = option_map (repetition names) (find (is_again names) (range_with_len 0 (length names)))

abbrev pub is_out : List ℕ → Bool
is_out name = bytes_eq (codes "Out") name

-- the file of a module's name
abbrev pub file_of : List (List ℕ) → List ℕ → Option ℕ
file_of names name = position (bytes_eq name) names

-- a module that is neither Out nor given
abbrev pub is_absent : List (List ℕ) → Wanted → Bool
is_absent names w = not (is_out w.name || is_some (file_of names w.name))

-- the first import of a file that isn't given
abbrev pub first_absent : List (List ℕ) → File → Option Wanted
first_absent names f = find (is_absent names) f.imports

-- the file that imports it, and where its name stands
abbrev pub absence : ℕ → Wanted → ℕ × Pos
absence k w = (k, w.at)

abbrev pub absent_in : List File → ℕ → Option Wanted
absent_in files k = option_and_then (first_absent (names files)) (slice_get files k)

-- rule 9: the first file that imports a module that isn't given, with the place of that module's name
abbrev pub absent : List File → Option (ℕ × Pos)
absent files =
    option_and_then (λ k. option_map (absence k) (absent_in files k))
    (find (λ k. is_some (absent_in files k)) (range_with_len 0 (length files)))

-- the file that an import needs; Out needs none
abbrev pub needed : List (List ℕ) → Wanted → Option ℕ
needed names w = if is_out w.name then None else file_of names w.name

abbrev pub needs : List File → List (List ℕ)
needs files = map (λ f. filter_map (needed (names files)) f.imports) files

-- what is said of files
pub data Answer : Type 0 where
  Order : List ℕ → Answer
  Twice : ℕ → ℕ → Answer
  Absent : ℕ → Pos → Answer
  Cycle : List ℕ → Answer

-- rule 8 comes first, then rule 9, and then rule 10, where some files can't be placed
abbrev pub first_of : Option (ℕ × ℕ) → Option (ℕ × Pos) → List ℕ → List ℕ → Answer
first_of (Some p) absent order left = Twice p.0 p.1
first_of None (Some p) order left = Absent p.0 p.1
first_of None None order [] = Order order
first_of None None order (k ∷ ks) = Cycle (k ∷ ks)

abbrev pub answer : List File → Answer
answer files = first_of (twice (names files)) (absent files) (placed (needs files)) (unplaced (needs files))

-- the answer of a call; want of memory says nothing of the files
abbrev pub Gives : Answer → Result (Vec ℕ Global) OrderErr → Type 0
Gives a (Ok order) = a ≡ Order order.items
Gives a (Err (err.Twice i k)) = a ≡ Twice i k
Gives a (Err (err.Absent k at)) = a ≡ Absent k at
Gives a (Err (err.Cycle left)) = a ≡ Cycle left.items
Gives a (Err err.NoMemory) = Unit

-- each number is that of one of so many files, and a cycle has files
abbrev pub NamesFiles : ℕ → Result (Vec ℕ Global) OrderErr → Type 0
NamesFiles n (Ok order) = All (λ k. k < n) order.items
NamesFiles n (Err (err.Twice i k)) = (i < k) × (k < n)
NamesFiles n (Err (err.Absent k at)) = k < n
NamesFiles n (Err (err.Cycle left)) = (0 < length left.items) × All (λ k. k < n) left.items
NamesFiles n (Err err.NoMemory) = Unit

-- want of memory, or a broken one of the rules 8 and 9
abbrev pub IsRefused : Option (ℕ × ℕ) → Option (ℕ × Pos) → OrderErr → Type 0
IsRefused again lacking (err.Twice i k) = again ≡ Some (i, k)
IsRefused again lacking (err.Absent k at) = lacking ≡ Some (k, at)
IsRefused again lacking (err.Cycle left) = ⊥
IsRefused again lacking err.NoMemory = Unit
