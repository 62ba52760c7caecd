-- Open arrays: how many dimensions are open, and what is behind them (Oberon-2 report, 10.1).
use Rattle.std.specs.Prelude.{ℕ, zero, suc, List, length, Option, Some, None, if◌then◌else◌}
use Rattle.aos_types.specs.declared.row.TypeId.{TypeId}
use Rattle.aos_types.specs.declared.row.TypeRow.{TypeRow}
use Rattle.aos_types.specs.Table.{row_of}
use Rattle.aos_types.specs.Sameness.{element_of, same}

-- how many dimensions of a type are open, at most so many
abbrev pub open_by : ℕ → List TypeRow → TypeId → ℕ
open_by n rows t = counted n (element_of (row_of rows t))
  where
    counted : ℕ → Option TypeId → ℕ
    counted zero of = 0
    counted (suc n) None = 0
    counted (suc n) (Some of) = suc (counted n (element_of (row_of rows of)))

-- an open array that doesn't contain itself has fewer dimensions than there are types
abbrev pub open_dimensions : List TypeRow → TypeId → ℕ
open_dimensions rows t = open_by (length rows) rows t

-- what is left of a type behind so many open dimensions
abbrev pub behind : ℕ → List TypeRow → TypeId → TypeId
behind zero rows t = t
behind (suc n) rows t = next (λ of. behind n rows of) (element_of (row_of rows t))
  where
    next : (TypeId → TypeId) → Option TypeId → TypeId
    next rest None = t
    next rest (Some of) = rest of

abbrev pub open_element : List TypeRow → TypeId → TypeId
open_element rows t = behind (length rows) rows t

-- the first type in the table that is the same as this one, by which the objects of all types that are the same are known
abbrev pub first_from : ℕ → ℕ → List TypeRow → TypeId → TypeId
first_from zero k rows t = t
first_from (suc n) k rows t = if same rows (record { 0 = k }) t then record { 0 = k } else first_from n (suc k) rows t

abbrev pub first_same : List TypeRow → TypeId → TypeId
first_same rows t = first_from (length rows) 0 rows t
