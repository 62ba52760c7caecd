-- Which types contain themselves: a chain of elements, fields and bases leads from one back to it (Oberon-2 report, 6.3, and
-- Reali 2002). Pointers, and what is of an object type, end a chain.
use Rattle.std.specs.Prelude.{◌≡◌, ℕ, zero, suc, ◌<◌, ◌==◌, ◌||◌, List, [], ◌∷◌, ◌++◌, length, map, Bool, false, if◌then◌else◌, Option, Some, None}
use Rattle.std.specs.List.{flat_map, list_any, range_with_len}
use mathlib.Core.Logic.{◌⊎◌}
use Rattle.aos_types.specs.declared.row.TypeId.{TypeId}
use Rattle.aos_types.specs.declared.row.TypeRow.{TypeRow}
use Rattle.aos_types.specs.declared.row.TypeRow.TheVariants as row
use Rattle.aos_types.specs.Table.{row_of, is_object}
use Rattle.aos_types.specs.Contents.{levels}

-- the type that an element or a field has by value
abbrev pub held : List TypeRow → TypeId → List TypeId
held rows t = (if is_object (row_of rows t) then [] else t ∷ [])

abbrev pub base_list : Option TypeId → List TypeId
base_list None = []
base_list (Some b) = b ∷ []

-- the types that a type has by value, and its base
abbrev pub parts_of : List TypeRow → Option TypeRow → List TypeId
parts_of rows (Some (row.Array n t)) = held rows t
parts_of rows (Some (row.Open t)) = held rows t
parts_of rows (Some (row.Record base fields)) = base_list base ++ flat_map (held rows) fields
parts_of rows (Some (row.Object base fields)) = base_list base ++ flat_map (held rows) fields
parts_of rows _ = []

abbrev pub IsOneOf : TypeId → List TypeId → Type 0
IsOneOf t [] = ⊥
IsOneOf t (x ∷ xs) = (x ≡ t) ⊎ IsOneOf t xs

abbrev pub IsPartOf : List TypeRow → TypeId → TypeId → Type 0
IsPartOf rows p t = IsOneOf p (parts_of rows (row_of rows t))

-- each is a part of the one before it
abbrev pub IsChain : List TypeRow → TypeId → List TypeId → Type 0
IsChain rows t [] = Unit {0}
IsChain rows t (p ∷ ps) = IsPartOf rows p t × IsChain rows p ps

-- a chain leads from one type to the other
pub record LeadsTo (rows : List TypeRow) (t p : TypeId) : Type 0 where
  pub between : List TypeId
  pub chain : IsChain rows t (between ++ p ∷ [])

abbrev pub ContainsItself : List TypeRow → TypeId → Type 0
ContainsItself rows t = LeadsTo rows t t

-- no type contains itself
abbrev pub NoneContainsItself : List TypeRow → Type 0
NoneContainsItself rows = (t : TypeId) → ContainsItself rows t → ⊥

-- types stand above their parts
pub record IsRanked (rows : List TypeRow) : Type 0 where
  pub rank : TypeId → ℕ
  pub bound : (t : TypeId) → rank t < levels rows
  pub falls : (t p : TypeId) → IsPartOf rows p t → rank p < rank t

-- whether a chain of at most so many parts leads from one type to another
abbrev pub leads_by : ℕ → List TypeRow → TypeId → TypeId → Bool
leads_by zero rows t p = false
leads_by (suc n) rows t p = list_any (λ q. q.0 == p.0 || leads_by n rows q p) (parts_of rows (row_of rows t))

-- whether a type contains itself. More parts than there are types lead to nothing new
abbrev pub contains_itself : List TypeRow → TypeId → Bool
contains_itself rows t = leads_by (length rows) rows t t

-- for each type whether it contains itself
abbrev pub circles : List TypeRow → List Bool
circles rows = map (λ k. contains_itself rows (record { 0 = k })) (range_with_len 0 (length rows))

-- each of these types becomes a record without fields
abbrev pub cut : List Bool → List TypeRow → List TypeRow
cut [] rows = rows
cut (b ∷ bs) [] = []
cut (b ∷ bs) (r ∷ rows) = (if b then row.Record None [] else r) ∷ cut bs rows
