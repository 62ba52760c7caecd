-- Extension: the closure of the base relation (Oberon-2 report, 6.3; Reali 2002, object types). A pointer type extends another
-- where the record type that it leads to extends the other's (Oberon-2 report, 6.4).
use Rattle.std.specs.Prelude.{◌≡◌, ℕ, zero, suc, ◌==◌, ◌||◌, if◌then◌else◌, List, [], ◌∷◌, length, Bool, false, Option, Some, None}
use Rattle.aos_types.specs.declared.row.TypeId.{TypeId}
use Rattle.aos_types.specs.declared.row.TypeRow.{TypeRow}
use Rattle.aos_types.specs.declared.row.TypeRow.TheVariants as row
use Rattle.aos_types.specs.Table.{row_of, is_record, is_pointer, base_of, on_both}

abbrev pub on_base : (TypeId → Bool) → Option TypeId → Bool
on_base f None = false
on_base f (Some b) = f b

-- whether at most so many bases lead from one type to the other
abbrev pub comes_by : ℕ → List TypeRow → TypeId → TypeId → Bool
comes_by zero rows a b = a.0 == b.0
comes_by (suc n) rows a b = (a.0 == b.0) || on_base (λ c. comes_by n rows c b) (base_of (row_of rows a))

-- whether bases lead from one type to the other. More of them than there are types lead to nothing new
abbrev pub comes_to : List TypeRow → TypeId → TypeId → Bool
comes_to rows a b = comes_by (length rows) rows a b

-- the record type that a pointer type leads to
abbrev pub record_below : List TypeRow → Option TypeRow → Option TypeId
record_below rows (Some (row.Pointer t)) = (if is_record (row_of rows t) then Some t else None)
record_below rows _ = None

-- whether a pointer type extends another
abbrev pub extends_pointer : List TypeRow → TypeId → TypeId → Bool
extends_pointer rows a b =
    (a.0 == b.0) || on_both (comes_to rows) (record_below rows (row_of rows a)) (record_below rows (row_of rows b))

-- whether one type extends the other. Each type extends itself
abbrev pub extends : List TypeRow → TypeId → TypeId → Bool
extends rows a b = (if is_pointer (row_of rows b) then extends_pointer rows a b else comes_to rows a b)

-- each is the base of the one before it, and the last is this one
abbrev pub AreBases : List TypeRow → TypeId → List TypeId → TypeId → Type 0
AreBases rows a [] b = a ≡ b
AreBases rows a (x ∷ xs) b = (base_of (row_of rows a) ≡ Some x) × AreBases rows x xs b

-- the closure of the base relation
pub record BasesLead (rows : List TypeRow) (a b : TypeId) : Type 0 where
  pub bases : List TypeId
  pub are : AreBases rows a bases b
