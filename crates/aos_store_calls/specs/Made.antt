-- What the store answers that is asked for an object.
use Rattle.std.specs.Prelude.{◌≡◌, ℕ, ◌+◌, List, [], Bool, true, false, Option, Some, None, Result, Ok, Err, map, sum_by, nat_le}
use Rattle.aos_base.specs.declared.limits.TheConstants.{MOST_SCALARS}
use Rattle.aos_code.specs.declared.instr.Cell.{Cell}
use Rattle.aos_code.specs.declared.image.TypeDesc.{TypeDesc}
use Rattle.aos_code.specs.Memory.{Memory, counted, new_number, with_object}
use Rattle.aos_code.specs.Machine.{first_cell, in_rows}
use Rattle.aos_store_calls.specs.declared.objects.StoreErr.{StoreErr}
use Rattle.aos_store_calls.specs.declared.objects.StoreErr.TheVariants.{Full, NoMemory}

-- the cells with which an object of a type begins, an open array of these lengths
abbrev pub new_cells : TypeDesc → List ℕ → List Cell
new_cells d ns = in_rows [] ns (map first_cell d.kinds.items)

-- a heap with these objects has room for these cells
abbrev pub has_place : List Cell → List (List Cell) → Bool
has_place cells objects = nat_le (counted cells + sum_by counted objects) MOST_SCALARS

-- of a type by its number, with these lengths
module _ (t : ℕ) (ns : List ℕ) (old new : Memory) where
  -- an object of this type is made exactly where there is room for it
  abbrev pub IsMadeAs : TypeDesc → Result ℕ StoreErr → Type 0
  IsMadeAs d (Ok o) =
      (has_place (new_cells d ns) old.objects ≡ true) × (o ≡ new_number old)
      × (new ≡ with_object (record { type = t; lengths = ns }) (new_cells d ns) old)
  IsMadeAs d (Err Full) = (has_place (new_cells d ns) old.objects ≡ false) × (new ≡ old)
  IsMadeAs d (Err NoMemory) = (has_place (new_cells d ns) old.objects ≡ true) × (new ≡ old)

  -- none of a type that isn't there
  abbrev pub IsMadeOf : Option TypeDesc → Result ℕ StoreErr → Type 0
  IsMadeOf None r = (r ≡ Err Full) × (new ≡ old)
  IsMadeOf (Some d) r = IsMadeAs d r
