-- Types that the table hasn't have no scalars.
use Rattle.std.proofs.Common.{◌≡◌, ◌≤◌, ℕ, List, length, Bool, true, false, nat_lt, nat_le, Some, None, if◌then◌else◌, refl, ap, arith}
use Rattle.std.specs.Prelude.{not, ◌&&◌, unwrap_or}
use Rattle.std.specs.Option.{is_none}
use Rattle.std.specs.List.{list_any}
use Rattle.std.proofs.lemmas.Bool.{leb-true, leb-false, ltb-true, ltb-false}
use Rattle.std.proofs.lemmas.Option.{slice_get_past}
use Rattle.aos_base.specs.declared.limits.TheConstants.{MOST_SCALARS}
use Rattle.aos_types.specs.declared.row.TypeId.{TypeId}
use Rattle.aos_types.specs.declared.row.TypeRow.{TypeRow}
use Rattle.aos_types.specs.Table.{row_of, is_object}
use Rattle.aos_types.specs.Shape.{One, size}
use Rattle.aos_types.specs.Contents.{with_parts, unfolded, scalars, variable_scalars, at_most}
use Rattle.aos_types.specs.Chain.{parts_of}
use Rattle.aos_types.specs.Limit.{is_past, is_first_past}
use Rattle.aos_check_types.specs.Limits.{counted, has_parts}

-- a number past a limit is none at most that
past_most : (m n : ℕ) (a b : Bool) → nat_le n m ≡ a → nat_lt m n ≡ b → is_none (if a then Some n else None) ≡ b
past_most m n true true e f = absurd (omega (arith, leb-true n m e, ltb-true m n f))
past_most m n true false e f = refl
past_most m n false true e f = refl
past_most m n false false e f = absurd (omega (arith, leb-false n m e, ltb-false m n f))

pub past_is : (rows : List TypeRow) (t : TypeId) → is_none (at_most MOST_SCALARS (scalars rows t)) ≡ is_past rows t
past_is rows t = past_most MOST_SCALARS (scalars rows t) (nat_le (scalars rows t) MOST_SCALARS) (nat_lt MOST_SCALARS (scalars rows t)) refl refl

no_scalars : (rows : List TypeRow) (t : TypeId) → length rows ≤ t.0 → scalars rows t ≡ 0
no_scalars rows t le = ap (λ r. size (with_parts (unfolded (length rows) rows) rows t r)) (slice_get_past rows t.0 le)

no_variable : (rows : List TypeRow) (t : TypeId) → length rows ≤ t.0 → variable_scalars rows t ≡ 0
no_variable rows t le =
    ap (λ r. size (if is_object r then One t else with_parts (unfolded (length rows) rows) rows t r)) (slice_get_past rows t.0 le)

pub none_past : (rows : List TypeRow) (t : TypeId) → length rows ≤ t.0 → is_past rows t ≡ false
none_past rows t le = ap (λ n. nat_lt MOST_SCALARS n) (no_scalars rows t le)

pub none_first_past : (rows : List TypeRow) (t : TypeId) → length rows ≤ t.0 → is_first_past rows t ≡ false
none_first_past rows t le = ap (λ b. b && not (list_any (is_past rows) (parts_of rows (row_of rows t)))) (none_past rows t le)

pub none_counted : (flags : List Bool) (rows : List TypeRow) (t : TypeId) → length rows ≤ t.0 → counted flags rows (Some t) ≡ 0
none_counted flags rows t le = ap (λ n. unwrap_or (at_most MOST_SCALARS n) 0) (no_variable rows t le)

pub none_has_parts : (flags : List Bool) (rows : List TypeRow) (t : TypeId) → length rows ≤ t.0 → has_parts flags rows (row_of rows t) ≡ false
none_has_parts flags rows t le = ap (λ r. has_parts flags rows r) (slice_get_past rows t.0 le)
