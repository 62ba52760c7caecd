-- The parts of types: how far bases lead, and the own parts behind those of the base.
use Rattle.std.proofs.Common.{◌≡◌, ℕ, zero, suc, ◌+◌, ◌*◌, ◌<◌, ◌≤◌, List, map, length, Option, Some, None, refl, sym, ap, ◌∙◌, arith}
use Rattle.std.proofs.lemmas.List.{length-map}
use Rattle.aos_types.specs.declared.row.TypeId.{TypeId}
use Rattle.aos_types.specs.declared.row.TypeRow.{TypeRow}
use Rattle.aos_types.specs.declared.row.TypeRow.TheVariants as row
use Rattle.aos_types.specs.Table.{row_of, base_of}
use Rattle.aos_types.specs.Shape as shape
use Rattle.aos_types.specs.Shape.{Nothing, size, join, part, before}
use Rattle.aos_types.specs.Contents.{contents, with_parts, of_base, levels}
use Rattle.aos_types.specs.Chain.{IsRanked, NoneContainsItself}
use Rattle.aos_types.proofs.Ranks.{ranked}
use Rattle.aos_types.proofs.Tables.{base_part, by_parts}
use Rattle.aos_layout.specs.TypeParts.{width, variable, fields, own_by, own, front, parts}
use Rattle.aos_layout.proofs.Joins.{width_row, width_repeated, part_repeated, before_repeated, width_join, size_join, join_assoc, row_ends, repeated_ends, part_first, before_first, part_second, before_second}

pub width_fields : (rows : List TypeRow) (ts : List TypeId) → width (fields rows ts) ≡ length ts
width_fields rows ts = width_row (map (variable rows) ts) ∙ length-map ts (variable rows)

-- what an array or a record has as its own parts
module _ (rows : List TypeRow) (t : TypeId) where
  module _ (n : ℕ) (of : TypeId) (e : row_of rows t ≡ Some (row.Array n of)) where
    own_array : own rows t ≡ shape.repeated n (variable rows of)
    own_array = ap (own_by rows t) e

    array_counted : (i : ℕ) → i < width (own rows t) → i < n
    array_counted i l = let h = ap width own_array ∙ width_repeated n (variable rows of) in omega (arith, h, l)

    pub array_part : (i : ℕ) → i < width (own rows t) → part i (own rows t) ≡ Some (variable rows of)
    array_part i l = ap (part i) own_array ∙ part_repeated n i (variable rows of) (array_counted i l)

    pub array_before : (i : ℕ) → i < width (own rows t) → before i (own rows t) ≡ i * size (variable rows of)
    array_before i l = ap (before i) own_array ∙ before_repeated n i (variable rows of) (array_counted i l)

  pub record_width : (b : Option TypeId) (ts : List TypeId) → row_of rows t ≡ Some (row.Record b ts) → width (own rows t) ≡ length ts
  record_width b ts e = ap (λ o. width (own_by rows t o)) e ∙ width_fields rows ts

  pub object_width : (b : Option TypeId) (ts : List TypeId) → row_of rows t ≡ Some (row.Object b ts) → width (own rows t) ≡ length ts
  object_width b ts e = ap (λ o. width (own_by rows t o)) e ∙ width_fields rows ts

-- how many bases there are above a type, at most so many
over : (TypeId → ℕ) → Option TypeId → ℕ
over f None = 0
over f (Some b) = suc (f b)

bases_by : ℕ → List TypeRow → TypeId → ℕ
bases_by zero rows t = 0
bases_by (suc n) rows t = over (bases_by n rows) (base_of (row_of rows t))

pub bases : List TypeRow → TypeId → ℕ
bases rows t = bases_by (levels rows) rows t

module _ (rows : List TypeRow) (free : NoneContainsItself rows) where
  abbrev ranks : IsRanked rows
  ranks = ranked rows free

  base_below : (t b : TypeId) → base_of (row_of rows t) ≡ Some b → ranks.rank b < ranks.rank t
  base_below t b e = ranks.falls t b (base_part rows (row_of rows t) b e)

  enough : (n m : ℕ) (t : TypeId) → ranks.rank t < n → ranks.rank t < m → bases_by n rows t ≡ bases_by m rows t
  unfolding bases_by over
  enough zero m t a b = absurd (omega arith)
  enough (suc n) zero t a b = absurd (omega arith)
  enough (suc n) (suc m) t a b = at_base (base_of (row_of rows t)) refl (λ c e. let f = base_below t c e in enough n m c (omega (arith, f, a)) (omega (arith, f, b)))
    where
      at_base : (o : Option TypeId) → base_of (row_of rows t) ≡ o → ((c : TypeId) → base_of (row_of rows t) ≡ Some c → bases_by n rows c ≡ bases_by m rows c) → over (bases_by n rows) o ≡ over (bases_by m rows) o
      at_base None e h = refl
      at_base (Some c) e h = ap (λ k. suc k) (h c e)

  few_by : (n : ℕ) (t : TypeId) → bases_by n rows t ≤ ranks.rank t
  unfolding bases_by over
  few_by zero t = omega arith
  few_by (suc n) t = at_base (base_of (row_of rows t)) refl (λ c. few_by n c)
    where
      at_base : (o : Option TypeId) → base_of (row_of rows t) ≡ o → ((c : TypeId) → bases_by n rows c ≤ ranks.rank c) → over (bases_by n rows) o ≤ ranks.rank t
      at_base None e h = omega arith
      at_base (Some c) e h = let f = base_below t c e in let g = h c in omega (arith, f, g)

  -- there are no more bases than types
  pub few_bases : (t : TypeId) → bases rows t ≤ length rows
  unfolding bases
  few_bases t = let a = few_by (levels rows) t in let b = ranks.bound t in omega (arith, a, b)

  -- a base has one base fewer above it
  pub fewer_bases : (t b : TypeId) → base_of (row_of rows t) ≡ Some b → suc (bases rows b) ≡ bases rows t
  unfolding bases bases_by over
  fewer_bases t b e =
      let f = base_below t b e in
      let g = ranks.bound t in
      ap (λ k. suc k) (enough (levels rows) (length rows) b (omega (arith, f, g)) (omega (arith, f, g))) ∙ sym (ap (over (bases_by (length rows) rows)) e)

  pub no_bases : (t : TypeId) → bases rows t ≡ 0 → base_of (row_of rows t) ≡ None
  no_bases t z = at_base (base_of (row_of rows t)) refl
    where
      at_base : (o : Option TypeId) → base_of (row_of rows t) ≡ o → base_of (row_of rows t) ≡ None
      at_base None e = e
      at_base (Some c) e = let f = fewer_bases t c e in absurd (omega (arith, f, z))

  -- all parts of a type: those of its base, and behind them its own
  pub parts_split : (t : TypeId) → parts rows t ≡ join (front rows t) (own rows t)
  parts_split t = ap (λ s. join s Nothing) (by_parts rows ranks t) ∙ at_row (row_of rows t)
    where
      both : (b : Option TypeId) (ts : List TypeId) → join (join (of_base (contents rows) b) (fields rows ts)) Nothing ≡ join (of_base (contents rows) b) (fields rows ts)
      both b ts = join_assoc (of_base (contents rows) b) (fields rows ts) Nothing ∙ ap (join (of_base (contents rows) b)) (row_ends (map (variable rows) ts))

      at_row : (o : Option TypeRow) → join (with_parts (contents rows) rows t o) Nothing ≡ join (of_base (contents rows) (base_of o)) (own_by rows t o)
      at_row None = refl
      at_row (Some (row.Basic b)) = refl
      at_row (Some (row.Array n of)) = repeated_ends n (variable rows of)
      at_row (Some (row.Open of)) = refl
      at_row (Some (row.Record b ts)) = both b ts
      at_row (Some (row.Pointer to)) = refl
      at_row (Some (row.Object b ts)) = both b ts
      at_row (Some (row.Procedure fs r)) = refl
      at_row (Some row.Any) = refl

  pub width_split : (t : TypeId) → width (contents rows t) ≡ width (front rows t) + width (own rows t)
  width_split t =
      let a = width_join (contents rows t) Nothing in
      let b = ap width (parts_split t) in
      let c = width_join (front rows t) (own rows t) in
      omega (arith, a, b, c)

  pub size_split : (t : TypeId) → size (contents rows t) ≡ size (front rows t) + size (own rows t)
  size_split t =
      let a = size_join (contents rows t) Nothing in
      let b = ap size (parts_split t) in
      let c = size_join (front rows t) (own rows t) in
      omega (arith, a, b, c)

  pub front_of : (t b : TypeId) → base_of (row_of rows t) ≡ Some b → front rows t ≡ contents rows b
  front_of t b e = ap (of_base (contents rows)) e

  -- a part that stands in the base
  module _ (t b : TypeId) (i : ℕ) (e : base_of (row_of rows t) ≡ Some b) (l : i < width (front rows t)) where
    pub part_in_base : part i (parts rows t) ≡ part i (parts rows b)
    part_in_base = ap (part i) (parts_split t) ∙ part_first i (front rows t) (own rows t) l ∙ ap (λ s. part i (join s Nothing)) (front_of t b e)

    pub before_in_base : before i (parts rows t) ≡ before i (parts rows b)
    before_in_base = ap (before i) (parts_split t) ∙ before_first i (front rows t) (own rows t) l ∙ ap (λ s. before i (join s Nothing)) (front_of t b e)

  pub base_smaller : (t b : TypeId) → base_of (row_of rows t) ≡ Some b → size (contents rows b) ≤ size (contents rows t)
  base_smaller t b e = let s = size_split t in let f = ap size (front_of t b e) in omega (arith, s, f)

  -- one of the type's own parts
  module _ (t : TypeId) (i k : ℕ) (e : i ≡ width (front rows t) + k) where
    pub part_in_own : part i (parts rows t) ≡ part k (own rows t)
    part_in_own = ap (part i) (parts_split t) ∙ part_second i k (front rows t) (own rows t) e

    pub before_in_own : before i (parts rows t) ≡ size (front rows t) + before k (own rows t)
    before_in_own = ap (before i) (parts_split t) ∙ before_second i k (front rows t) (own rows t) e
