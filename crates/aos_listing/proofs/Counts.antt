-- How many cells parts have: a part's own ones, and those of one more part.
use Rattle.std.proofs.Common.{◌≡◌, ◌<◌, ◌≤◌, ℕ, zero, suc, ◌+◌, List, [], ◌∷◌, ◌++◌, length, get_or, take, map, replicate, true, false, Some, None, refl, ap, sym, ◌∙◌, arith}
use Rattle.std.specs.Prelude.{Bool, nat_lt, if◌then◌else◌}
use Rattle.std.proofs.lemmas.Bool.{ltb-false}
use Rattle.std.proofs.lemmas.List.{map-append}
use Rattle.std.proofs.lemmas.Option.{slice_get_past}
use Rattle.aos_base.specs.declared.limits.TheConstants.{MOST_SCALARS}
use Rattle.aos_types.specs.declared.row.TypeId.{TypeId}
use Rattle.aos_types.specs.declared.row.TypeRow.{TypeRow}
use Rattle.aos_types.specs.Table.{row_of, is_open, is_object}
use Rattle.aos_types.specs.Contents.{contents, unfolded, with_parts, scalars, variable_scalars}
use Rattle.aos_types.specs.Shape.{Shape, One, size, row}
use Rattle.aos_code.specs.declared.instr.Kind.TheVariants.{N}
use Rattle.aos_typed.specs.declared.tree.TType.{TType}
use Rattle.aos_typed.specs.Numbers.{id_of}
use Rattle.aos_typed.specs.Program.{Parameter}
use Rattle.aos_layout.specs.Layout.{kind_of, cells, shaped}
use Rattle.aos_layout.specs.Frame.{open_cells, open_dimensions, parameter_cells}
use Rattle.aos_layout.specs.TypeParts.{variable}
use Rattle.aos_layout.proofs.Frames.{size_shaped}
use Rattle.aos_dispatch.specs.Dispatch.{there_in}
use Rattle.aos_dispatch.proofs.Lists.{next_of}

-- a scalar has a cell, and what is no type has none
module _ (rows : List TypeRow) (t : TypeId) where
  pub part_counted : (n : ℕ) → n ≡ variable_scalars rows t → n ≡ size (cells rows t)
  part_counted n e = e ∙ sym (size_shaped (kind_of rows) (variable rows t))

  pub none_counted : row_of rows t ≡ None → 0 ≡ size (cells rows t)
  none_counted e = ap (λ r. size (shaped (kind_of rows) (if is_object r then One t else with_parts (unfolded (length rows) rows) rows t r))) (sym e)

  pub variable_within : scalars rows t ≤ MOST_SCALARS → variable_scalars rows t ≤ MOST_SCALARS
  variable_within le = by (is_object (row_of rows t))
    where
      by : (b : Bool) → size (if b then One t else contents rows t) ≤ MOST_SCALARS
      by true = omega arith
      by false = le

-- A type that is looked up is the one that was asked for, and one that isn't there has no row.
module _ (rows : List TypeRow) (of : TType) where
  pub there_is : (t : TypeId) → Some t ≡ there_in rows of → t ≡ id_of of
  there_is t e = by (nat_lt (id_of of).0 (length rows)) e
    where
      by : (b : Bool) → Some t ≡ (if b then Some (id_of of) else None) → t ≡ id_of of
      by true e = cc
      by false e = absurd (cc)

  pub absent : None ≡ there_in rows of → row_of rows (id_of of) ≡ None
  absent e = by (nat_lt (id_of of).0 (length rows)) refl e
    where
      by : (b : Bool) → nat_lt (id_of of).0 (length rows) ≡ b → None ≡ (if b then Some (id_of of) else None) → row_of rows (id_of of) ≡ None
      by true is e = absurd (cc)
      by false is e = slice_get_past rows (id_of of).0 (ltb-false (id_of of).0 (length rows) is)

-- an open array parameter has a cell for its place, and one for each length
pub open_size : (d n : ℕ) → n ≡ 1 + d → n ≡ size (open_cells d)
open_size d n e = let h = ones d in omega (arith, e, h)
  where
    ones : (k : ℕ) → size (row (replicate k (One N))) ≡ k
    ones zero = refl
    ones (suc k) = let h = ones k in omega (arith, h)

-- The forms of parameters.
module _ (rows : List TypeRow) (p : Parameter) (n : ℕ) where
  pub open_counted : is_open (row_of rows (id_of p.of)) ≡ true → n ≡ size (open_cells (open_dimensions rows (id_of p.of))) → n ≡ size (parameter_cells rows p)
  open_counted o e = rw o e

  pub plain_counted : is_open (row_of rows (id_of p.of)) ≡ false → p.by_reference ≡ false → n ≡ size (cells rows (id_of p.of)) → n ≡ size (parameter_cells rows p)
  plain_counted o r e = rw (o, r) e

-- Parts in a row.

pub size_both : {S : Type 0} (ss ts : List (Shape S)) → size (row (ss ++ ts)) ≡ size (row ss) + size (row ts)
size_both [] ts = let e : size (row ts) ≡ 0 + size (row ts) = omega arith in e
size_both (s ∷ ss) ts = let h = size_both ss ts in omega (arith, h)

pub sum_more : {A B S : Type 0} (part : B → Shape S) (see : A → B) (xs : List A) (i : ℕ) (x : A) → i < length xs → x ≡ get_or xs i x →
    (n k m : ℕ) → n ≡ size (row (map part (map see (take i xs)))) → k ≡ size (part (see x)) → m ≡ n + k → m ≡ size (row (map part (map see (take (i + 1) xs))))
sum_more part see xs i x lt at n k m so_far one both =
    let ys = map see (take i xs) in
    let joined : size (row (map part (map see (take (i + 1) xs)))) ≡ size (row (map part ys ++ part (see x) ∷ [])) =
    ap (λ l. size (row (map part l))) (next_of see xs i x lt at) ∙ ap (λ l. size (row l)) (map-append part ys (see x ∷ [])) in
    let sum : size (row (map part ys ++ part (see x) ∷ [])) ≡ size (row (map part ys)) + (size (part (see x)) + 0) = size_both (map part ys) (part (see x) ∷ []) in
    omega (arith, so_far, one, both, joined, sum)
