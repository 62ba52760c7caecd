-- How many scalars the variables of a module have: as many where the table of types goes on, and in the typed program.
use Rattle.std.proofs.Common.{◌≡◌, ℕ, ◌+◌, ◌<◌, ◌≤◌, List, [], ◌∷◌, length, map, Bool, true, false, Option, Some, None, slice_get, sum_by, if◌then◌else◌, refl, sym, ap, ◌∙◌, arith}
use Rattle.std.proofs.lemmas.List.Sums.{sum_by-cons}
use Rattle.std.proofs.lemmas.Option.{slice_get_within}
use Rattle.aos_types.specs.declared.row.TypeId.{TypeId}
use Rattle.aos_types.specs.declared.row.TypeRow.{TypeRow}
use Rattle.aos_types.specs.Table.{row_of, is_object}
use Rattle.aos_types.specs.Shape.{One, size}
use Rattle.aos_types.specs.Contents.{contents, variable_scalars}
use Rattle.aos_types.specs.Chain.{NoneContainsItself}
use Rattle.aos_types.specs.Count.{AreBelow}
use Rattle.aos_typed.specs.Numbers.{id_of}
use Rattle.aos_typed.specs.Program.{Variable}
use Rattle.aos_symbols.proofs.Each.{Each}
use Rattle.aos_symbols.proofs.Told.{IsTold, basic, of_any, defined, IsKnown}
use Rattle.aos_known.specs.Known.{type_of}
use Rattle.aos_check_types.proofs.TypingTables.{scalars_stay}
use Rattle.aos_check_decl.proofs.Typing.{variable_cells}
use Rattle.aos_compile.proofs.TypingTypes.{RowsStay, number_is, told_number}

-- A table that goes on from another, whose rows stay.

module _ (rows rows' : List TypeRow) (ten : 10 ≤ length rows) (below : (k : ℕ) (r : TypeRow) → slice_get rows k ≡ Some r → AreBelow (length rows) r) (stays : RowsStay rows rows')
    (free : NoneContainsItself rows) (free' : NoneContainsItself rows') where
  variable_stays : (t : TypeId) → t.0 < length rows → variable_scalars rows' t ≡ variable_scalars rows t
  variable_stays t within = ap (λ r. size (if is_object r then One t else contents rows' t)) (stays t.0 within) ∙ by (is_object (row_of rows t))
    where
      by : (b : Bool) → size (if b then One t else contents rows' t) ≡ size (if b then One t else contents rows t)
      by true = refl
      by false = scalars_stay rows rows' below stays free free' t within

  told_within : (t : TypeId) → IsTold rows t → t.0 < length rows
  told_within t (basic low) = omega (arith, low, ten)
  told_within t (of_any is) = omega (arith, is, ten)
  told_within t (defined r from is closed) = slice_get_within rows t.0 r is

  cells_stay : (of : Option TypeId) → IsKnown rows of → variable_cells rows' of ≡ variable_cells rows of
  cells_stay None known = absurd known
  cells_stay (Some t) known = variable_stays t (told_within t known)

  pub sum_stays : (ofs : List (Option TypeId)) → Each (IsKnown rows) ofs → sum_by (variable_cells rows') ofs ≡ sum_by (variable_cells rows) ofs
  sum_stays [] each = refl
  sum_stays (of ∷ ofs) each =
      sum_by-cons (variable_cells rows') of ofs
      ∙ (λ i. cells_stay of each.0 i + sum_stays ofs each.1 i)
      ∙ sym (sum_by-cons (variable_cells rows) of ofs)

-- The typed program.

first_is : {X : Type 0} (x y : X) (xs ys : List X) → x ∷ xs ≡ y ∷ ys → x ≡ y
first_is x y xs ys e = cc

rest_is : {X : Type 0} (x y : X) (xs ys : List X) → x ∷ xs ≡ y ∷ ys → xs ≡ ys
rest_is x y xs ys e = cc

not_more : {X : Type 0} (x : X) (xs : List X) → [] ≡ x ∷ xs → ⊥
not_more x xs e = cc

module _ (rows : List TypeRow) where
  abbrev variable_size : Variable → ℕ
  variable_size v = variable_scalars rows (id_of v.of)

  cell_is : (of : Option TypeId) → IsKnown rows of → variable_scalars rows (id_of (type_of of)) ≡ variable_cells rows of
  cell_is None known = absurd known
  cell_is (Some t) known = ap (variable_scalars rows) (number_is t (told_number rows t known))

  pub sum_typed : (vs : List Variable) (ofs : List (Option TypeId)) → map (λ v. v.of) vs ≡ map type_of ofs → Each (IsKnown rows) ofs →
      sum_by (λ (v : Variable). variable_scalars rows (id_of v.of)) vs ≡ sum_by (variable_cells rows) ofs
  sum_typed [] [] e each = refl
  sum_typed [] (of ∷ ofs) e each = absurd (not_more (type_of of) (map type_of ofs) e)
  sum_typed (v ∷ vs) [] e each = absurd (not_more v.of (map (λ v. v.of) vs) (sym e))
  sum_typed (v ∷ vs) (of ∷ ofs) e each =
      let one = ap (λ t. variable_scalars rows (id_of t)) (first_is v.of (type_of of) (map (λ v. v.of) vs) (map type_of ofs) e) ∙ cell_is of each.0 in
      let more = sum_typed vs ofs (rest_is v.of (type_of of) (map (λ v. v.of) vs) (map type_of ofs) e) each.1 in
      sum_by-cons variable_size v vs ∙ (λ i. one i + more i) ∙ sym (sum_by-cons (variable_cells rows) of ofs)
