-- Where each count is made of those of the parts, and no type contains itself, the counts are right.
use Rattle.std.proofs.Common.{◌≡◌, ℕ, zero, suc, ◌+◌, ◌*◌, ◌^◌, ◌<◌, ◌≤◌, List, [], ◌∷◌, ◌++◌, length, map, get_or, take, drop, sum_by, Option, Some, None, refl, sym, ap, ◌∙◌, subst, arith}
use Rattle.std.specs.Prelude.{Bool, true, false, if◌then◌else◌, slice_get}
use Rattle.std.specs.List.{flat_map}
use mathlib.Core.Logic.{◌⊎◌, inl, inr}
use Rattle.std.proofs.lemmas.Bool.{cases_lt}
use Rattle.std.proofs.lemmas.Option.{slice_get-get_or, slice_get_past, slice_get_within, slice_get_read}
use Rattle.std.proofs.lemmas.List.Sums.{sum_by-cons}
use Rattle.std.proofs.Math.Nat.{suc-mul}
use Rattle.std.proofs.lemmas.Bool.Decides.{nat_tests}
use Rattle.aos_base.specs.declared.limits.TheConstants.{MOST_SCALARS}
use Rattle.aos_types.specs.declared.row.TypeId.{TypeId}
use Rattle.aos_types.specs.declared.row.TypeRow.{TypeRow}
use Rattle.aos_types.specs.declared.row.TypeRow.TheVariants as row
use Rattle.aos_types.specs.Table.{row_of, is_object}
use Rattle.aos_types.specs.Shape as shape
use Rattle.aos_types.specs.Shape.{Shape, size, join}
use Rattle.aos_types.specs.Contents as contents
use Rattle.aos_types.specs.Contents.{with_parts, scalars, at_most}
use Rattle.aos_types.specs.Chain.{held, base_list, parts_of, IsOneOf, IsPartOf, IsRanked, NoneContainsItself}
use Rattle.aos_types.specs.Count.{capped, count_of, is_missing, of_variable, of_base, of_row, made, AreMade, AreFree, AreSettled, AreBelow, IsTable, within_limit}
use Rattle.aos_types.proofs.Reached.{one_of_left, one_of_right, begins_added}
use Rattle.aos_types.proofs.Path.{no_count}
use Rattle.aos_types.proofs.Ranks.{ranked}
use Rattle.aos_types.proofs.Tables.{by_parts}

-- the size of what is put together
size_join : (a b : Shape TypeId) → size (join a b) ≡ size a + size b
size_join (shape.One k) b = refl
size_join shape.Nothing b = omega arith
size_join (shape.Pair x y) b = let h = size_join y b in omega (arith, h)

size_repeated : (n : ℕ) (s : Shape TypeId) → size (shape.repeated n s) ≡ n * size s
size_repeated zero s = omega arith
size_repeated (suc n) s = let h = size_repeated n s in let m = suc-mul n (size s) in omega (arith, h, m)

module _ (rows : List TypeRow) (f : TypeId → Shape TypeId) where
  abbrev sizes : TypeId → ℕ
  sizes t = size (f t)

  size_if : (t : TypeId) (b : Bool) → size (if b then shape.One t else f t) ≡ (if b then 1 else sizes t)
  size_if t true = refl
  size_if t false = refl

  size_variable : (t : TypeId) → size (contents.of_variable f rows t) ≡ of_variable sizes rows t
  size_variable t = size_if t (is_object (row_of rows t))

  size_fields : (ts : List TypeId) → size (shape.row (map (contents.of_variable f rows) ts)) ≡ sum_by (of_variable sizes rows) ts
  size_fields [] = refl
  size_fields (t ∷ ts) =
      let a = size_variable t in
      let b = size_fields ts in
      (λ i. a i + b i) ∙ sym (sum_by-cons (of_variable sizes rows) t ts)

  size_base : (b : Option TypeId) → size (contents.of_base f b) ≡ of_base sizes b
  size_base None = refl
  size_base (Some b) = refl

  size_both : (b : Option TypeId) (ts : List TypeId) → size (join (contents.of_base f b) (shape.row (map (contents.of_variable f rows) ts))) ≡ of_base sizes b + sum_by (of_variable sizes rows) ts
  size_both b ts =
      let a = size_base b in
      let c = size_fields ts in
      size_join (contents.of_base f b) (shape.row (map (contents.of_variable f rows) ts)) ∙ (λ i. a i + c i)

  size_row : (t : TypeId) (o : Option TypeRow) → size (with_parts f rows t o) ≡ of_row sizes rows o
  size_row t None = refl
  size_row t (Some (row.Basic b)) = refl
  size_row t (Some (row.Array n of)) = size_repeated n (contents.of_variable f rows of) ∙ ap (λ m. n * m) (size_variable of)
  size_row t (Some (row.Open of)) = refl
  size_row t (Some (row.Record b fs)) = size_both b fs
  size_row t (Some (row.Pointer to)) = refl
  size_row t (Some (row.Object b fs)) = size_both b fs
  size_row t (Some (row.Procedure fs r)) = refl
  size_row t (Some row.Any) = refl

-- sums and products of numbers that agree up to the cap
capped_sum : (a b c d : ℕ) → capped a ≡ capped b → capped c ≡ capped d → capped (a + c) ≡ capped (b + d)
capped_sum a b c d e f = omega (arith, e, f)

capped_product : (n a b : ℕ) → capped a ≡ capped b → capped (n * a) ≡ capped (n * b)
capped_product zero a b e = omega arith
capped_product (suc n) a b e = at_case (cases_lt a (MOST_SCALARS + 1))
  where
    at_case : (a < MOST_SCALARS + 1) ⊎ (MOST_SCALARS + 1 ≤ a) → capped (suc n * a) ≡ capped (suc n * b)
    at_case (inl l) = let s : a ≡ b = omega (arith, e, l) in ap (λ z. capped (suc n * z)) s
    at_case (inr l) =
        let k : MOST_SCALARS + 1 ≤ b = omega (arith, e, l) in
        let x = suc-mul n a in
        let y = suc-mul n b in
        omega (arith, l, k, x, y)

module _ (rows : List TypeRow) (f g : TypeId → ℕ) where
  abbrev Agree : List TypeId → Type 0
  Agree ts = (p : TypeId) → IsOneOf p ts → capped (f p) ≡ capped (g p)

  like_if : (t : TypeId) (b : Bool) → Agree (if b then [] else t ∷ []) → capped (if b then 1 else f t) ≡ capped (if b then 1 else g t)
  like_if t true h = refl
  like_if t false h = h t (inl refl)

  like_variable : (t : TypeId) → Agree (held rows t) → capped (of_variable f rows t) ≡ capped (of_variable g rows t)
  like_variable t h = like_if t (is_object (row_of rows t)) h

  like_fields : (ts : List TypeId) → Agree (flat_map (held rows) ts) → capped (sum_by (of_variable f rows) ts) ≡ capped (sum_by (of_variable g rows) ts)
  like_fields [] h = refl
  like_fields (t ∷ ts) h =
      let a = like_variable t (λ p o. h p (one_of_left p (held rows t) (flat_map (held rows) ts) o)) in
      let b = like_fields ts (λ p o. h p (one_of_right p (held rows t) (flat_map (held rows) ts) o)) in
      ap capped (sum_by-cons (of_variable f rows) t ts) ∙ capped_sum (of_variable f rows t) (of_variable g rows t) (sum_by (of_variable f rows) ts) (sum_by (of_variable g rows) ts) a b ∙ sym (ap capped (sum_by-cons (of_variable g rows) t ts))

  like_base : (b : Option TypeId) → Agree (base_list b) → capped (of_base f b) ≡ capped (of_base g b)
  like_base None h = refl
  like_base (Some b) h = h b (inl refl)

  like_both : (b : Option TypeId) (ts : List TypeId) → Agree (base_list b ++ flat_map (held rows) ts) → capped (of_base f b + sum_by (of_variable f rows) ts) ≡ capped (of_base g b + sum_by (of_variable g rows) ts)
  like_both b ts h =
      capped_sum (of_base f b) (of_base g b) (sum_by (of_variable f rows) ts) (sum_by (of_variable g rows) ts) (like_base b (λ p o. h p (one_of_left p (base_list b) (flat_map (held rows) ts) o)))
      (like_fields ts (λ p o. h p (one_of_right p (base_list b) (flat_map (held rows) ts) o)))

  like_row : (o : Option TypeRow) → Agree (parts_of rows o) → capped (of_row f rows o) ≡ capped (of_row g rows o)
  like_row None h = refl
  like_row (Some (row.Basic b)) h = refl
  like_row (Some (row.Array n of)) h = capped_product n (of_variable f rows of) (of_variable g rows of) (like_variable of h)
  like_row (Some (row.Open of)) h = refl
  like_row (Some (row.Record b fs)) h = like_both b fs h
  like_row (Some (row.Pointer to)) h = refl
  like_row (Some (row.Object b fs)) h = like_both b fs h
  like_row (Some (row.Procedure fs r)) h = refl
  like_row (Some row.Any) h = refl

capped_twice : (a : ℕ) → capped (capped a) ≡ capped a
capped_twice a = omega arith

not_missing : (o : Option (Option ℕ)) → o ≡ Some None → is_missing o ≡ false → ⊥
not_missing o e f = let k : is_missing o ≡ true = ap is_missing e in cc

module _ (rows : List TypeRow) (counts : List (Option ℕ)) (long : length counts ≡ length rows) (all : AreMade rows counts) (whole : (t : TypeId) → t.0 < length rows → is_missing (slice_get counts t.0) ≡ false) (r : IsRanked rows) where
  scalars_row : (t : TypeId) → scalars rows t ≡ of_row (scalars rows) rows (row_of rows t)
  scalars_row t = ap size (by_parts rows r t) ∙ size_row rows (contents.contents rows) t (row_of rows t)

  there : (t : TypeId) → slice_get counts t.0 ≡ Some None → ⊥
  there t e =
      let l = slice_get_within counts t.0 None e in
      not_missing (slice_get counts t.0) e (whole t (omega (arith, l, long)))

  unadded : (t : TypeId) → slice_get counts t.0 ≡ None → slice_get rows t.0 ≡ None
  unadded t e = at_case (cases_lt t.0 (length rows))
    where
      at_case : (t.0 < length rows) ⊎ (length rows ≤ t.0) → slice_get rows t.0 ≡ None
      at_case (inl l) =
          absurd (no_count (slice_get counts t.0) (get_or counts t.0 None) e (slice_get-get_or counts t.0 None (omega (arith, l, long))))
      at_case (inr g) = slice_get_past rows t.0 g

  pub right : (n : ℕ) (t : TypeId) → r.rank t < n → capped (made counts t) ≡ capped (scalars rows t)
  right zero t l = absurd (omega arith)
  right (suc n) t l = at_count (slice_get counts t.0) refl (λ p o. right n p (let f = r.falls t p o in omega (arith, f, l)))
    where
      at_count : (o : Option (Option ℕ)) → slice_get counts t.0 ≡ o → ((p : TypeId) → IsPartOf rows p t → capped (made counts p) ≡ capped (scalars rows p)) → capped (made counts t) ≡ capped (scalars rows t)
      at_count None e below =
          ap (λ z. capped (count_of z)) e ∙ sym (ap capped (scalars_row t ∙ ap (λ o. of_row (scalars rows) rows o) (unadded t e)))
      at_count (Some None) e below = absurd (there t e)
      at_count (Some (Some m)) e below =
          let i = all t m e in
          ap (λ z. capped (count_of z)) e ∙ ap capped i.is ∙ capped_twice (of_row (made counts) rows (row_of rows t)) ∙ like_row rows (made counts) (scalars rows) (row_of rows t) below ∙ sym (ap capped (scalars_row t))

  pub settled : (t : TypeId) → t.0 < length rows → slice_get counts t.0 ≡ Some (Some (capped (scalars rows t)))
  settled t l = at_count (slice_get counts t.0) refl
    where
      at_count : (o : Option (Option ℕ)) → slice_get counts t.0 ≡ o → slice_get counts t.0 ≡ Some (Some (capped (scalars rows t)))
      at_count None e =
          absurd (no_count (slice_get counts t.0) (get_or counts t.0 None) e (slice_get-get_or counts t.0 None (omega (arith, l, long))))
      at_count (Some None) e = absurd (there t e)
      at_count (Some (Some m)) e =
          let i = all t m e in
          let x = of_row (made counts) rows (row_of rows t) in
          let k : m ≡ capped m = i.is ∙ sym (capped_twice x) ∙ ap capped (sym i.is) in
          e ∙ ap (λ z. Some (Some z)) (k ∙ sym (ap (λ z. capped (count_of z)) e) ∙ right (suc (r.rank t)) t (omega arith))

-- where all counts could be made, no type contains itself
pub none_contains : (rows : List TypeRow) (counts : List (Option ℕ)) → length counts ≡ length rows → AreFree rows counts → ((t : TypeId) → t.0 < length rows → is_missing (slice_get counts t.0) ≡ false) → NoneContainsItself rows
none_contains rows counts long free whole t way = at_count (slice_get counts t.0) refl (begins_added rows t t way)
  where
    at_count : (o : Option (Option ℕ)) → slice_get counts t.0 ≡ o → t.0 < length rows → ⊥
    at_count None e l =
        no_count (slice_get counts t.0) (get_or counts t.0 None) e (slice_get-get_or counts t.0 None (omega (arith, l, long)))
    at_count (Some None) e l = not_missing (slice_get counts t.0) e (whole t l)
    at_count (Some (Some n)) e l = free t n e way

-- a count that was made is kept
pub kept_made : (s s' : List (Option ℕ)) → ((p : TypeId) (n : ℕ) → slice_get s p.0 ≡ Some (Some n) → slice_get s' p.0 ≡ Some (Some n)) → (k : ℕ) → k < length s → is_missing (slice_get s k) ≡ false → is_missing (slice_get s' k) ≡ false
kept_made s s' kept k l h = at_count (slice_get s k) refl
  where
    at_count : (o : Option (Option ℕ)) → slice_get s k ≡ o → is_missing (slice_get s' k) ≡ false
    at_count None e = absurd (no_count (slice_get s k) (get_or s k None) e (slice_get-get_or s k None l))
    at_count (Some None) e = absurd (not_missing (slice_get s k) e h)
    at_count (Some (Some n)) e = ap is_missing (kept (record { 0 = k }) n e)

pub taken : {A : Type 0} (xs ys : List A) (n : ℕ) → n ≡ length xs → take n (xs ++ ys) ≡ xs
taken [] ys n e = subst (λ m. take m ys ≡ []) (sym e) refl
taken (x ∷ xs) ys n e = subst (λ m. take m (x ∷ (xs ++ ys)) ≡ x ∷ xs) (sym e) (ap (λ z. x ∷ z) (taken xs ys (length xs) refl))

-- what is kept after the counts were written
pub table_is : (rows : List TypeRow) (counts old : List (Option ℕ)) (n room above : ℕ) → length rows ≤ 2 ^ 32 → length counts ≡ length rows → length rows < room → ((k : ℕ) (r : TypeRow) → slice_get rows k ≡ Some r → AreBelow above r) → (NoneContainsItself rows → AreSettled rows counts (length rows)) → n ≡ length counts → IsTable rows (take n (counts ++ drop (length counts) old)) room above
table_is rows counts old n room above few long fits below settled e =
    subst (λ z. IsTable rows z room above) (sym (taken counts (drop (length counts) old) n e)) (record { few = few; long = long; fits = fits; below = below; settled = settled })

at_most_capped : (n : ℕ) → at_most MOST_SCALARS (capped n) ≡ at_most MOST_SCALARS n
at_most_capped n = at_case (cases_lt n (MOST_SCALARS + 1))
  where
    past : (m : ℕ) → MOST_SCALARS < m → at_most MOST_SCALARS m ≡ None
    past m l = grind (arith, nat_tests)

    at_case : (n < MOST_SCALARS + 1) ⊎ (MOST_SCALARS + 1 ≤ n) → at_most MOST_SCALARS (capped n) ≡ at_most MOST_SCALARS n
    at_case (inl l) = ap (at_most MOST_SCALARS) (let e : capped n ≡ n = omega (arith, l) in e)
    at_case (inr g) = past (capped n) (omega (arith, g)) ∙ sym (past n (omega (arith, g)))

-- what a count that is read comes to
pub limited : (rows : List TypeRow) (counts : List (Option ℕ)) (t : TypeId) (o : Option ℕ) → length counts ≡ length rows → (NoneContainsItself rows → AreSettled rows counts (length rows)) → NoneContainsItself rows → t.0 < length rows → o ≡ get_or counts t.0 o → within_limit o ≡ at_most MOST_SCALARS (scalars rows t)
limited rows counts t o long right free l e =
    let g = slice_get_read counts (length rows) t.0 o (sym long) l e in
    let m = right free in
    let r = settled rows counts long m.made m.whole (ranked rows free) t l in
    let f : Some o ≡ Some (Some (capped (scalars rows t))) = sym g ∙ r in
    let h : o ≡ Some (capped (scalars rows t)) = cc in
    ap within_limit h ∙ at_most_capped (scalars rows t)
