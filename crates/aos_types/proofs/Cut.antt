-- Where each type that contains itself becomes a record without fields, none is left that does: a circle of the new table has
-- none of these types on it, so it was one of the old table.
use Rattle.std.proofs.Common.{◌≡◌, ℕ, zero, suc, ◌+◌, ◌<◌, List, [], ◌∷◌, ◌++◌, length, map, get_or, take, drop, Option, Some, None, refl, sym, ap, ◌∙◌, subst, arith}
use Rattle.std.specs.Prelude.{Bool, true, false, if◌then◌else◌, slice_get, slice_set, replicate}
use Rattle.std.specs.List.{flat_map, range_with_len}
use mathlib.Core.Logic.{◌⊎◌, inl, inr}
use Rattle.std.proofs.lemmas.Bool.{cases_Bool}
use Rattle.std.proofs.lemmas.List.FromFn.{get_or-map-range_with_len, length-map-range_with_len}
use Rattle.aos_types.specs.declared.row.TypeId.{TypeId}
use Rattle.aos_types.specs.declared.row.TypeRow.{TypeRow}
use Rattle.aos_types.specs.declared.row.TypeRow.TheVariants as row
use Rattle.aos_types.specs.Table.{row_of, is_object}
use Rattle.aos_types.specs.Chain.{held, base_list, parts_of, IsOneOf, IsPartOf, IsChain, ContainsItself, NoneContainsItself, contains_itself, circles, cut}
use Rattle.aos_types.specs.Count.{named_in}
use Rattle.aos_types.proofs.Reached.{one_of_left, one_of_right, one_of_both, begins_added}
use Rattle.aos_types.proofs.Circles.{circle_test}
use Rattle.aos_types.proofs.Settled.{taken}
use Rattle.aos_types.proofs.Appended.{AllBelow}

-- one more type is looked at
pub cut_one : (bs : List Bool) (rows : List TypeRow) (n : ℕ) → n < length bs → n < length rows → get_or bs n false ≡ true → cut (take (suc n) bs) rows ≡ slice_set (cut (take n bs) rows) n (row.Record None [])
cut_one [] rows n l k e = absurd (omega arith)
cut_one (b ∷ bs) [] n l k e = absurd (omega arith)
cut_one (true ∷ bs) (r ∷ rows) zero l k e = refl
cut_one (false ∷ bs) (r ∷ rows) zero l k e = absurd (cc)
cut_one (b ∷ bs) (r ∷ rows) (suc n) l k e =
    ap (λ z. (if b then row.Record None [] else r) ∷ z) (cut_one bs rows n (omega arith) (omega arith) e)

pub cut_not : (bs : List Bool) (rows : List TypeRow) (n : ℕ) → n < length bs → n < length rows → get_or bs n false ≡ false → cut (take (suc n) bs) rows ≡ cut (take n bs) rows
cut_not [] rows n l k e = absurd (omega arith)
cut_not (b ∷ bs) [] n l k e = absurd (omega arith)
cut_not (true ∷ bs) (r ∷ rows) zero l k e = absurd (cc)
cut_not (false ∷ bs) (r ∷ rows) zero l k e = refl
cut_not (b ∷ bs) (r ∷ rows) (suc n) l k e =
    ap (λ z. (if b then row.Record None [] else r) ∷ z) (cut_not bs rows n (omega arith) (omega arith) e)

pub cut_long : (bs : List Bool) (rows : List TypeRow) → length (cut bs rows) ≡ length rows
cut_long [] rows = refl
cut_long (b ∷ bs) [] = refl
cut_long (b ∷ bs) (r ∷ rows) = ap (λ n. suc n) (cut_long bs rows)

cut_gives : (bs : List Bool) (rows : List TypeRow) (k : ℕ) (q : TypeRow) → slice_get (cut bs rows) k ≡ Some q → (slice_get rows k ≡ Some q) ⊎ (q ≡ row.Record None [])
cut_gives [] rows k q e = inl e
cut_gives (b ∷ bs) [] k q e = inl e
cut_gives (true ∷ bs) (r ∷ rows) zero q e = inr (cc)
cut_gives (false ∷ bs) (r ∷ rows) zero q e = inl e
cut_gives (b ∷ bs) (r ∷ rows) (suc k) q e = cut_gives bs rows k q e

pub below_cut : (bs : List Bool) (rows : List TypeRow) (n : ℕ) → AllBelow n rows → AllBelow n (cut bs rows)
below_cut bs rows n all k q e p o = at_row (cut_gives bs rows k q e)
  where
    at_row : (slice_get rows k ≡ Some q) ⊎ (q ≡ row.Record None []) → p.0 < n
    at_row (inl f) = all k q f p o
    at_row (inr f) = absurd (subst (λ z. IsOneOf p (named_in z)) f o)

-- a type keeps its row where its mark is false, and has no parts where it isn't
kept_or_cut : (bs : List Bool) (rows : List TypeRow) (k : ℕ) → length bs ≡ length rows → ((get_or bs k false ≡ false) × (slice_get (cut bs rows) k ≡ slice_get rows k)) ⊎ (slice_get (cut bs rows) k ≡ Some (row.Record None []))
kept_or_cut [] rows k l = inl (refl, refl)
kept_or_cut (b ∷ bs) [] k l = absurd (omega arith)
kept_or_cut (true ∷ bs) (r ∷ rows) zero l = inr refl
kept_or_cut (false ∷ bs) (r ∷ rows) zero l = inl (refl, refl)
kept_or_cut (b ∷ bs) (r ∷ rows) (suc k) l = kept_or_cut bs rows k (omega arith)

-- a part that has the row that it had was a part before
module _ (rows rows' : List TypeRow) (p : TypeId) (same : row_of rows' p ≡ row_of rows p) where
  held_was : (x : TypeId) → IsOneOf p (held rows' x) → IsOneOf p (held rows x)
  held_was x o = at_test (is_object (row_of rows' x)) refl o
    where
      at_test : (b : Bool) → is_object (row_of rows' x) ≡ b → IsOneOf p (if b then [] else x ∷ []) → IsOneOf p (if is_object (row_of rows x) then [] else x ∷ [])
      at_test true e o = absurd o
      at_test false e (inl s) =
          let f : row_of rows x ≡ row_of rows' x = subst (λ z. row_of rows z ≡ row_of rows' z) (sym s) (sym same) in
          subst (λ b. IsOneOf p (if b then [] else x ∷ [])) (sym (ap is_object f ∙ e)) (inl s)
      at_test false e (inr o) = absurd o

  fields_were : (ts : List TypeId) → IsOneOf p (flat_map (held rows') ts) → IsOneOf p (flat_map (held rows) ts)
  fields_were [] o = absurd o
  fields_were (t ∷ ts) o = split (one_of_both p (held rows' t) (flat_map (held rows') ts) o) (fields_were ts)
    where
      split : IsOneOf p (held rows' t) ⊎ IsOneOf p (flat_map (held rows') ts) → (IsOneOf p (flat_map (held rows') ts) → IsOneOf p (flat_map (held rows) ts)) → IsOneOf p (held rows t ++ flat_map (held rows) ts)
      split (inl a) rest = one_of_left p (held rows t) (flat_map (held rows) ts) (held_was t a)
      split (inr b) rest = one_of_right p (held rows t) (flat_map (held rows) ts) (rest b)

  both_were : (b : Option TypeId) (ts : List TypeId) → IsOneOf p (base_list b) ⊎ IsOneOf p (flat_map (held rows') ts) → IsOneOf p (base_list b ++ flat_map (held rows) ts)
  both_were b ts (inl o) = one_of_left p (base_list b) (flat_map (held rows) ts) o
  both_were b ts (inr o) = one_of_right p (base_list b) (flat_map (held rows) ts) (fields_were ts o)

  part_was : (o : Option TypeRow) → IsOneOf p (parts_of rows' o) → IsOneOf p (parts_of rows o)
  part_was None m = absurd m
  part_was (Some (row.Basic b)) m = absurd m
  part_was (Some (row.Array n of)) m = held_was of m
  part_was (Some (row.Open of)) m = held_was of m
  part_was (Some (row.Record b fs)) m = both_were b fs (one_of_both p (base_list b) (flat_map (held rows') fs) m)
  part_was (Some (row.Pointer to)) m = absurd m
  part_was (Some (row.Object b fs)) m = both_were b fs (one_of_both p (base_list b) (flat_map (held rows') fs) m)
  part_was (Some (row.Procedure fs r)) m = absurd m
  part_was (Some row.Any) m = absurd m

module _ (rows : List TypeRow) (bs : List Bool) (long : length bs ≡ length rows) where
  abbrev rows' : List TypeRow
  rows' = cut bs rows

  -- what has parts wasn't cut
  kept : (t p : TypeId) → IsPartOf rows' p t → (get_or bs t.0 false ≡ false) × (row_of rows' t ≡ row_of rows t)
  kept t p part = at_row (kept_or_cut bs rows t.0 long)
    where
      at_row : ((get_or bs t.0 false ≡ false) × (slice_get rows' t.0 ≡ slice_get rows t.0)) ⊎ (slice_get rows' t.0 ≡ Some (row.Record None [])) → (get_or bs t.0 false ≡ false) × (row_of rows' t ≡ row_of rows t)
      at_row (inl k) = k
      at_row (inr e) = absurd (subst (λ o. IsOneOf p (parts_of rows' o)) e part)

  begins_kept : (t p : TypeId) (ps : List TypeId) → IsChain rows' t (ps ++ p ∷ []) → (get_or bs t.0 false ≡ false) × (row_of rows' t ≡ row_of rows t)
  begins_kept t p [] c = kept t p c.0
  begins_kept t p (x ∷ ps) c = kept t x c.0

  was : (t p : TypeId) → IsPartOf rows' p t → row_of rows' p ≡ row_of rows p → IsPartOf rows p t
  was t p part same =
      part_was rows rows' p same (row_of rows t) (subst (λ o. IsOneOf p (parts_of rows' o)) (kept t p part).1 part)

  chain_was : (t p : TypeId) (ps : List TypeId) → IsChain rows' t (ps ++ p ∷ []) → row_of rows' p ≡ row_of rows p → IsChain rows t (ps ++ p ∷ [])
  chain_was t p [] c same = (was t p c.0 same, tt)
  chain_was t p (x ∷ ps) c same = (was t x c.0 (begins_kept x p ps c.1).1, chain_was x p ps c.1 same)

pub flag_of : (rows : List TypeRow) (t : TypeId) → t.0 < length rows → get_or (circles rows) t.0 false ≡ contains_itself rows t
flag_of rows t l =
    get_or-map-range_with_len (λ k. contains_itself rows (record { 0 = k })) 0 (length rows) t.0 t.0 false l (omega arith)

pub none_left : (rows : List TypeRow) → NoneContainsItself (cut (circles rows) rows)
none_left rows t way =
    let bs = circles rows in
    let long = length-map-range_with_len (λ k. contains_itself rows (record { 0 = k })) 0 (length rows) in
    let k = begins_kept rows bs long t t way.between way.chain in
    let old : ContainsItself rows t = record { between = way.between; chain = chain_was rows bs long t t way.between way.chain k.1 } in
    let e = sym (flag_of rows t (begins_added rows t t old)) ∙ k.0 in
    let f = (circle_test rows t).1 old in
    cc

-- where none contains itself, none is marked, and nothing is cut
all_false : (f : ℕ → Bool) (a n : ℕ) → ((k : ℕ) → f k ≡ false) → map f (range_with_len a n) ≡ replicate n false
all_false f a zero h = refl
all_false f a (suc n) h = λ i. h a i ∷ all_false f (a + 1) n h i

pub none_marked : (rows : List TypeRow) → NoneContainsItself rows → circles rows ≡ replicate (length rows) false
none_marked rows free =
    all_false (λ k. contains_itself rows (record { 0 = k })) 0 (length rows) (λ k. at_test k (cases_Bool (contains_itself rows (record { 0 = k }))))
  where
    at_test : (k : ℕ) → (contains_itself rows (record { 0 = k }) ≡ true) ⊎ (contains_itself rows (record { 0 = k }) ≡ false) → contains_itself rows (record { 0 = k }) ≡ false
    at_test k (inl e) = absurd (free (record { 0 = k }) ((circle_test rows (record { 0 = k })).0 e))
    at_test k (inr e) = e

cut_none : (n : ℕ) (rows : List TypeRow) → cut (replicate n false) rows ≡ rows
cut_none zero rows = refl
cut_none (suc n) [] = refl
cut_none (suc n) (r ∷ rows) = ap (λ z. r ∷ z) (cut_none n rows)

pub nothing_cut : (rows : List TypeRow) → NoneContainsItself rows → cut (circles rows) rows ≡ rows
nothing_cut rows free = ap (λ bs. cut bs rows) (none_marked rows free) ∙ cut_none (length rows) rows

pub circles_long : (rows : List TypeRow) → length (circles rows) ≡ length rows
circles_long rows =
    length-map-range_with_len (λ k. contains_itself rows (record { 0 = k })) 0 (length rows)

-- the rows after they were written
pub written : (rows old new at : List TypeRow) (bs : List Bool) (n : ℕ) → new ≡ cut bs at → bs ≡ circles rows → at ≡ rows → n ≡ length rows → take n (new ++ drop (length new) old) ≡ cut (circles rows) rows
written rows old new at bs n e f g l =
    let w : new ≡ cut (circles rows) rows = e ∙ (λ i. cut (f i) (g i)) in
    taken new (drop (length new) old) n (l ∙ sym (cut_long (circles rows) rows) ∙ sym (ap length w)) ∙ w
