-- A row that is put behind the others leaves all that was made, where nobody named its type before.
use Rattle.std.proofs.Common.{◌≡◌, ℕ, zero, suc, ◌+◌, ◌-◌, ◌*◌, ◌<◌, ◌≤◌, List, [], ◌∷◌, ◌++◌, length, sum_by, Option, Some, None, refl, sym, ap, ◌∙◌, subst, arith, length-append}
use Rattle.std.specs.Prelude.{Bool, true, false, if◌then◌else◌, slice_get, slice_set}
use Rattle.std.specs.List.{flat_map}
use mathlib.Core.Logic.{◌⊎◌, inl, inr}
use Rattle.std.proofs.lemmas.Bool.{cases_order}
use Rattle.std.proofs.lemmas.Option.{slice_get_within}
use Rattle.std.proofs.lemmas.List.Sums.{sum_by-cons}
use Rattle.aos_types.specs.declared.row.TypeId.{TypeId}
use Rattle.aos_types.specs.declared.row.TypeRow.{TypeRow}
use Rattle.aos_types.specs.declared.row.TypeRow.TheVariants as row
use Rattle.aos_types.specs.Table.{row_of, is_object}
use Rattle.aos_types.specs.Chain.{held, base_list, parts_of, IsOneOf, IsPartOf, IsChain, NoneContainsItself}
use Rattle.aos_types.specs.Count.{capped, count_of, is_missing, of_variable, of_base, of_row, made, first_missing, IsMade, AreMade, AreSettled, named_in, AreBelow}
use Rattle.aos_types.proofs.Reached.{one_of_left, one_of_right, one_of_both, has_row}
use Rattle.aos_types.proofs.Path.{none_found, found_none, same_row}
use Rattle.aos_types.proofs.Settled.{kept_made}

got_front : {A : Type 0} (xs ys : List A) (k : ℕ) → k < length xs → slice_get (xs ++ ys) k ≡ slice_get xs k
got_front [] ys k l = absurd (omega arith)
got_front (x ∷ xs) ys zero l = refl
got_front (x ∷ xs) ys (suc k) l = got_front xs ys k (omega arith)

got_before : (s : List (Option ℕ)) (k n : ℕ) → slice_get (s ++ None ∷ []) k ≡ Some (Some n) → slice_get s k ≡ Some (Some n)
got_before [] zero n e = absurd (not_some n e)
  where
    not_some : (n : ℕ) → Some None ≡ Some (Some n) → ⊥
    not_some n e = cc
got_before [] (suc k) n e = absurd (cc)
got_before (x ∷ s) zero n e = e
got_before (x ∷ s) (suc k) n e = got_before s k n e

-- two tables that agree on which of these types are object types
module _ (rows rows' : List TypeRow) (n : ℕ) (objects : (p : TypeId) → p.0 < n → is_object (row_of rows' p) ≡ is_object (row_of rows p)) where
  abbrev Below : List TypeId → Type 0
  Below ts = (p : TypeId) → IsOneOf p ts → p.0 < n

  held_same : (p : TypeId) → p.0 < n → held rows' p ≡ held rows p
  held_same p l = ap (λ b. if b then [] else p ∷ []) (objects p l)

  fields_same : (ts : List TypeId) → Below ts → flat_map (held rows') ts ≡ flat_map (held rows) ts
  fields_same [] h = refl
  fields_same (t ∷ ts) h =
      let a = held_same t (h t (inl refl)) in
      let b = fields_same ts (λ p o. h p (inr o)) in
      λ i. a i ++ b i

  both_same : (b : Option TypeId) (ts : List TypeId) → Below (base_list b ++ ts) → base_list b ++ flat_map (held rows') ts ≡ base_list b ++ flat_map (held rows) ts
  both_same b ts h = ap (λ z. base_list b ++ z) (fields_same ts (λ p o. h p (one_of_right p (base_list b) ts o)))

  parts_same : (r : TypeRow) → AreBelow n r → parts_of rows' (Some r) ≡ parts_of rows (Some r)
  parts_same (row.Basic b) h = refl
  parts_same (row.Array k of) h = held_same of (h of (inl refl))
  parts_same (row.Open of) h = held_same of (h of (inl refl))
  parts_same (row.Record b fs) h = both_same b fs h
  parts_same (row.Pointer to) h = refl
  parts_same (row.Object b fs) h = both_same b fs h
  parts_same (row.Procedure fs r) h = refl
  parts_same row.Any h = refl

  module _ (f : TypeId → ℕ) where
    variable_same : (p : TypeId) → p.0 < n → of_variable f rows' p ≡ of_variable f rows p
    variable_same p l = ap (λ b. if b then 1 else f p) (objects p l)

    sums_same : (ts : List TypeId) → Below ts → sum_by (of_variable f rows') ts ≡ sum_by (of_variable f rows) ts
    sums_same [] h = refl
    sums_same (t ∷ ts) h =
        let a = variable_same t (h t (inl refl)) in
        let b = sums_same ts (λ p o. h p (inr o)) in
        sum_by-cons (of_variable f rows') t ts ∙ (λ i. a i + b i) ∙ sym (sum_by-cons (of_variable f rows) t ts)

    counts_same : (r : TypeRow) → AreBelow n r → of_row f rows' (Some r) ≡ of_row f rows (Some r)
    counts_same (row.Basic b) h = refl
    counts_same (row.Array k of) h = ap (λ m. k * m) (variable_same of (h of (inl refl)))
    counts_same (row.Open of) h = refl
    counts_same (row.Record b fs) h = ap (λ z. of_base f b + z) (sums_same fs (λ p o. h p (one_of_right p (base_list b) fs o)))
    counts_same (row.Pointer to) h = refl
    counts_same (row.Object b fs) h = ap (λ z. of_base f b + z) (sums_same fs (λ p o. h p (one_of_right p (base_list b) fs o)))
    counts_same (row.Procedure fs r) h = refl
    counts_same row.Any h = refl

module _ (rows : List TypeRow) (r : TypeRow) (below : (k : ℕ) (q : TypeRow) → slice_get rows k ≡ Some q → AreBelow (length rows) q) where
  abbrev rows' : List TypeRow
  rows' = rows ++ r ∷ []

  objects : (p : TypeId) → p.0 < length rows → is_object (row_of rows' p) ≡ is_object (row_of rows p)
  objects p l = ap is_object (got_front rows (r ∷ []) p.0 l)

  parts_still : (t : TypeId) → t.0 < length rows → parts_of rows' (row_of rows' t) ≡ parts_of rows (row_of rows t)
  parts_still t l = ap (parts_of rows') (got_front rows (r ∷ []) t.0 l) ∙ at_row (slice_get rows t.0) refl
    where
      at_row : (o : Option TypeRow) → slice_get rows t.0 ≡ o → parts_of rows' o ≡ parts_of rows o
      at_row None e = refl
      at_row (Some q) e = parts_same rows rows' (length rows) objects q (below t.0 q e)

  part_still : (p t : TypeId) → IsPartOf rows p t → IsPartOf rows' p t
  part_still p t h = subst (λ z. IsOneOf p z) (sym (parts_still t (has_row rows t p h))) h

  chain_still : (t : TypeId) (ps : List TypeId) → IsChain rows t ps → IsChain rows' t ps
  chain_still t [] c = tt
  chain_still t (p ∷ ps) c = (part_still p t c.0, chain_still p ps c.1)

  pub free_before : NoneContainsItself rows' → NoneContainsItself rows
  free_before free t way = free t (record { between = way.between; chain = chain_still t (way.between ++ t ∷ []) way.chain })

  -- a part of an added type was added
  part_below : (t p : TypeId) → IsPartOf rows p t → p.0 < length rows
  part_below t p h = at_row (slice_get rows t.0) refl h
    where
      from_held : (b : Bool) (q : TypeId) → q.0 < length rows → IsOneOf p (if b then [] else q ∷ []) → p.0 < length rows
      from_held true q l o = absurd o
      from_held false q l (inl s) = subst (λ z. z.0 < length rows) s l
      from_held false q l (inr o) = absurd o

      from_fields : (ts : List TypeId) → ((q : TypeId) → IsOneOf q ts → q.0 < length rows) → IsOneOf p (flat_map (held rows) ts) → p.0 < length rows
      from_fields [] k o = absurd o
      from_fields (q ∷ ts) k o = split (one_of_both p (held rows q) (flat_map (held rows) ts) o) (from_fields ts (λ z m. k z (inr m)))
        where
          split : IsOneOf p (held rows q) ⊎ IsOneOf p (flat_map (held rows) ts) → (IsOneOf p (flat_map (held rows) ts) → p.0 < length rows) → p.0 < length rows
          split (inl a) rest = from_held (is_object (row_of rows q)) q (k q (inl refl)) a
          split (inr b) rest = rest b

      from_both : (b : Option TypeId) (ts : List TypeId) → ((q : TypeId) → IsOneOf q (base_list b ++ ts) → q.0 < length rows) → IsOneOf p (base_list b) ⊎ IsOneOf p (flat_map (held rows) ts) → p.0 < length rows
      from_both b ts k (inl o) = k p (one_of_left p (base_list b) ts o)
      from_both b ts k (inr o) = from_fields ts (λ q m. k q (one_of_right q (base_list b) ts m)) o

      at_row : (o : Option TypeRow) → slice_get rows t.0 ≡ o → IsOneOf p (parts_of rows o) → p.0 < length rows
      at_row None e m = absurd m
      at_row (Some (row.Basic b)) e m = absurd m
      at_row (Some (row.Array k of)) e m = from_held (is_object (row_of rows of)) of (below t.0 (row.Array k of) e of (inl refl)) m
      at_row (Some (row.Open of)) e m = from_held (is_object (row_of rows of)) of (below t.0 (row.Open of) e of (inl refl)) m
      at_row (Some (row.Record b fs)) e m = from_both b fs (below t.0 (row.Record b fs) e) (one_of_both p (base_list b) (flat_map (held rows) fs) m)
      at_row (Some (row.Pointer to)) e m = absurd m
      at_row (Some (row.Object b fs)) e m = from_both b fs (below t.0 (row.Object b fs) e) (one_of_both p (base_list b) (flat_map (held rows) fs) m)
      at_row (Some (row.Procedure fs s)) e m = absurd m
      at_row (Some row.Any) e m = absurd m

  module _ (counts : List (Option ℕ)) (long : length counts ≡ length rows) where
    abbrev counts' : List (Option ℕ)
    counts' = counts ++ None ∷ []

    count_still : (p : TypeId) → p.0 < length rows → slice_get counts' p.0 ≡ slice_get counts p.0
    count_still p l = got_front counts (None ∷ []) p.0 (omega (arith, l, long))

    made_still : (t : TypeId) (n : ℕ) → t.0 < length rows → IsMade rows counts t n → IsMade rows' counts' t n
    made_still t n l m =
        let none = none_found (λ q. is_missing (slice_get counts q.0)) (parts_of rows (row_of rows t)) m.parts in
        record {
          parts = ap (first_missing counts') (parts_still t l) ∙ found_none (λ q. is_missing (slice_get counts' q.0)) (parts_of rows (row_of rows t)) (λ q o. ap is_missing (count_still q (part_below t q o)) ∙ none q o);
          is = m.is ∙ ap capped (same_row rows (made counts) (made counts') (row_of rows t) (λ q o. sym (ap count_of (count_still q (part_below t q o)))) ∙ sym (ap (of_row (made counts') rows') (got_front rows (r ∷ []) t.0 l) ∙ at_row (slice_get rows t.0) refl));
        }
      where
        at_row : (o : Option TypeRow) → slice_get rows t.0 ≡ o → of_row (made counts') rows' o ≡ of_row (made counts') rows o
        at_row None e = refl
        at_row (Some q) e = counts_same rows rows' (length rows) objects (made counts') q (below t.0 q e)

    pub made_before : AreMade rows counts → AreMade rows' counts'
    made_before all t n e =
        let old = got_before counts t.0 n e in
        made_still t n (let l = slice_get_within counts t.0 (Some n) old in omega (arith, l, long)) (all t n old)

    pub whole_before : ((t : TypeId) → t.0 < length rows → is_missing (slice_get counts t.0) ≡ false) → (t : TypeId) → t.0 < length rows → is_missing (slice_get counts' t.0) ≡ false
    whole_before whole t l = ap is_missing (count_still t l) ∙ whole t l

set_gives : (rows : List TypeRow) (k j : ℕ) (r q : TypeRow) → slice_get (slice_set rows k r) j ≡ Some q → (slice_get rows j ≡ Some q) ⊎ (r ≡ q)
set_gives [] k j r q e = inl e
set_gives (x ∷ rows) zero zero r q e = inr (let f : r ≡ q = cc in f)
set_gives (x ∷ rows) zero (suc j) r q e = inl e
set_gives (x ∷ rows) (suc k) zero r q e = inl e
set_gives (x ∷ rows) (suc k) (suc j) r q e = set_gives rows k j r q e

push_gives : (rows : List TypeRow) (j : ℕ) (r q : TypeRow) → slice_get (rows ++ r ∷ []) j ≡ Some q → (slice_get rows j ≡ Some q) ⊎ (r ≡ q)
push_gives [] zero r q e = inr (let f : r ≡ q = cc in f)
push_gives [] (suc j) r q e = absurd (cc)
push_gives (x ∷ rows) zero r q e = inl e
push_gives (x ∷ rows) (suc j) r q e = push_gives rows j r q e

abbrev pub AllBelow : ℕ → List TypeRow → Type 0
AllBelow n rows = (k : ℕ) (q : TypeRow) → slice_get rows k ≡ Some q → AreBelow n q

grown : (rows : List TypeRow) (r : TypeRow) (n m : ℕ) → AllBelow n rows → n ≤ m → AreBelow m r → (k : ℕ) (q : TypeRow) → (slice_get rows k ≡ Some q) ⊎ (r ≡ q) → AreBelow m q
grown rows r n m all l own k q (inl e) p o = let h = all k q e p o in omega (arith, h, l)
grown rows r n m all l own k q (inr e) p o = own p (subst (λ z. IsOneOf p (named_in z)) (sym e) o)

pub below_set : (rows : List TypeRow) (t : ℕ) (r : TypeRow) (n m : ℕ) → AllBelow n rows → n ≤ m → AreBelow m r → AllBelow m (slice_set rows t r)
below_set rows t r n m all l own k q e = grown rows r n m all l own k q (set_gives rows t k r q e)

pub below_push : (rows : List TypeRow) (r : TypeRow) (n m : ℕ) → AllBelow n rows → n ≤ m → AreBelow m r → AllBelow m (rows ++ r ∷ [])
below_push rows r n m all l own k q e = grown rows r n m all l own k q (push_gives rows k r q e)

-- what was settled before is settled of the longer table, but for its last type
pub before_push : (rows : List TypeRow) (r : TypeRow) (counts : List (Option ℕ)) (n : ℕ) → length counts ≡ length rows → AllBelow n rows → n ≤ length rows → (NoneContainsItself rows → AreSettled rows counts (length rows)) → NoneContainsItself (rows ++ r ∷ []) → AreSettled (rows ++ r ∷ []) (counts ++ None ∷ []) (length rows)
before_push rows r counts n long all l settled free =
    let below = λ (k : ℕ) (q : TypeRow) (e : slice_get rows k ≡ Some q) (p : TypeId) (o : IsOneOf p (named_in q)). (let h = all k q e p o in let g : p.0 < length rows = omega (arith, h, l) in g) in
    let s = settled (free_before rows r below free) in
    record { made = made_before rows r below counts long s.made; whole = whole_before rows r below counts long s.whole }

-- and then of all, where the last count is made
pub last_settled : (rows : List TypeRow) (counts counts' : List (Option ℕ)) → 0 < length rows → length counts ≡ length rows → AreSettled rows counts (length rows - 1) → (AreMade rows counts → AreMade rows counts') → ((p : TypeId) (n : ℕ) → slice_get counts p.0 ≡ Some (Some n) → slice_get counts' p.0 ≡ Some (Some n)) → is_missing (slice_get counts' (length rows - 1)) ≡ false → AreSettled rows counts' (length rows)
last_settled rows counts counts' some long s made kept own =
    record { made = made s.made; whole = λ t l. at_case t l (cases_order t.0 (length rows - 1)) }
  where
    at_case : (t : TypeId) → t.0 < length rows → (t.0 ≡ length rows - 1) ⊎ ((t.0 < length rows - 1) ⊎ (length rows - 1 < t.0)) → is_missing (slice_get counts' t.0) ≡ false
    at_case t l (inl e) = subst (λ k. is_missing (slice_get counts' k) ≡ false) (sym e) own
    at_case t l (inr (inl k)) = kept_made counts counts' kept t.0 (omega (arith, l, long)) (s.whole t k)
    at_case t l (inr (inr g)) = absurd (omega (arith, l, g, some))

pub before_last : (rows rows2 : List TypeRow) (r : TypeRow) (counts counts2 : List (Option ℕ)) (n : ℕ) → rows2 ≡ rows ++ r ∷ [] → counts2 ≡ counts ++ None ∷ [] → length counts ≡ length rows → AllBelow n rows → n ≤ length rows → (NoneContainsItself rows → AreSettled rows counts (length rows)) → NoneContainsItself rows2 → AreSettled rows2 counts2 (length rows2 - 1)
before_last rows rows2 r counts counts2 n e f long all l settled free =
    let s = before_push rows r counts n long all l settled (subst NoneContainsItself e free) in
    let a = length-append rows (r ∷ []) in
    let k : length rows ≡ length (rows ++ r ∷ []) - 1 = omega (arith, a) in
    subst (λ z. AreSettled z counts2 (length z - 1)) (sym e) (subst (λ w. AreSettled (rows ++ r ∷ []) w (length (rows ++ r ∷ []) - 1)) (sym f) (subst (λ m. AreSettled (rows ++ r ∷ []) (counts ++ None ∷ []) m) k s))
