-- Tables of types that begin with another, in which rows name rows of it alone: types of the first contain the same in both.
use Rattle.std.proofs.Common.{◌≡◌, ℕ, zero, suc, ◌<◌, ◌≤◌, List, [], ◌∷◌, ◌++◌, length, map, Bool, true, false, not, ◌&&◌, Option, Some, None, slice_get, if◌then◌else◌, refl, sym, ap, ◌∙◌, subst, arith}
use Rattle.std.specs.List.{flat_map, list_any}
use Rattle.std.proofs.lemmas.Bool.{cases_lt, or_cases}
use Rattle.std.proofs.lemmas.Option.{slice_get_past}
use mathlib.Core.Logic.{◌⊎◌, inl, inr}
use Rattle.aos_base.specs.declared.limits.TheConstants.{MOST_SCALARS}
use Rattle.aos_types.specs.declared.row.TypeId.{TypeId}
use Rattle.aos_types.specs.declared.row.TypeRow.{TypeRow}
use Rattle.aos_types.specs.declared.row.TypeRow.TheVariants as row
use Rattle.aos_types.specs.Table.{row_of, is_object}
use Rattle.aos_types.specs.Shape as shape
use Rattle.aos_types.specs.Shape.{Shape, size, join}
use Rattle.aos_types.specs.Contents.{of_variable, of_base, with_parts, contents, scalars}
use Rattle.aos_types.specs.Chain.{held, base_list, parts_of, IsOneOf, IsPartOf, IsChain, ContainsItself, NoneContainsItself}
use Rattle.aos_types.specs.Count.{named_in, AreBelow}
use Rattle.aos_types.specs.Limit.{is_past, is_first_past}
use Rattle.aos_types.proofs.Reached.{one_of_left, one_of_right, one_of_both}
use Rattle.aos_types.proofs.Ranks.{ranked}
use Rattle.aos_types.proofs.Tables.{by_parts}

-- each row names rows of the first so many
abbrev pub AllBelow : ℕ → List TypeRow → Type 0
AllBelow n rows = (k : ℕ) (r : TypeRow) → slice_get rows k ≡ Some r → AreBelow n r

-- a part is named by its row

held_is : (rows : List TypeRow) (p t : TypeId) → IsOneOf p (held rows t) → t ≡ p
held_is rows p t one = by (is_object (row_of rows t)) one
  where
    by : (b : Bool) → IsOneOf p (if b then [] else t ∷ []) → t ≡ p
    by true one = absurd one
    by false (inl e) = e
    by false (inr h) = absurd h

fields_named : (rows : List TypeRow) (p : TypeId) (ts : List TypeId) → IsOneOf p (flat_map (held rows) ts) → IsOneOf p ts
fields_named rows p [] one = one
fields_named rows p (t ∷ ts) one = by (one_of_both p (held rows t) (flat_map (held rows) ts) one) (fields_named rows p ts)
  where
    by : IsOneOf p (held rows t) ⊎ IsOneOf p (flat_map (held rows) ts) → (IsOneOf p (flat_map (held rows) ts) → IsOneOf p ts) → IsOneOf p (t ∷ ts)
    by (inl a) rest = inl (held_is rows p t a)
    by (inr b) rest = inr (rest b)

both_named : (rows : List TypeRow) (p : TypeId) (b : Option TypeId) (ts : List TypeId) → IsOneOf p (base_list b ++ flat_map (held rows) ts) → IsOneOf p (base_list b ++ ts)
both_named rows p b ts one = by (one_of_both p (base_list b) (flat_map (held rows) ts) one)
  where
    by : IsOneOf p (base_list b) ⊎ IsOneOf p (flat_map (held rows) ts) → IsOneOf p (base_list b ++ ts)
    by (inl a) = one_of_left p (base_list b) ts a
    by (inr c) = one_of_right p (base_list b) ts (fields_named rows p ts c)

pub part_named : (rows : List TypeRow) (p : TypeId) (r : TypeRow) → IsOneOf p (parts_of rows (Some r)) → IsOneOf p (named_in r)
part_named rows p (row.Basic b) one = absurd one
part_named rows p (row.Array n t) one = inl (held_is rows p t one)
part_named rows p (row.Open t) one = inl (held_is rows p t one)
part_named rows p (row.Record b fs) one = both_named rows p b fs one
part_named rows p (row.Pointer t) one = absurd one
part_named rows p (row.Object b fs) one = both_named rows p b fs one
part_named rows p (row.Procedure fs r) one = absurd one
part_named rows p row.Any one = absurd one

pub part_below : (rows : List TypeRow) (n : ℕ) → AllBelow n rows → (t p : TypeId) → IsPartOf rows p t → p.0 < n
part_below rows n below t p one = by (row_of rows t) refl one
  where
    by : (o : Option TypeRow) → row_of rows t ≡ o → IsOneOf p (parts_of rows o) → p.0 < n
    by None is one = absurd one
    by (Some r) is one = below t.0 r is p (part_named rows p r one)

-- Two tables that agree on which of the first so many types are object types.

module _ (rows rows' : List TypeRow) (n : ℕ) (objects : (p : TypeId) → p.0 < n → is_object (row_of rows' p) ≡ is_object (row_of rows p)) where
  abbrev Below : List TypeId → Type 0
  Below ts = (p : TypeId) → IsOneOf p ts → p.0 < n

  held_same : (p : TypeId) → p.0 < n → held rows' p ≡ held rows p
  held_same p l = ap (λ b. if b then [] else p ∷ []) (objects p l)

  fields_same : (ts : List TypeId) → Below ts → flat_map (held rows') ts ≡ flat_map (held rows) ts
  fields_same [] h = refl
  fields_same (t ∷ ts) h =
      let a = held_same t (h t (inl refl)) in
      let b = fields_same ts (λ p o. h p (inr o)) in
      λ i. a i ++ b i

  both_same : (b : Option TypeId) (ts : List TypeId) → Below (base_list b ++ ts) → base_list b ++ flat_map (held rows') ts ≡ base_list b ++ flat_map (held rows) ts
  both_same b ts h = ap (λ z. base_list b ++ z) (fields_same ts (λ p o. h p (one_of_right p (base_list b) ts o)))

  parts_same : (r : TypeRow) → AreBelow n r → parts_of rows' (Some r) ≡ parts_of rows (Some r)
  parts_same (row.Basic b) h = refl
  parts_same (row.Array k of) h = held_same of (h of (inl refl))
  parts_same (row.Open of) h = held_same of (h of (inl refl))
  parts_same (row.Record b fs) h = both_same b fs h
  parts_same (row.Pointer to) h = refl
  parts_same (row.Object b fs) h = both_same b fs h
  parts_same (row.Procedure fs r) h = refl
  parts_same row.Any h = refl

  module _ (f f' : TypeId → Shape TypeId) where
    abbrev Agree : List TypeId → Type 0
    Agree ts = (p : TypeId) → IsOneOf p ts → f' p ≡ f p

    variable_same : (p : TypeId) → p.0 < n → Agree (held rows p) → of_variable f' rows' p ≡ of_variable f rows p
    variable_same p l h = ap (λ b. if b then shape.One p else f' p) (objects p l) ∙ by (is_object (row_of rows p)) h
      where
        by : (b : Bool) → Agree (if b then [] else p ∷ []) → (if b then shape.One p else f' p) ≡ (if b then shape.One p else f p)
        by true h = refl
        by false h = h p (inl refl)

    rows_same : (ts : List TypeId) → Below ts → Agree (flat_map (held rows) ts) → shape.row (map (of_variable f' rows') ts) ≡ shape.row (map (of_variable f rows) ts)
    rows_same [] l h = refl
    rows_same (t ∷ ts) l h =
        λ i. shape.Pair (variable_same t (l t (inl refl)) (λ p o. h p (one_of_left p (held rows t) (flat_map (held rows) ts) o)) i)
        (rows_same ts (λ p o. l p (inr o)) (λ p o. h p (one_of_right p (held rows t) (flat_map (held rows) ts) o)) i)

    base_same : (b : Option TypeId) → Agree (base_list b) → of_base f' b ≡ of_base f b
    base_same None h = refl
    base_same (Some b) h = h b (inl refl)

    joined_same : (b : Option TypeId) (ts : List TypeId) → Below (base_list b ++ ts) → Agree (base_list b ++ flat_map (held rows) ts) →
        join (of_base f' b) (shape.row (map (of_variable f' rows') ts)) ≡ join (of_base f b) (shape.row (map (of_variable f rows) ts))
    joined_same b ts l h =
        λ i. join (base_same b (λ p o. h p (one_of_left p (base_list b) (flat_map (held rows) ts) o)) i)
        (rows_same ts (λ p o. l p (one_of_right p (base_list b) ts o)) (λ p o. h p (one_of_right p (base_list b) (flat_map (held rows) ts) o)) i)

    contents_same : (t : TypeId) (r : TypeRow) → AreBelow n r → Agree (parts_of rows (Some r)) → with_parts f' rows' t (Some r) ≡ with_parts f rows t (Some r)
    contents_same t (row.Basic b) l h = refl
    contents_same t (row.Array k of) l h = ap (shape.repeated k) (variable_same of (l of (inl refl)) h)
    contents_same t (row.Open of) l h = refl
    contents_same t (row.Record b fs) l h = joined_same b fs l h
    contents_same t (row.Pointer to) l h = refl
    contents_same t (row.Object b fs) l h = joined_same b fs l h
    contents_same t (row.Procedure fs r) l h = refl
    contents_same t row.Any l h = refl

-- A table that goes on from another, whose rows stay.

module _ (rows rows' : List TypeRow) (below : AllBelow (length rows) rows) (stays : (k : ℕ) → k < length rows → slice_get rows' k ≡ slice_get rows k) where
  objects_stay : (p : TypeId) → p.0 < length rows → is_object (row_of rows' p) ≡ is_object (row_of rows p)
  objects_stay p l = ap is_object (stays p.0 l)

  parts_stay : (t : TypeId) → t.0 < length rows → parts_of rows' (row_of rows' t) ≡ parts_of rows (row_of rows t)
  parts_stay t l = ap (parts_of rows') (stays t.0 l) ∙ by (row_of rows t) refl
    where
      by : (o : Option TypeRow) → row_of rows t ≡ o → parts_of rows' o ≡ parts_of rows o
      by None is = refl
      by (Some r) is = parts_same rows rows' (length rows) objects_stay r (below t.0 r is)

  chain_stays : (t : TypeId) (ps : List TypeId) → t.0 < length rows → IsChain rows' t ps → IsChain rows t ps
  chain_stays t [] l c = tt
  chain_stays t (p ∷ ps) l c =
      let part = subst (IsOneOf p) (parts_stay t l) c.0 in (part, chain_stays p ps (part_below rows (length rows) below t p part) c.1)

  pub circle_stays : (t : TypeId) → t.0 < length rows → ContainsItself rows' t → ContainsItself rows t
  circle_stays t l way = record { between = way.between; chain = chain_stays t (way.between ++ t ∷ []) l way.chain }

  module _ (free : NoneContainsItself rows) (free' : NoneContainsItself rows') where
    contents_stay : (n : ℕ) (t : TypeId) → (ranked rows free).rank t < n → t.0 < length rows → contents rows' t ≡ contents rows t
    contents_stay zero t r l = absurd (omega (arith, r))
    contents_stay (suc n) t r l =
        by_parts rows' (ranked rows' free') t ∙ ap (with_parts (contents rows') rows' t) (stays t.0 l)
        ∙ by (row_of rows t) refl (λ p part. let f = (ranked rows free).falls t p part in contents_stay n p (omega (arith, r, f)) (part_below rows (length rows) below t p part))
        ∙ sym (by_parts rows (ranked rows free) t)
      where
        by : (o : Option TypeRow) → row_of rows t ≡ o → ((p : TypeId) → IsPartOf rows p t → contents rows' p ≡ contents rows p) →
            with_parts (contents rows') rows' t o ≡ with_parts (contents rows) rows t o
        by None is same = refl
        by (Some x) is same =
            contents_same rows rows' (length rows) objects_stay (contents rows) (contents rows') t x (below t.0 x is)
            (λ p one. same p (subst (λ o. IsOneOf p (parts_of rows o)) (sym is) one))

    pub scalars_stay : (t : TypeId) → t.0 < length rows → scalars rows' t ≡ scalars rows t
    scalars_stay t l = ap size (contents_stay (suc ((ranked rows free).rank t)) t (omega arith) l)

    -- where no new type is the first past the limit, none is past it

    one_passes : (q : TypeId → Bool) (ts : List TypeId) → list_any q ts ≡ true → (p : TypeId) × IsOneOf p ts × (q p ≡ true)
    one_passes q [] e = absurd (cc)
    one_passes q (t ∷ ts) e = by (one_passes q ts) (or_cases (q t) (list_any q ts) e)
      where
        by : (list_any q ts ≡ true → (p : TypeId) × IsOneOf p ts × (q p ≡ true)) → (q t ≡ true) ⊎ (list_any q ts ≡ true) → (p : TypeId) × IsOneOf p (t ∷ ts) × (q p ≡ true)
        by deeper (inl a) = (t, inl refl, a)
        by deeper (inr b) = let r = deeper b in (r.0, inr r.1, r.2)

    not_past : (t : TypeId) → is_past rows' t ≡ false → scalars rows' t ≤ MOST_SCALARS
    not_past t e = grind (arith, e)

    past_not : (t : TypeId) → scalars rows' t ≤ MOST_SCALARS → is_past rows' t ≡ true → ⊥
    past_not t l e = grind (arith, l, e)

    module _ (old : (t : TypeId) → scalars rows t ≤ MOST_SCALARS) (new : (t : TypeId) → length rows ≤ t.0 → t.0 < length rows' → is_first_past rows' t ≡ false) where
      within_by : (n : ℕ) (t : TypeId) → (ranked rows' free').rank t < n → scalars rows' t ≤ MOST_SCALARS
      within_by zero t r = absurd (omega (arith, r))
      within_by (suc n) t r = by_number (cases_lt t.0 (length rows)) (cases_lt t.0 (length rows'))
          (λ p part. let f = (ranked rows' free').falls t p part in within_by n p (omega (arith, r, f)))
        where
          nothing : length rows' ≤ t.0 → scalars rows' t ≤ MOST_SCALARS
          nothing l =
              let none = slice_get_past rows' t.0 l in
              let e : scalars rows' t ≡ 0 = ap size (by_parts rows' (ranked rows' free') t ∙ ap (with_parts (contents rows') rows' t) none) in
              omega (arith, e)

          by_parts_of : ((p : TypeId) → IsPartOf rows' p t → scalars rows' p ≤ MOST_SCALARS) → (b c : Bool) → is_past rows' t ≡ b → list_any (is_past rows') (parts_of rows' (row_of rows' t)) ≡ c →
              (b && not c) ≡ false → scalars rows' t ≤ MOST_SCALARS
          by_parts_of each false c is any e = not_past t is
          by_parts_of each true false is any e = absurd (cc)
          by_parts_of each true true is any e = let p = one_passes (is_past rows') (parts_of rows' (row_of rows' t)) any in absurd (past_not p.0 (each p.0 p.1) p.2)

          by_number : (t.0 < length rows) ⊎ (length rows ≤ t.0) → (t.0 < length rows') ⊎ (length rows' ≤ t.0) → ((p : TypeId) → IsPartOf rows' p t → scalars rows' p ≤ MOST_SCALARS) →
              scalars rows' t ≤ MOST_SCALARS
          by_number (inl a) c each = subst (λ n. n ≤ MOST_SCALARS) (sym (scalars_stay t a)) (old t)
          by_number (inr b) (inr d) each = nothing d
          by_number (inr b) (inl d) each = by_parts_of each (is_past rows' t) (list_any (is_past rows') (parts_of rows' (row_of rows' t))) refl refl (new t b d)

      pub all_within : (t : TypeId) → scalars rows' t ≤ MOST_SCALARS
      all_within t = within_by (suc ((ranked rows' free').rank t)) t (omega arith)
