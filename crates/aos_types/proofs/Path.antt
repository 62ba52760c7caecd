-- A walk along the parts of a type whose counts aren't made: each on the way is a part of the one before it, and a count is made
-- where those of the parts are.
use Rattle.std.proofs.Common.{◌≡◌, ◌≢◌, ℕ, zero, suc, ◌+◌, ◌*◌, ◌-◌, ◌<◌, ◌≤◌, List, [], ◌∷◌, ◌++◌, length, get_or, sum_by, Option, Some, None, refl, sym, ap, ◌∙◌, subst, arith, length-append}
use Rattle.std.specs.Prelude.{Bool, true, false, if◌then◌else◌, slice_get, slice_set}
use Rattle.std.specs.List.{find, flat_map}
use mathlib.Core.Logic.{◌⊎◌, inl, inr}
use Rattle.std.proofs.lemmas.List.{length-set}
use Rattle.std.proofs.lemmas.Bool.{cases_order}
use Rattle.std.proofs.lemmas.Option.{slice_get-get_or}
use Rattle.std.proofs.lemmas.List.Sums.{sum_by-cons}
use Rattle.std.proofs.Math.Nat.{suc-mul}
use Rattle.aos_types.specs.declared.row.TypeId.{TypeId}
use Rattle.aos_types.specs.declared.row.TypeRow.{TypeRow}
use Rattle.aos_types.specs.declared.row.TypeRow.TheVariants as row
use Rattle.aos_types.specs.Table.{row_of, is_object}
use Rattle.aos_types.specs.Chain.{held, base_list, parts_of, IsOneOf, IsPartOf, IsChain, ContainsItself, IsRanked, NoneContainsItself}
use Rattle.aos_types.specs.Count.{capped, count_of, is_missing, of_variable, of_base, of_row, made, missing_part, IsMade, AreMade, AreFree}
use Rattle.aos_types.proofs.Reached.{one_of_left, one_of_right, one_of_both, has_row}
use Rattle.aos_types.proofs.Ranks.{ranked}

got_here : {A : Type 0} (s : List A) (k : ℕ) (b v : A) → slice_get s k ≡ Some b → slice_get (slice_set s k v) k ≡ Some v
got_here [] k b v e = absurd (cc)
got_here (x ∷ s) zero b v e = refl
got_here (x ∷ s) (suc k) b v e = got_here s k b v e

got_other : {A : Type 0} (s : List A) (k j : ℕ) (v : A) → k ≢ j → slice_get (slice_set s k v) j ≡ slice_get s j
got_other [] k j v n = refl
got_other (x ∷ s) zero zero v n = absurd (n refl)
got_other (x ∷ s) zero (suc j) v n = refl
got_other (x ∷ s) (suc k) zero v n = refl
got_other (x ∷ s) (suc k) (suc j) v n = got_other s k j v (λ e. n (ap (λ m. suc m) e))

-- what is found is one of the list, and passes the test; where nothing is, none does
found_is : (q : TypeId → Bool) (xs : List TypeId) (p : TypeId) → find q xs ≡ Some p → IsOneOf p xs × (q p ≡ true)
found_is q [] p e = absurd (cc)
found_is q (x ∷ xs) p e = at_test (λ h. found_is q xs p h) (q x) refl e
  where
    at_test : (find q xs ≡ Some p → IsOneOf p xs × (q p ≡ true)) → (b : Bool) → q x ≡ b → (if b then Some x else find q xs) ≡ Some p → IsOneOf p (x ∷ xs) × (q p ≡ true)
    at_test deeper true w h = let s : x ≡ p = cc in (inl s, subst (λ z. q z ≡ true) s w)
    at_test deeper false w h = let r = deeper h in (inr r.0, r.1)

pub none_found : (q : TypeId → Bool) (xs : List TypeId) → find q xs ≡ None → (p : TypeId) → IsOneOf p xs → q p ≡ false
none_found q [] e p h = absurd h
none_found q (x ∷ xs) e p h = at_test (λ k. none_found q xs k p) (q x) refl e h
  where
    at_test : (find q xs ≡ None → IsOneOf p xs → q p ≡ false) → (b : Bool) → q x ≡ b → (if b then Some x else find q xs) ≡ None → IsOneOf p (x ∷ xs) → q p ≡ false
    at_test deeper true w k o = absurd (cc)
    at_test deeper false w k (inl s) = subst (λ z. q z ≡ false) s w
    at_test deeper false w k (inr o) = deeper k o

pub found_none : (q : TypeId → Bool) (xs : List TypeId) → ((p : TypeId) → IsOneOf p xs → q p ≡ false) → find q xs ≡ None
found_none q [] h = refl
found_none q (x ∷ xs) h = at_test (q x) (h x (inl refl)) (found_none q xs (λ p o. h p (inr o)))
  where
    at_test : (b : Bool) → b ≡ false → find q xs ≡ None → (if b then Some x else find q xs) ≡ None
    at_test true w k = absurd (cc)
    at_test false w k = k

-- counts that agree on the parts of a row
module _ (rows : List TypeRow) (f g : TypeId → ℕ) where
  abbrev Agree : List TypeId → Type 0
  Agree ts = (p : TypeId) → IsOneOf p ts → f p ≡ g p

  same_if : (t : TypeId) (b : Bool) → Agree (if b then [] else t ∷ []) → (if b then 1 else f t) ≡ (if b then 1 else g t)
  same_if t true h = refl
  same_if t false h = h t (inl refl)

  same_variable : (t : TypeId) → Agree (held rows t) → of_variable f rows t ≡ of_variable g rows t
  same_variable t h = same_if t (is_object (row_of rows t)) h

  same_fields : (ts : List TypeId) → Agree (flat_map (held rows) ts) → sum_by (of_variable f rows) ts ≡ sum_by (of_variable g rows) ts
  same_fields [] h = refl
  same_fields (t ∷ ts) h =
      let a = same_variable t (λ p o. h p (one_of_left p (held rows t) (flat_map (held rows) ts) o)) in
      let b = same_fields ts (λ p o. h p (one_of_right p (held rows t) (flat_map (held rows) ts) o)) in
      sum_by-cons (of_variable f rows) t ts ∙ (λ i. a i + b i) ∙ sym (sum_by-cons (of_variable g rows) t ts)

  same_base : (b : Option TypeId) → Agree (base_list b) → of_base f b ≡ of_base g b
  same_base None h = refl
  same_base (Some b) h = h b (inl refl)

  same_both : (b : Option TypeId) (ts : List TypeId) → Agree (base_list b ++ flat_map (held rows) ts) → of_base f b + sum_by (of_variable f rows) ts ≡ of_base g b + sum_by (of_variable g rows) ts
  same_both b ts h =
      λ i. same_base b (λ p o. h p (one_of_left p (base_list b) (flat_map (held rows) ts) o)) i + same_fields ts (λ p o. h p (one_of_right p (base_list b) (flat_map (held rows) ts) o)) i

  pub same_row : (o : Option TypeRow) → Agree (parts_of rows o) → of_row f rows o ≡ of_row g rows o
  same_row None h = refl
  same_row (Some (row.Basic b)) h = refl
  same_row (Some (row.Array n of)) h = ap (λ m. n * m) (same_variable of h)
  same_row (Some (row.Open of)) h = refl
  same_row (Some (row.Record b fs)) h = same_both b fs h
  same_row (Some (row.Pointer to)) h = refl
  same_row (Some (row.Object b fs)) h = same_both b fs h
  same_row (Some (row.Procedure fs r)) h = refl
  same_row (Some row.Any) h = refl

pub no_count : (o : Option (Option ℕ)) (n : Option ℕ) → o ≡ None → o ≡ Some n → ⊥
no_count o n e f = let g : Some n ≡ None = sym f ∙ e in cc

missing_is : (o : Option (Option ℕ)) → is_missing o ≡ true → o ≡ Some None
missing_is None e = absurd (cc)
missing_is (Some None) e = refl
missing_is (Some (Some n)) e = absurd (cc)

-- a count that is made where it was missing leaves those that were made
module _ (rows : List TypeRow) (counts : List (Option ℕ)) (top : TypeId) (v : ℕ) (waits : slice_get counts top.0 ≡ Some None) where
  abbrev after : List (Option ℕ)
  after = slice_set counts top.0 (Some v)

  other : (p : TypeId) → is_missing (slice_get counts p.0) ≡ false → top.0 ≢ p.0
  other p h e = differ (slice_get counts p.0) h (subst (λ n. slice_get counts n ≡ Some None) e waits)
    where
      differ : (o : Option (Option ℕ)) → is_missing o ≡ false → o ≡ Some None → ⊥
      differ o h w = let k : is_missing o ≡ true = ap is_missing w in cc

  pub still : (p : TypeId) → is_missing (slice_get counts p.0) ≡ false → slice_get after p.0 ≡ slice_get counts p.0
  still p h = got_other counts top.0 p.0 (Some v) (other p h)

  made_still : (p : TypeId) (n : ℕ) → IsMade rows counts p n → IsMade rows after p n
  made_still p n m =
      let none = none_found (λ q. is_missing (slice_get counts q.0)) (parts_of rows (row_of rows p)) m.parts in
      record {
        parts = found_none (λ q. is_missing (slice_get after q.0)) (parts_of rows (row_of rows p)) (λ q o. ap is_missing (still q (none q o)) ∙ none q o);
        is = m.is ∙ ap capped (same_row rows (made counts) (made after) (row_of rows p) (λ q o. sym (ap count_of (still q (none q o)))));
      }

  are_made : AreMade rows counts → IsMade rows counts top v → AreMade rows after
  are_made all here p n e = by_order (cases_order top.0 p.0)
    where
      at_top : top.0 ≡ p.0 → IsMade rows after p n
      at_top s =
          let f : Some (Some v) ≡ Some (Some n) = sym (got_here counts top.0 None (Some v) waits) ∙ ap (slice_get after) s ∙ e in
          let k : v ≡ n = cc in
          subst (λ m. IsMade rows after p m) k (subst (λ z. IsMade rows after z v) (λ i. record { 0 = s i }) (made_still top v here))

      elsewhere : top.0 ≢ p.0 → IsMade rows after p n
      elsewhere d = made_still p n (all p n (sym (got_other counts top.0 p.0 (Some v) d) ∙ e))

      by_order : (top.0 ≡ p.0) ⊎ ((top.0 < p.0) ⊎ (p.0 < top.0)) → IsMade rows after p n
      by_order (inl s) = at_top s
      by_order (inr (inl l)) = elsewhere (omega arith)
      by_order (inr (inr l)) = elsewhere (omega arith)

  module _ (long : length counts ≡ length rows) (all : AreMade rows counts) where
    parts_made : (x p : TypeId) → is_missing (slice_get counts x.0) ≡ false → IsPartOf rows p x → is_missing (slice_get counts p.0) ≡ false
    parts_made x p m part = at_count (slice_get counts x.0) refl m
      where
        at_count : (o : Option (Option ℕ)) → slice_get counts x.0 ≡ o → is_missing o ≡ false → is_missing (slice_get counts p.0) ≡ false
        at_count None e m =
            let l = has_row rows x p part in
            absurd (no_count (slice_get counts x.0) (get_or counts x.0 None) e (slice_get-get_or counts x.0 None (omega (arith, l, long))))
        at_count (Some None) e m = absurd (cc)
        at_count (Some (Some n)) e m =
            none_found (λ q. is_missing (slice_get counts q.0)) (parts_of rows (row_of rows x)) (all x n e).parts p part

    waiting : is_missing (slice_get counts top.0) ≡ false → ⊥
    waiting m = let k : is_missing (slice_get counts top.0) ≡ true = ap is_missing waits in cc

    -- no chain leads from a count that is made to this one
    no_way : (x : TypeId) (ps : List TypeId) → is_missing (slice_get counts x.0) ≡ false → IsChain rows x (ps ++ top ∷ []) → ⊥
    no_way x [] m c = waiting (parts_made x top m c.0)
    no_way x (y ∷ ps) m c = no_way y ps (parts_made x y m c.0) c.1

    are_free : AreFree rows counts → missing_part rows counts top ≡ None → AreFree rows after
    are_free free e t n made way = by_order (cases_order top.0 t.0)
      where
        none : (p : TypeId) → IsPartOf rows p top → is_missing (slice_get counts p.0) ≡ false
        none p o = none_found (λ q. is_missing (slice_get counts q.0)) (parts_of rows (row_of rows top)) e p o

        no_circle : (ps : List TypeId) → IsChain rows top (ps ++ top ∷ []) → ⊥
        no_circle [] c = waiting (none top c.0)
        no_circle (y ∷ ps) c = no_way y ps (none y c.0) c.1

        elsewhere : top.0 ≢ t.0 → ⊥
        elsewhere d = free t n (sym (got_other counts top.0 t.0 (Some v) d) ∙ made) way

        by_order : (top.0 ≡ t.0) ⊎ ((top.0 < t.0) ⊎ (t.0 < top.0)) → ⊥
        by_order (inl s) =
            let own : ContainsItself rows top = subst (λ k. ContainsItself rows (record { 0 = k })) (sym s) way in
            no_circle own.between own.chain
        by_order (inr (inl l)) = elsewhere (omega arith)
        by_order (inr (inr l)) = elsewhere (omega arith)

-- each on the way is a part of the one before it
abbrev pub IsStack : List TypeRow → List TypeId → Type 0
IsStack rows [] = Unit {0}
IsStack rows (t ∷ ts) = IsChain rows t ts

-- the way begins at this type, or has come to its end with the count of the type made
abbrev pub IsFrom : TypeId → List (Option ℕ) → List TypeId → Type 0
IsFrom t counts [] = is_missing (slice_get counts t.0) ≡ false
IsFrom t counts (x ∷ ts) = x ≡ t

-- how many counts aren't made
abbrev pub absent : List (Option ℕ) → ℕ
absent [] = 0
absent (None ∷ s) = suc (absent s)
absent (Some n ∷ s) = absent s

one_made : (s : List (Option ℕ)) (k v : ℕ) → slice_get s k ≡ Some None → suc (absent (slice_set s k (Some v))) ≡ absent s
one_made [] k v e = absurd (cc)
one_made (None ∷ s) zero v e = refl
one_made (Some n ∷ s) zero v e = absurd (cc)
one_made (None ∷ s) (suc k) v e = ap (λ n. suc n) (one_made s k v e)
one_made (Some n ∷ s) (suc k) v e = one_made s k v e

module _ (rows : List TypeRow) where
  longer : (x : TypeId) (ts : List TypeId) (top p : TypeId) → IsChain rows x (ts ++ top ∷ []) → IsPartOf rows p top → IsChain rows x ((ts ++ top ∷ []) ++ p ∷ [])
  longer x [] top p c part = (c.0, (part, tt))
  longer x (y ∷ ts) top p c part = (c.0, longer y ts top p c.1 part)

  shorter : (x : TypeId) (ts : List TypeId) (top : TypeId) → IsChain rows x (ts ++ top ∷ []) → IsChain rows x ts
  shorter x [] top c = tt
  shorter x (y ∷ ts) top c = (c.0, shorter y ts top c.1)

  pushed : (ts : List TypeId) (top p : TypeId) → IsStack rows (ts ++ top ∷ []) → IsPartOf rows p top → IsStack rows ((ts ++ top ∷ []) ++ p ∷ [])
  pushed [] top p c part = (part, tt)
  pushed (x ∷ ts) top p c part = longer x ts top p c part

  popped : (ts : List TypeId) (top : TypeId) → IsStack rows (ts ++ top ∷ []) → IsStack rows ts
  popped [] top c = tt
  popped (x ∷ ts) top c = shorter x ts top c

  -- a part of it stands above it
  record Above (q : TypeId) (ts : List TypeId) : Type 0 where
    above : TypeId
    there : IsOneOf above ts
    part : IsPartOf rows above q

  above_in : (x : TypeId) (ts : List TypeId) (top q : TypeId) → IsChain rows x (ts ++ top ∷ []) → IsOneOf q (x ∷ ts) → Above q (ts ++ top ∷ [])
  above_in x [] top q c (inl s) = record { above = top; there = inl refl; part = subst (λ z. IsPartOf rows top z) s c.0 }
  above_in x [] top q c (inr h) = absurd h
  above_in x (y ∷ ts) top q c (inl s) = record { above = y; there = inl refl; part = subst (λ z. IsPartOf rows y z) s c.0 }
  above_in x (y ∷ ts) top q c (inr h) =
      let r = above_in y ts top q c.1 h in record { above = r.above; there = inr r.there; part = r.part }

  above : (ts : List TypeId) (top q : TypeId) → IsStack rows (ts ++ top ∷ []) → IsOneOf q ts → Above q (ts ++ top ∷ [])
  above [] top q c h = absurd h
  above (x ∷ ts) top q c h =
      let r = above_in x ts top q c h in record { above = r.above; there = inr r.there; part = r.part }

  -- a chain is no longer than the rank of where it begins
  ranks_fall : (r : IsRanked rows) (x : TypeId) (ts : List TypeId) → IsChain rows x ts → length ts ≤ r.rank x
  ranks_fall r x [] c = omega arith
  ranks_fall r x (y ∷ ts) c =
      let l = ranks_fall r y ts c.1 in
      let f = r.falls x y c.0 in
      omega (arith, l, f)

  stack_short : (r : IsRanked rows) (ts : List TypeId) → IsStack rows ts → length ts ≤ suc (length rows)
  stack_short r [] c = omega arith
  stack_short r (x ∷ ts) c =
      let l = ranks_fall r x ts c in
      let b = r.bound x in
      omega (arith, l, b)

  pub record IsWalking (first : List (Option ℕ)) (t : TypeId) (counts : List (Option ℕ)) (path : List TypeId) : Type 0 where
    pub long : length counts ≡ length rows
    pub made : AreMade rows first → AreMade rows counts
    pub free : AreMade rows first → AreFree rows first → AreFree rows counts
    pub kept : (p : TypeId) (n : ℕ) → slice_get first p.0 ≡ Some (Some n) → slice_get counts p.0 ≡ Some (Some n)
    pub waits : (p : TypeId) → IsOneOf p path → slice_get counts p.0 ≡ Some None
    pub stack : IsStack rows path
    pub short : length path ≤ suc (length rows)
    pub from : IsFrom t counts path

  pub walk_begins : (counts : List (Option ℕ)) (t : TypeId) → length counts ≡ length rows → is_missing (slice_get counts t.0) ≡ true → IsWalking counts t counts (t ∷ [])
  walk_begins counts t l m = record {
    long = l;
    made = λ h. h;
    free = λ h f. f;
    kept = λ p n e. e;
    waits = λ p o. at_first p o;
    stack = tt;
    short = omega arith;
    from = refl;
  }
    where
      at_first : (p : TypeId) → IsOneOf p (t ∷ []) → slice_get counts p.0 ≡ Some None
      at_first p (inl s) = subst (λ z. slice_get counts z.0 ≡ Some None) s (missing_is (slice_get counts t.0) m)
      at_first p (inr h) = absurd h

  module _ (first : List (Option ℕ)) (t : TypeId) (counts : List (Option ℕ)) (ts : List TypeId) (top : TypeId) (w : IsWalking first t counts (ts ++ top ∷ [])) where
    pub top_waits : slice_get counts top.0 ≡ Some None
    top_waits = w.waits top (one_of_right top ts (top ∷ []) (inl refl))

    -- a part whose count isn't made is next
    pub walk_on : (p : TypeId) → missing_part rows counts top ≡ Some p → length (ts ++ top ∷ []) ≤ length rows → IsWalking first t counts ((ts ++ top ∷ []) ++ p ∷ [])
    walk_on p e l =
        let f = found_is (λ q. is_missing (slice_get counts q.0)) (parts_of rows (row_of rows top)) p e in
        record {
          long = w.long;
          made = w.made;
          free = w.free;
          kept = w.kept;
          waits = λ q o. waiting q (one_of_both q (ts ++ top ∷ []) (p ∷ []) o) (missing_is (slice_get counts p.0) f.1);
          stack = pushed ts top p w.stack f.0;
          short = omega (arith, l, length-append (ts ++ top ∷ []) (p ∷ []));
          from = from_first ts w.from;
        }
      where
        waiting : (q : TypeId) → IsOneOf q (ts ++ top ∷ []) ⊎ IsOneOf q (p ∷ []) → slice_get counts p.0 ≡ Some None → slice_get counts q.0 ≡ Some None
        waiting q (inl o) m = w.waits q o
        waiting q (inr (inl s)) m = subst (λ z. slice_get counts z.0 ≡ Some None) s m
        waiting q (inr (inr h)) m = absurd h

        from_first : (ts : List TypeId) → IsFrom t counts (ts ++ top ∷ []) → IsFrom t counts ((ts ++ top ∷ []) ++ p ∷ [])
        from_first [] h = h
        from_first (x ∷ ts) h = h

    -- or the count of the last one is made
    pub walk_back : (v : ℕ) → missing_part rows counts top ≡ None → v ≡ capped (of_row (made counts) rows (row_of rows top)) → IsWalking first t (slice_set counts top.0 (Some v)) ts
    walk_back v e n =
        let none = none_found (λ q. is_missing (slice_get counts q.0)) (parts_of rows (row_of rows top)) e in
        record {
          long = length-set counts top.0 (Some v) ∙ w.long;
          made = λ h. are_made rows counts top v top_waits (w.made h) (record { parts = e; is = n });
          free = λ h f. are_free rows counts top v top_waits w.long (w.made h) (w.free h f) e;
          kept = λ p m h. got_other counts top.0 p.0 (Some v) (λ s. differ (slice_get counts p.0) m (w.kept p m h) (subst (λ k. slice_get counts k ≡ Some None) s top_waits)) ∙ w.kept p m h;
          waits = λ p o. got_other counts top.0 p.0 (Some v) (λ s. not_top p o s none) ∙ w.waits p (one_of_left p ts (top ∷ []) o);
          stack = popped ts top w.stack;
          short = (let l = w.short in omega (arith, l, length-append ts (top ∷ [])));
          from = from_rest ts w.from;
        }
      where
        differ : (o : Option (Option ℕ)) (m : ℕ) → o ≡ Some (Some m) → o ≡ Some None → ⊥
        differ o m e f = let k : Some m ≡ None = cc in cc

        not_top : (p : TypeId) → IsOneOf p ts → top.0 ≡ p.0 → ((q : TypeId) → IsOneOf q (parts_of rows (row_of rows top)) → is_missing (slice_get counts q.0) ≡ false) → ⊥
        not_top p o s none =
            let r = above ts top p w.stack o in
            let part : IsPartOf rows r.above top = subst (λ k. IsPartOf rows r.above (record { 0 = k })) (sym s) r.part in
            let m : is_missing (slice_get counts r.above.0) ≡ true = ap is_missing (w.waits r.above r.there) in
            let f = none r.above part in
            cc

        from_rest : (ts : List TypeId) → IsFrom t counts (ts ++ top ∷ []) → IsFrom t (slice_set counts top.0 (Some v)) ts
        from_rest [] h = ap is_missing (ap (λ z. slice_get (slice_set counts top.0 (Some v)) z.0) (sym h) ∙ got_here counts top.0 None (Some v) top_waits)
        from_rest (x ∷ ts) h = h

    -- a way as long as this one comes back to a type
    pub walk_round : (p : TypeId) → missing_part rows counts top ≡ Some p → length rows < length (ts ++ top ∷ []) → NoneContainsItself rows → ⊥
    walk_round p e l free =
        let f = found_is (λ q. is_missing (slice_get counts q.0)) (parts_of rows (row_of rows top)) p e in
        let s = stack_short (ranked rows free) ((ts ++ top ∷ []) ++ p ∷ []) (pushed ts top p w.stack f.0) in
        omega (arith, l, s, length-append (ts ++ top ∷ []) (p ∷ []))

    -- each step comes nearer to the end
    pub nearer_on : (p : TypeId) → length (ts ++ top ∷ []) ≤ length rows → absent counts * (length rows + 2) + (suc (length rows) - length ((ts ++ top ∷ []) ++ p ∷ [])) < absent counts * (length rows + 2) + (suc (length rows) - length (ts ++ top ∷ []))
    nearer_on p l = omega (arith, l, length-append (ts ++ top ∷ []) (p ∷ []))

    pub nearer_back : (v : ℕ) → absent (slice_set counts top.0 (Some v)) * (length rows + 2) + (suc (length rows) - length ts) < absent counts * (length rows + 2) + (suc (length rows) - length (ts ++ top ∷ []))
    nearer_back v =
        let o = one_made counts top.0 v top_waits in
        let s = w.short in
        let m = suc-mul (absent (slice_set counts top.0 (Some v))) (length rows + 2) ∙ refl in
        let k = ap (λ n. n * (length rows + 2)) o in
        omega (arith, m, k, s, length-append ts (top ∷ []))

pub walk_ends : (rows : List TypeRow) (first : List (Option ℕ)) (t : TypeId) (counts : List (Option ℕ)) → IsWalking rows first t counts [] → is_missing (slice_get counts t.0) ≡ false
walk_ends rows first t counts w = w.from
