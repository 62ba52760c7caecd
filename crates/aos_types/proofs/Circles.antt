-- A chain can be shortened until none of its types stands on it twice, and then it has no more parts than there are types. So
-- the test of chains no longer than that finds each type that contains itself.
use Rattle.std.proofs.Common.{◌≡◌, ℕ, zero, suc, ◌<◌, List, [], ◌∷◌, ◌++◌, length, refl, ap, ◌∙◌, subst, arith}
use Rattle.std.specs.Prelude.{◌↔◌, Bool, true, false, eqb, ◌==◌, ◌||◌}
use Rattle.std.specs.List.{IsDistinct, AllByRecursion, list_any}
use mathlib.Core.Logic.{◌⊎◌, inl, inr}
use Rattle.std.proofs.lemmas.Bool.{cases_Bool, eqb-true, eq-eqb, or_cases}
use Rattle.std.proofs.lemmas.Map.Keys.{IsDistinct-cons, IsDistinct-tail}
use Rattle.std.proofs.lemmas.Map.Steps.{length-le_from_distinct_below}
use Rattle.aos_types.specs.declared.row.TypeId.{TypeId}
use Rattle.aos_types.specs.declared.row.TypeRow.{TypeRow}
use Rattle.aos_types.specs.Table.{row_of}
use Rattle.aos_types.specs.Chain.{parts_of, IsOneOf, IsChain, LeadsTo, ContainsItself, leads_by, contains_itself}
use Rattle.aos_types.proofs.Reached.{has_row}
use Rattle.aos_types.proofs.Ranks.{IsNumber, is_number}

none_equal : (n : ℕ) (xs : List ℕ) → list_any (eqb n) xs ≡ false → AllByRecursion (λ y. eqb n y ≡ false) xs
none_equal n [] e = tt
none_equal n (x ∷ xs) e = at_test (λ f. none_equal n xs f) (eqb n x) refl e
  where
    at_test : (list_any (eqb n) xs ≡ false → AllByRecursion (λ y. eqb n y ≡ false) xs) → (b : Bool) → eqb n x ≡ b → (b || list_any (eqb n) xs) ≡ false → AllByRecursion (λ y. eqb n y ≡ false) (x ∷ xs)
    at_test deeper true w f = absurd (cc)
    at_test deeper false w f = (w, deeper f)

one_distinct : (n : ℕ) → IsDistinct eqb (n ∷ [])
unfolding IsDistinct
one_distinct n = (tt, tt)

or_right : (x y : Bool) → y ≡ true → (x || y) ≡ true
or_right true y k = refl
or_right false y k = k

-- one of a list passes a test
any_of : (f : TypeId → Bool) (q : TypeId) (ts : List TypeId) → IsOneOf q ts → f q ≡ true → list_any f ts ≡ true
any_of f q [] h e = absurd h
any_of f q (t ∷ ts) (inl s) e = ap (λ b. b || list_any f ts) (ap f s ∙ e)
any_of f q (t ∷ ts) (inr h) e = or_right (f t) (list_any f ts) (any_of f q ts h e)

which : (f : TypeId → Bool) (ts : List TypeId) → list_any f ts ≡ true → (q : TypeId) × IsOneOf q ts × (f q ≡ true)
which f [] e = absurd (cc)
which f (t ∷ ts) e = at_case (λ k. which f ts k) (or_cases (f t) (list_any f ts) e)
  where
    at_case : (list_any f ts ≡ true → (q : TypeId) × IsOneOf q ts × (f q ≡ true)) → (f t ≡ true) ⊎ (list_any f ts ≡ true) → (q : TypeId) × IsOneOf q (t ∷ ts) × (f q ≡ true)
    at_case deeper (inl a) = (t, inl refl, a)
    at_case deeper (inr b) = let r = deeper b in (r.0, inr r.1, r.2)

module _ (rows : List TypeRow) where
  -- the numbers of all of a chain but its last
  abbrev numbers : TypeId → List TypeId → List ℕ
  numbers t [] = t.0 ∷ []
  numbers t (x ∷ b) = t.0 ∷ numbers x b

  numbers_long : (t : TypeId) (b : List TypeId) → length (numbers t b) ≡ suc (length b)
  numbers_long t [] = refl
  numbers_long t (x ∷ b) = ap (λ n. suc n) (numbers_long x b)

  numbers_there : (t p : TypeId) (b : List TypeId) → IsChain rows t (b ++ p ∷ []) → (n : ℕ) → IsNumber n (numbers t b) → n < length rows
  numbers_there t p [] c n (inl e) = subst (λ z. z < length rows) e (has_row rows t p c.0)
  numbers_there t p [] c n (inr h) = absurd h
  numbers_there t p (x ∷ b) c n (inl e) = subst (λ z. z < length rows) e (has_row rows t x c.0)
  numbers_there t p (x ∷ b) c n (inr h) = numbers_there x p b c.1 n h

  -- a chain on which no type stands twice
  record Short (t p : TypeId) : Type 0 where
    between : List TypeId
    chain : IsChain rows t (between ++ p ∷ [])
    differ : IsDistinct eqb (numbers t between)

  -- a chain from one of its types on
  from_there : (t x p : TypeId) (b : List TypeId) → IsChain rows x (b ++ p ∷ []) → IsDistinct eqb (numbers x b) → IsNumber t.0 (numbers x b) → Short t p
  from_there t x p [] c d (inl e) =
      let s : x ≡ t = λ i. record { 0 = e i } in
      subst (λ z. Short z p) s (record { between = []; chain = c; differ = d })
  from_there t x p [] c d (inr h) = absurd h
  from_there t x p (y ∷ b) c d (inl e) =
      let s : x ≡ t = λ i. record { 0 = e i } in
      subst (λ z. Short z p) s (record { between = y ∷ b; chain = c; differ = d })
  from_there t x p (y ∷ b) c d (inr h) = from_there t y p b c.1 (IsDistinct-tail eqb x.0 (numbers y b) d) h

  shortened : (t p : TypeId) (b : List TypeId) → IsChain rows t (b ++ p ∷ []) → Short t p
  shortened t p [] c = record { between = []; chain = c; differ = one_distinct t.0 }
  shortened t p (x ∷ b) c = longer (shortened x p b c.1)
    where
      at_test : (s : Short x p) → (list_any (eqb t.0) (numbers x s.between) ≡ true) ⊎ (list_any (eqb t.0) (numbers x s.between) ≡ false) → Short t p
      at_test s (inl a) = from_there t x p s.between s.chain s.differ (is_number t.0 (numbers x s.between) a)
      at_test s (inr n) = record {
        between = x ∷ s.between;
        chain = (c.0, s.chain);
        differ = IsDistinct-cons eqb t.0 (numbers x s.between) (none_equal t.0 (numbers x s.between) n) s.differ;
      }

      longer : Short x p → Short t p
      longer s = at_test s (cases_Bool (list_any (eqb t.0) (numbers x s.between)))

  short : (t p : TypeId) (s : Short t p) → length s.between < length rows
  short t p s =
      let l = length-le_from_distinct_below (numbers t s.between) (length rows) s.differ (λ q e. numbers_there t p s.between s.chain q (is_number q (numbers t s.between) e)) in
      let m = numbers_long t s.between in
      omega (arith, l, m)

  -- so many parts are found by the test
  leads_of : (n : ℕ) (t p : TypeId) (b : List TypeId) → IsChain rows t (b ++ p ∷ []) → length b < n → leads_by n rows t p ≡ true
  leads_of zero t p b c l = absurd (omega arith)
  leads_of (suc n) t p [] c l =
      any_of (λ q. q.0 == p.0 || leads_by n rows q p) p (parts_of rows (row_of rows t)) c.0 (ap (λ z. z || leads_by n rows p p) (eq-eqb p.0 p.0 refl))
  leads_of (suc n) t p (x ∷ b) c l =
      any_of (λ q. q.0 == p.0 || leads_by n rows q p) x (parts_of rows (row_of rows t)) c.0 (or_right (x.0 == p.0) (leads_by n rows x p) (leads_of n x p b c.1 (omega arith)))

  -- and what the test finds is a chain
  chain_of : (n : ℕ) (t p : TypeId) → leads_by n rows t p ≡ true → LeadsTo rows t p
  chain_of zero t p e = absurd (cc)
  chain_of (suc n) t p e = by_part (λ q k. chain_of n q p k) (which (λ q. q.0 == p.0 || leads_by n rows q p) (parts_of rows (row_of rows t)) e)
    where
      at_case : ((q : TypeId) → leads_by n rows q p ≡ true → LeadsTo rows q p) → (q : TypeId) → IsOneOf q (parts_of rows (row_of rows t)) → (q.0 == p.0 ≡ true) ⊎ (leads_by n rows q p ≡ true) → LeadsTo rows t p
      at_case deeper q o (inl a) =
          let f = eqb-true q.0 p.0 a in
          let s : q ≡ p = λ i. record { 0 = f i } in
          record { between = []; chain = (subst (λ z. IsOneOf z (parts_of rows (row_of rows t))) s o, tt) }
      at_case deeper q o (inr b) = let r = deeper q b in record { between = q ∷ r.between; chain = (o, r.chain) }

      by_part : ((q : TypeId) → leads_by n rows q p ≡ true → LeadsTo rows q p) → (q : TypeId) × IsOneOf q (parts_of rows (row_of rows t)) × ((q.0 == p.0 || leads_by n rows q p) ≡ true) → LeadsTo rows t p
      by_part deeper r = at_case deeper r.0 r.1 (or_cases (r.0.0 == p.0) (leads_by n rows r.0 p) r.2)

  pub circle_test : (t : TypeId) → (contains_itself rows t ≡ true) ↔ ContainsItself rows t
  circle_test t = (
    λ e. chain_of (length rows) t t e,
    λ way. let s = shortened t t way.between way.chain in leads_of (length rows) t t s.between s.chain (short t t s),
  )
