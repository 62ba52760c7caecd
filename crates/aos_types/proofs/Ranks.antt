-- Where no type contains itself the types have ranks: the depth of a type is less than the levels, since the types of a longer
-- chain would be more than there are.
use Rattle.std.proofs.Common.{◌≡◌, ℕ, zero, suc, ◌<◌, ◌≤◌, max, List, [], ◌∷◌, length, true, false, refl, sym, ap, subst, arith}
use Rattle.std.specs.Prelude.{eqb}
use Rattle.std.specs.List.{IsDistinct, AllByRecursion, list_any}
use Rattle.std.proofs.lemmas.Map.Steps.{length-le_from_distinct_below}
use Rattle.std.proofs.lemmas.Bool.{cases_lt, cases_Bool, eqb-true, or_cases}
use mathlib.Core.Logic.{◌⊎◌, inl, inr}
use Rattle.aos_types.specs.declared.row.TypeId.{TypeId}
use Rattle.aos_types.specs.declared.row.TypeRow.{TypeRow}
use Rattle.aos_types.specs.Table.{row_of}
use Rattle.aos_types.specs.Contents.{levels}
use Rattle.aos_types.specs.Chain.{parts_of, IsOneOf, IsPartOf, IsChain, LeadsTo, NoneContainsItself, IsRanked}
use Rattle.aos_types.proofs.Reached.{has_row}

abbrev deepest : (TypeId → ℕ) → List TypeId → ℕ
deepest f [] = 0
deepest f (t ∷ ts) = max (suc (f t)) (deepest f ts)

part_depth : (f : TypeId → ℕ) (t : TypeId) (ts : List TypeId) → IsOneOf t ts → suc (f t) ≤ deepest f ts
part_depth f t [] h = absurd h
part_depth f t (x ∷ ts) (inl e) = subst (λ z. suc (f z) ≤ deepest f (x ∷ ts)) e (omega arith)
part_depth f t (x ∷ ts) (inr h) = let k = part_depth f t ts h in omega (arith, k)

-- one of them is as deep
witness : (f : TypeId → ℕ) (m : ℕ) (ts : List TypeId) → suc m ≤ deepest f ts → (t : TypeId) × IsOneOf t ts × (m ≤ f t)
witness f m [] h = absurd (omega arith)
witness f m (x ∷ ts) h = at_case (λ l. witness f m ts l) (cases_lt (f x) m)
  where
    at_case : (suc m ≤ deepest f ts → (t : TypeId) × IsOneOf t ts × (m ≤ f t)) → (f x < m) ⊎ (m ≤ f x) → (t : TypeId) × IsOneOf t (x ∷ ts) × (m ≤ f t)
    at_case deeper (inr a) = (x, inl refl, a)
    at_case deeper (inl a) = let r = deeper (omega (arith, h, a)) in (r.0, inr r.1, r.2)

deepest_same : (f g : TypeId → ℕ) (ts : List TypeId) → ((t : TypeId) → IsOneOf t ts → f t ≡ g t) → deepest f ts ≡ deepest g ts
deepest_same f g [] h = refl
deepest_same f g (x ∷ ts) h = λ i. max (suc (h x (inl refl) i)) (deepest_same f g ts (λ t k. h t (inr k)) i)

abbrev pub IsNumber : ℕ → List ℕ → Type 0
IsNumber n [] = ⊥
IsNumber n (x ∷ xs) = (x ≡ n) ⊎ IsNumber n xs

pub all_differ : (n : ℕ) (hs : List ℕ) → (IsNumber n hs → ⊥) → AllByRecursion (λ y. eqb n y ≡ false) hs
all_differ n [] no_one = tt
all_differ n (x ∷ hs) no_one = (at_test (cases_Bool (eqb n x)), all_differ n hs (λ h. no_one (inr h)))
  where
    at_test : (eqb n x ≡ true) ⊎ (eqb n x ≡ false) → eqb n x ≡ false
    at_test (inl a) = absurd (no_one (inl (sym (eqb-true n x a))))
    at_test (inr b) = b

pub is_number : (q : ℕ) (xs : List ℕ) → list_any (eqb q) xs ≡ true → IsNumber q xs
is_number q [] e = absurd (cc)
is_number q (x ∷ xs) e = at_case (λ f. is_number q xs f) (or_cases (eqb q x) (list_any (eqb q) xs) e)
  where
    at_case : (list_any (eqb q) xs ≡ true → IsNumber q xs) → (eqb q x ≡ true) ⊎ (list_any (eqb q) xs ≡ true) → IsNumber q (x ∷ xs)
    at_case deeper (inl a) = inl (sym (eqb-true q x a))
    at_case deeper (inr b) = inr (deeper b)

module _ (rows : List TypeRow) where
  abbrev parts : TypeId → List TypeId
  parts t = parts_of rows (row_of rows t)

  abbrev depth : ℕ → TypeId → ℕ
  depth zero t = 0
  depth (suc n) t = deepest (depth n) (parts t)

  deep_chain : (n : ℕ) (t : TypeId) → n ≤ depth n t → (ps : List TypeId) × (length ps ≡ n) × IsChain rows t ps
  deep_chain zero t h = ([], refl, tt)
  deep_chain (suc n) t h =
      let w = witness (depth n) n (parts t) h in
      let r = deep_chain n w.0 w.2 in
      (w.0 ∷ r.0, ap (λ m. suc m) r.1, (w.1, r.2))

  stable : (n : ℕ) (t : TypeId) → depth n t < n → depth (suc n) t ≡ depth n t
  stable zero t h = absurd (omega arith)
  stable (suc n) t h =
      deepest_same (depth (suc n)) (depth n) (parts t)
      (λ p o. let d = part_depth (depth n) p (parts t) o in stable n p (omega (arith, d, h)))

  -- the numbers of all of a chain but its last
  abbrev heads : TypeId → List TypeId → List ℕ
  heads t [] = []
  heads t (p ∷ ps) = t.0 ∷ heads p ps

  heads_long : (t : TypeId) (ps : List TypeId) → length (heads t ps) ≡ length ps
  heads_long t [] = refl
  heads_long t (p ∷ ps) = ap (λ n. suc n) (heads_long p ps)

  heads_there : (t : TypeId) (ps : List TypeId) → IsChain rows t ps → (n : ℕ) → IsNumber n (heads t ps) → n < length rows
  heads_there t [] c n h = absurd h
  heads_there t (p ∷ ps) c n (inl e) = subst (λ z. z < length rows) e (has_row rows t p c.0)
  heads_there t (p ∷ ps) c n (inr h) = heads_there p ps c.1 n h

  -- a chain comes to each of its heads
  comes_back : (t : TypeId) (ps : List TypeId) (k : TypeId) → IsChain rows t ps → IsNumber k.0 (heads t ps) → (t.0 ≡ k.0) ⊎ LeadsTo rows t k
  comes_back t [] k c h = absurd h
  comes_back t (p ∷ ps) k c (inl e) = inl e
  comes_back t (p ∷ ps) k c (inr h) = at_case (comes_back p ps k c.1 h)
    where
      at_case : (p.0 ≡ k.0) ⊎ LeadsTo rows p k → (t.0 ≡ k.0) ⊎ LeadsTo rows t k
      at_case (inl e) = inr (record { between = []; chain = (subst (λ n. IsPartOf rows (record { 0 = n }) t) e c.0, tt) })
      at_case (inr r) = inr (record { between = p ∷ r.between; chain = (c.0, r.chain) })

  module _ (free : NoneContainsItself rows) where
    distinct : (t : TypeId) (ps : List TypeId) → IsChain rows t ps → IsDistinct eqb (heads t ps)
    unfolding IsDistinct
    distinct t [] c = tt
    distinct t (p ∷ ps) c = (all_differ t.0 (heads p ps) (λ h. back (comes_back p ps t c.1 h)), distinct p ps c.1)
      where
        back : (p.0 ≡ t.0) ⊎ LeadsTo rows p t → ⊥
        back (inl e) = free t (record { between = []; chain = (subst (λ n. IsPartOf rows (record { 0 = n }) t) e c.0, tt) })
        back (inr r) = free t (record { between = p ∷ r.between; chain = (c.0, r.chain) })

    shallow : (t : TypeId) → depth (levels rows) t < levels rows
    shallow t = at_case (cases_lt (depth (levels rows) t) (levels rows))
      where
        at_case : (depth (levels rows) t < levels rows) ⊎ (levels rows ≤ depth (levels rows) t) → depth (levels rows) t < levels rows
        at_case (inl a) = a
        at_case (inr b) =
            let c = deep_chain (levels rows) t b in
            let l = length-le_from_distinct_below (heads t c.0) (length rows) (distinct t c.0 c.2) (λ q e. heads_there t c.0 c.2 q (is_number q (heads t c.0) e)) in
            let m = heads_long t c.0 in
            let n = c.1 in
            absurd (omega (arith, l, m, n))

    pub ranked : IsRanked rows
    ranked = record {
      rank = depth (levels rows);
      bound = shallow;
      falls = λ t p o.
          let d = part_depth (depth (levels rows)) p (parts t) o in
          let s = stable (levels rows) t (shallow t) in
          omega (arith, d, s);
    }
