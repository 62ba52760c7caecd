-- Sums over the views of all passes, and lists of workers.
use Rattle.std.proofs.Common.{◌≡◌, ◌≢◌, ℕ, zero, suc, ◌+◌, ◌<◌, ◌≤◌, Bool, true, false, List, [], ◌∷◌, ◌++◌, set, length, sym, refl, ap, ◌∙◌, subst, arith, inl, inr, ⊎_elim}
use Rattle.std.specs.Prelude.{◌==◌, nat_lt, if◌then◌else◌, filter}
use Rattle.std.proofs.lemmas.Bool.Decides.{eqb_tells, leb_tells}
use mathlib.Core.Option.{some, some-injective, some-ne-none}
use lib.ListN.{get_elem?}
use Rattle.crossbeam_queue.proofs.Lists.{at_set, at_snoc}
use Rattle.aos_cell.specs.Total.{total, one_if, times, below}
use Rattle.aos_cell.specs.Steps.{greatest, without}

pub one_same : (a : ℕ) → one_if (a == a) ≡ 1
one_same a = elim (eqb_tells a a) [
  | inl e ↦ ap one_if e.0
  | inr e ↦ absurd (e.1 refl)
]

module _ {A : Type 0} (f : A → ℕ) where
  -- the total after a change of one view
  pub total_set : (views : List A) (seat : ℕ) (v w : A) → get_elem? views seat ≡ some v → total f (set views seat w) + f v ≡ total f views + f w
  total_set [] seat v w e = absurd (some-ne-none v (sym e))
  total_set (x ∷ xs) zero v w e = let s : f x ≡ f v = ap f (some-injective x v e) in omega arith
  total_set (x ∷ xs) (suc i) v w e = let ih = total_set xs i v w e in omega arith

  pub total_snoc : (views : List A) (w : A) → total f (views ++ w ∷ []) ≡ total f views + f w
  total_snoc [] w = omega arith
  total_snoc (x ∷ xs) w = let ih = total_snoc xs w in omega arith

  pub total_one : (views : List A) (seat : ℕ) (v : A) → get_elem? views seat ≡ some v → f v ≤ total f views
  total_one [] seat v e = absurd (some-ne-none v (sym e))
  total_one (x ∷ xs) zero v e = let s : f x ≡ f v = ap f (some-injective x v e) in omega arith
  total_one (x ∷ xs) (suc i) v e = let ih = total_one xs i v e in omega arith

  -- two views of the total
  pub total_two : (views : List A) (i j : ℕ) (v u : A) → i ≢ j → get_elem? views i ≡ some v → get_elem? views j ≡ some u → f v + f u ≤ total f views
  total_two [] i j v u ne e d = absurd (some-ne-none v (sym e))
  total_two (x ∷ xs) zero zero v u ne e d = absurd (ne refl)
  total_two (x ∷ xs) zero (suc j) v u ne e d = let s : f x ≡ f v = ap f (some-injective x v e) in let ih = total_one xs j u d in omega arith
  total_two (x ∷ xs) (suc i) zero v u ne e d = let s : f x ≡ f u = ap f (some-injective x u d) in let ih = total_one xs i v e in omega arith
  total_two (x ∷ xs) (suc i) (suc j) v u ne e d = let ih = total_two xs i j v u (λ h. ne (ap suc h)) e d in omega arith

  pub total_none : (views : List A) → ((seat : ℕ) (v : A) → get_elem? views seat ≡ some v → f v ≡ 0) → total f views ≡ 0
  total_none [] none = refl
  total_none (x ∷ xs) none = let a = none 0 x refl in let ih = total_none xs (λ i v e. none (suc i) v e) in omega arith

module _ {A : Type 0} (P : A → Type 0) where
  -- what holds of each view, after a change of one
  pub all_set : (views : List A) (seat : ℕ) (w : A) → P w → ((j : ℕ) (u : A) → j ≢ seat → get_elem? views j ≡ some u → P u) → (j : ℕ) (u : A) → get_elem? (set views seat w) j ≡ some u → P u
  all_set views seat w mine others j u e =
      ⊎_elim (λ (x : (j ≡ seat) × (w ≡ u)). subst P x.1 mine) (λ (x : (j ≢ seat) × (get_elem? views j ≡ some u)). others j u x.0 x.1) (at_set views seat j w u e)

  pub all_snoc : (views : List A) (w : A) → P w → ((j : ℕ) (u : A) → get_elem? views j ≡ some u → P u) → (j : ℕ) (u : A) → get_elem? (views ++ w ∷ []) j ≡ some u → P u
  all_snoc views w mine others j u e = ⊎_elim (λ (x : get_elem? views j ≡ some u). others j u x) (λ (x : w ≡ u). subst P x mine) (at_snoc views w u j e)

-- how often a number stands in a list

pub times_append : (x : ℕ) (xs ys : List ℕ) → times x (xs ++ ys) ≡ times x xs + times x ys
times_append x [] ys = omega arith
times_append x (y ∷ xs) ys = let ih = times_append x xs ys in omega arith

-- the numbers below n stand there once each, and no other does

pub below_out : (w n : ℕ) → n ≤ w → times w (below n) ≡ 0
below_out w zero out = refl
below_out w (suc n) out =
    let ih = below_out w n (omega arith) in
    elim (eqb_tells n w) [
      | inl e ↦ let f = e.1 in absurd (omega arith)
      | inr e ↦ let a : one_if (n == w) ≡ 0 = ap one_if e.0 in omega arith
    ]

pub below_once : (w n : ℕ) → times w (below n) ≤ 1
below_once w zero = omega arith
below_once w (suc n) =
    let ih = below_once w n in
    elim (eqb_tells n w) [
      | inl e ↦ let a : one_if (n == w) ≡ 1 = ap one_if e.0 in let b = below_out w n (let f = e.1 in omega arith) in omega arith
      | inr e ↦ let a : one_if (n == w) ≡ 0 = ap one_if e.0 in omega arith
    ]

pub below_in : (w n : ℕ) → w < n → 0 < times w (below n)
below_in w zero lt = absurd (omega arith)
below_in w (suc n) lt =
    elim (eqb_tells n w) [
      | inl e ↦ let a : one_if (n == w) ≡ 1 = ap one_if e.0 in omega arith
      | inr e ↦ let f = e.1 in let ih = below_in w n (omega arith) in omega arith
    ]

pub below_less : (w n : ℕ) → 0 < times w (below n) → w < n
below_less w n member =
    elim (leb_tells (suc w) n) [
      | inl e ↦ e.1
      | inr e ↦ let out = below_out w n (let f = e.1 in omega arith) in absurd (omega arith)
    ]

pub length_below : (n : ℕ) → length (below n) ≡ n
length_below zero = refl
length_below (suc n) = let ih = length_below n in omega arith

pub some_member : (ws : List ℕ) → 0 < length ws → (w : ℕ) × (0 < times w ws)
some_member [] any = absurd (omega arith)
some_member (w ∷ ws) any = (w, (let a : one_if (w == w) ≡ 1 = one_same w in omega arith))

pub greatest_in : (ws : List ℕ) → 0 < length ws → 0 < times (greatest ws) ws
greatest_in [] any = absurd (omega arith)
greatest_in (x ∷ []) any =
    (elim (nat_lt x 0) as (λ q. nat_lt x 0 ≡ q → 0 < times (if q then 0 else x) (x ∷ [])) [
      | true ↦ λ e. absurd (lt_zero x e)
      | false ↦ λ _. let a : one_if (x == x) ≡ 1 = one_same x in omega arith
    ]) refl
  where
    lt_zero : (y : ℕ) → nat_lt y 0 ≡ true → ⊥
    lt_zero y e = elim (leb_tells (suc y) 0) [
      | inl f ↦ let a = f.1 in omega arith
      | inr f ↦ let z = sym f.0 ∙ e in cc z
    ]
greatest_in (x ∷ y ∷ ws) any =
    let ih = greatest_in (y ∷ ws) (omega arith) in
    elim (nat_lt x (greatest (y ∷ ws))) as (λ q. 0 < times (if q then greatest (y ∷ ws) else x) (x ∷ y ∷ ws)) [
      | true ↦ omega (arith, ih)
      | false ↦ let a : one_if (x == x) ≡ 1 = one_same x in omega arith
    ]

pub times_without : (w x : ℕ) (ws : List ℕ) → 0 < times x ws → times w (without x ws) + one_if (x == w) ≡ times w ws
times_without w x [] member = absurd (omega arith)
times_without w x (y ∷ ws) member =
    elim (eqb_tells y x) [
      | inl e ↦ subst (λ q. times w (if q then ws else y ∷ without x ws) + one_if (x == w) ≡ times w (y ∷ ws)) (sym e.0)
          (let a : one_if (y == w) ≡ one_if (x == w) = ap (λ (z : ℕ). one_if (z == w)) e.1 in omega arith)
      | inr e ↦ subst (λ q. times w (if q then ws else y ∷ without x ws) + one_if (x == w) ≡ times w (y ∷ ws)) (sym e.0)
          (let a : one_if (y == x) ≡ 0 = ap one_if e.0 in let ih = times_without w x ws (omega arith) in omega arith)
    ]

pub length_without : (x : ℕ) (ws : List ℕ) → 0 < times x ws → suc (length (without x ws)) ≡ length ws
length_without x [] member = absurd (omega arith)
length_without x (y ∷ ws) member =
    elim (eqb_tells y x) [
      | inl e ↦ subst (λ q. suc (length (if q then ws else y ∷ without x ws)) ≡ length (y ∷ ws)) (sym e.0) (omega arith)
      | inr e ↦ subst (λ q. suc (length (if q then ws else y ∷ without x ws)) ≡ length (y ∷ ws)) (sym e.0)
          (let a : one_if (y == x) ≡ 0 = ap one_if e.0 in let ih = length_without x ws (omega arith) in omega arith)
    ]

-- those of a list that meet a test
pub times_filter : (test : ℕ → Bool) (w : ℕ) (ws : List ℕ) → times w (filter test ws) ≡ (if test w then times w ws else 0)
times_filter test w [] = elim (test w) as (λ q. times w [] ≡ (if q then times w [] else 0)) [
  | true ↦ refl
  | false ↦ refl
]
times_filter test w (y ∷ ws) =
    let ih = times_filter test w ws in
    elim (eqb_tells y w) [
      | inl e ↦ subst (λ (z : ℕ). times z (if test y then y ∷ filter test ws else filter test ws) ≡ (if test z then times z (y ∷ ws) else 0)) e.1
          ((elim (test y) as (λ q. times y (filter test ws) ≡ (if q then times y ws else 0) → times y (if q then y ∷ filter test ws else filter test ws) ≡ (if q then times y (y ∷ ws) else 0)) [
            | true ↦ λ h. omega (arith, h)
            | false ↦ λ h. h
          ]) (times_filter test y ws))
      | inr e ↦ let a : one_if (y == w) ≡ 0 = ap one_if e.0 in
          (elim (test y) as (λ q. times w (if q then y ∷ filter test ws else filter test ws) ≡ times w (filter test ws)) [
            | true ↦ omega arith
            | false ↦ refl
          ]) ∙ ih ∙
          (elim (test w) as (λ q. (if q then times w ws else 0) ≡ (if q then times w (y ∷ ws) else 0)) [
            | true ↦ omega arith
            | false ↦ refl
          ])
    ]
