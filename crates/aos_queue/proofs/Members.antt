-- Numbers in lists.
use Rattle.std.proofs.Common.{◌≡◌, ℕ, zero, suc, ◌<◌, ◌≤◌, List, [], ◌∷◌, ◌++◌, length, refl, sym, ap, subst, ◌∙◌, arith, ◌⊎◌, inl, inr, ◌≢◌}
use Rattle.std.specs.List.{Contains, list_any, IsDistinct, AllByRecursion}
use Rattle.std.specs.Prelude.{Bool, true, false, ◌||◌, ◌==◌, not, cond}
use Rattle.std.proofs.lemmas.Bool.{eqb-true, eq-eqb, false≢true}
use Rattle.std.proofs.lemmas.Bool.Decides.{eqb_tells}
use Rattle.std.proofs.lemmas.Map.Steps.{length-le_from_distinct_below}
use Rattle.std.proofs.lemmas.List.Elements.{Contains-push_cases}
use lib.Dec.{eqb}
use Rattle.aos_queue.specs.Lists.{IsOnce, without, last_of}

pub here : (n : ℕ) (ns : List ℕ) → Contains (n ∷ ns) n
here n ns = (0, omega arith, refl)

pub there : (m n : ℕ) (ns : List ℕ) → Contains ns n → Contains (m ∷ ns) n
there m n ns h = (suc h.0, omega (arith, h.1), h.2)

pub among : (m n : ℕ) (ns : List ℕ) → Contains (m ∷ ns) n → (m ≡ n) ⊎ Contains ns n
among m n ns (zero, l, e) = inl e
among m n ns (suc k, l, e) = inr (k, omega (arith, l), e)

pub none : (n : ℕ) → Contains [] n → ⊥
none n (k, l, e) = absurd (omega (arith, l))

pub differ : (n m : ℕ) → n ≢ m → eqb n m ≡ false
differ n m h = elim (eqb_tells n m) [ inl p ↦ absurd (h p.1) | inr p ↦ p.0 ]

-- no more numbers than there are below the bound
apart_in : (n : ℕ) (ns : List ℕ) → (Contains ns n → ⊥) → AllByRecursion (λ m. eqb n m ≡ false) ns
apart_in n [] h = tt
apart_in n (m ∷ ms) h =
    (differ n m (λ e. h (subst (λ k. Contains (m ∷ ms) k) (sym e) (here m ms))), apart_in n ms (λ i. h (there m n ms i)))

distinct : (ns : List ℕ) → IsOnce ns → IsDistinct eqb ns
unfolding IsDistinct
distinct [] h = tt
distinct (n ∷ ns) h = (apart_in n ns h.0, distinct ns h.1)

found_or : (n m : ℕ) (ms : List ℕ) (b : Bool) → eqb n m ≡ b → (list_any (eqb n) ms ≡ true → Contains ms n) → (b || list_any (eqb n) ms) ≡ true → Contains (m ∷ ms) n
found_or n m ms true e rest h = subst (λ k. Contains (m ∷ ms) k) (sym (eqb-true n m e)) (here m ms)
found_or n m ms false e rest h = there m n ms (rest h)

found : (n : ℕ) (ns : List ℕ) → list_any (eqb n) ns ≡ true → Contains ns n
found n [] h = absurd (cc)
found n (m ∷ ms) h = found_or n m ms (eqb n m) refl (found n ms) h

pub length_bound : (ns : List ℕ) (room : ℕ) → IsOnce ns → ((n : ℕ) → Contains ns n → n < room) → length ns ≤ room
length_bound ns room once below = length-le_from_distinct_below ns room (distinct ns once) (λ n h. below n (found n ns h))

-- splits
pub in_middle : (front : List ℕ) (n : ℕ) (back : List ℕ) → Contains (front ++ n ∷ back) n
in_middle [] n back = here n back
in_middle (m ∷ front) n back = there m n (front ++ n ∷ back) (in_middle front n back)

pub last_of-split : (d : ℕ) (front : List ℕ) (n : ℕ) (back : List ℕ) → last_of d (front ++ n ∷ back) ≡ last_of n back
last_of-split d [] n back = refl
last_of-split d (m ∷ front) n back = last_of-split m front n back

pub last_within : (n : ℕ) (ns : List ℕ) → Contains (n ∷ ns) (last_of n ns)
last_within n [] = here n []
last_within n (m ∷ ms) = there n (last_of m ms) (m ∷ ms) (last_within m ms)

-- a number within the shorter list is within the longer one
pub within-split : (front : List ℕ) (n : ℕ) (back : List ℕ) (m : ℕ) → Contains (front ++ back) m → Contains (front ++ n ∷ back) m
within-split [] n back m h = there n m back h
within-split (k ∷ front) n back m h = elim (among k m (front ++ back) h) [
  | inl e ↦ subst (λ j. Contains (k ∷ (front ++ n ∷ back)) j) e (here k (front ++ n ∷ back))
  | inr i ↦ there k m (front ++ n ∷ back) (within-split front n back m i)
]

pub without-cons : (n m : ℕ) (ms : List ℕ) → m ≢ n → without n (m ∷ ms) ≡ m ∷ without n ms
without-cons n m ms h = ap (λ b. cond (not b) (m ∷ without n ms) (without n ms)) (differ m n h)

pub without-none : (n : ℕ) (ns : List ℕ) → (Contains ns n → ⊥) → without n ns ≡ ns
without-none n [] h = refl
without-none n (m ∷ ms) h =
    without-cons n m ms (λ e. h (subst (λ k. Contains (m ∷ ms) k) e (here m ms))) ∙ ap (λ ks. m ∷ ks) (without-none n ms (λ i. h (there m n ms i)))

-- a number that was taken out stands there no longer
gone_or : (a n : ℕ) (ns : List ℕ) (b : Bool) → (n == a) ≡ b → (Contains ns a → ⊥) → Contains (cond (not b) (n ∷ ns) ns) a → ⊥
gone_or a n ns true q out i = out i
gone_or a n ns false q out i = elim (among n a ns i) [ inl p ↦ false≢true (sym q ∙ eq-eqb n a p) | inr j ↦ out j ]

pub gone : (a : ℕ) (ns : List ℕ) → Contains (without a ns) a → ⊥
gone a [] i = none a i
gone a (n ∷ ns) i = gone_or a n (without a ns) (n == a) refl (gone a ns) i

-- and the others do
kept_or : (m n : ℕ) (ns : List ℕ) (b : Bool) → Contains ns n → Contains (cond (not b) (m ∷ ns) ns) n
kept_or m n ns true i = i
kept_or m n ns false i = there m n ns i

pub stays : (a n : ℕ) (ns : List ℕ) → n ≢ a → Contains ns n → Contains (without a ns) n
stays a n [] d i = i
stays a n (m ∷ ms) d i = elim (among m n ms i) [
  | inl e ↦ subst (λ ks. Contains ks n) (sym (without-cons a m ms (λ q. d (sym e ∙ q)))) (subst (λ k. Contains (m ∷ without a ms) k) e (here m (without a ms)))
  | inr j ↦ kept_or m n (without a ms) (m == a) (stays a n ms d j)
]

pub without-split : (front : List ℕ) (n : ℕ) (back : List ℕ) → IsOnce (front ++ n ∷ back) → without n (front ++ n ∷ back) ≡ front ++ back
without-split [] n back h = ap (λ b. cond (not b) (n ∷ without n back) (without n back)) (eq-eqb n n refl) ∙ without-none n back h.0
without-split (m ∷ front) n back h =
    without-cons n m (front ++ n ∷ back) (λ e. h.0 (subst (λ k. Contains (front ++ n ∷ back) k) (sym e) (in_middle front n back)))
    ∙ ap (λ ks. m ∷ ks) (without-split front n back h.1)

pub once-split : (front : List ℕ) (n : ℕ) (back : List ℕ) → IsOnce (front ++ n ∷ back) → IsOnce (front ++ back)
once-split [] n back h = h.1
once-split (m ∷ front) n back h = (λ i. h.0 (within-split front n back m i), once-split front n back h.1)

pub once-push : (ns : List ℕ) (n : ℕ) → IsOnce ns → (Contains ns n → ⊥) → IsOnce (ns ++ n ∷ [])
once-push [] n h out = (none n, tt)
once-push (m ∷ ms) n h out = (
  λ i. elim (Contains-push_cases ms n m i) [
    | inl j ↦ h.0 j
    | inr e ↦ out (subst (λ k. Contains (m ∷ ms) k) (sym e) (here m ms))
  ],
  once-push ms n h.1 (λ i. out (there m n ms i)),
)
