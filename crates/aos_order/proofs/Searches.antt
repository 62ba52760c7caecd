-- The first number or element that passes a test, and tests over a mapped list.
use Rattle.std.proofs.Common.{◌≡◌, ℕ, ◌+◌, ◌<◌, ◌≤◌, zero, suc, List, [], ◌∷◌, ◌++◌, length, take, drop, get_or, map, Bool, true, false, cond, Option, Some, None, refl, sym, ap, ◌∙◌, arith, drop-cons, add-zero, add-one, zero-add, nat_lt, inl, inr, not, ◌||◌}
use Rattle.std.specs.List.{All, find, filter, filter_map, cons_option, list_any, prefix_len, position, position_or_len, range_with_len, slice_get}
use Rattle.std.specs.Option.{option_map, option_or}
use Rattle.std.proofs.lemmas.List.{take_more, take-append-drop, length-map}
use Rattle.std.proofs.lemmas.List.Elements.{All-nil, All-cons, filter-append, filter_map-append}
use Rattle.std.proofs.lemmas.List.Folds.{find-append, find_at}
use Rattle.std.proofs.lemmas.List.Sums.{position_or_len_is}
use Rattle.std.proofs.lemmas.List.FromFn.{get_or-range_with_len, length-range_with_len}
use Rattle.std.proofs.lemmas.Option.{slice_get-get_or, slice_get_cases}

pub in_range : (n j : ℕ) → j < n → get_or (range_with_len 0 n) j 0 ≡ j
in_range n j lt = get_or-range_with_len 0 n j 0 lt ∙ zero-add j

module _ (p : ℕ → Bool) (n : ℕ) where
  place : (k : ℕ) → k ≤ n → ((j : ℕ) → j < k → p j ≡ false) → (k < n → p k ≡ true) → position_or_len p (range_with_len 0 n) ≡ k
  place k le before here =
      let size = length-range_with_len 0 n in
      position_or_len_is p (range_with_len 0 n) k 0 (omega arith)
      (λ j lt. let m : j < n = omega arith in ap p (in_range n j m) ∙ before j lt)
      (λ lt. let m : k < n = omega arith in ap p (in_range n k m) ∙ here m)

  -- the first number below n that passes
  pub find_first : (k : ℕ) → k < n → p k ≡ true → ((j : ℕ) → j < k → p j ≡ false) → find p (range_with_len 0 n) ≡ Some k
  find_first k lt here before =
      let xs = range_with_len 0 n in
      let size = length-range_with_len 0 n in
      let le : k ≤ n = omega arith in
      find_at p xs ∙ ap (slice_get xs) (place k le before (λ _. here)) ∙ slice_get-get_or xs k 0 (omega arith) ∙ ap Some (in_range n k lt)

  -- and where none does
  pub find_none : ((j : ℕ) → j < n → p j ≡ false) → find p (range_with_len 0 n) ≡ None
  find_none fails =
      let xs = range_with_len 0 n in
      let size = length-range_with_len 0 n in
      let le : n ≤ n = omega arith in
      find_at p xs ∙ ap (slice_get xs) (place n le fails (λ lt. absurd (omega arith)))
      ∙ elim (slice_get_cases xs n).1 [ inl found ↦ absurd (omega (arith, found.1)) | inr past ↦ past.1 ]

module _ {X : Type 0} (p : X → Bool) (xs : List X) (i : ℕ) (d : X) where
  -- the first element that passes, behind those that don't
  pub find_here : i < length xs → find p (take i xs) ≡ None → p (get_or xs i d) ≡ true → find p xs ≡ Some (get_or xs i d)
  find_here lt before here =
      let x = get_or xs i d in
      ap (find p) (sym (take-append-drop i xs)) ∙ find-append p (take i xs) (drop i xs)
      ∙ ap (λ r. option_or r (find p (drop i xs))) before
      ∙ ap (find p) (drop-cons xs i d lt)
      ∙ ap (λ b. cond b (Some x) (find p (drop (suc i) xs))) here

  -- one element more that doesn't pass
  pub find_further : i < length xs → find p (take i xs) ≡ None → p (get_or xs i d) ≡ false → find p (take (i + 1) xs) ≡ None
  find_further lt before fails =
      let x = get_or xs i d in
      ap (find p) (take_more xs i d lt) ∙ find-append p (take i xs) (x ∷ [])
      ∙ ap (λ r. option_or r (find p (x ∷ []))) before ∙ ap (λ b. cond b (Some x) None) fails

option_map_by : {X Y : Type 0} (f : X → Y) (b : Bool) (x : X) (r : Option X) → cond b (Some (f x)) (option_map f r) ≡ option_map f (cond b (Some x) r)
option_map_by f true x r = refl
option_map_by f false x r = refl

module _ {X Y : Type 0} (f : X → Y) where
  pub find-map : (p : Y → Bool) (xs : List X) → find p (map f xs) ≡ option_map f (find (λ x. p (f x)) xs)
  find-map p [] = refl
  find-map p (x ∷ xs) = ap (λ r. cond (p (f x)) (Some (f x)) r) (find-map p xs) ∙ option_map_by f (p (f x)) x (find (λ y. p (f y)) xs)

  pub filter_map-map : {Z : Type 0} (h : Y → Option Z) (xs : List X) → filter_map h (map f xs) ≡ filter_map (λ x. h (f x)) xs
  filter_map-map h [] = refl
  filter_map-map h (x ∷ xs) = ap (λ r. cons_option (h (f x)) r) (filter_map-map h xs)

  pub list_any-map : (p : Y → Bool) (xs : List X) → list_any p (map f xs) ≡ list_any (λ x. p (f x)) xs
  list_any-map p [] = refl
  list_any-map p (x ∷ xs) = ap (λ b. p (f x) || b) (list_any-map p xs)

  prefix_len-map : (p : Y → Bool) (xs : List X) → prefix_len p (map f xs) ≡ prefix_len (λ x. p (f x)) xs
  prefix_len-map p [] = refl
  prefix_len-map p (x ∷ xs) = ap (λ n. cond (p (f x)) (1 + n) 0) (prefix_len-map p xs)

  pub position_or_len-map : (p : Y → Bool) (xs : List X) → position_or_len p (map f xs) ≡ position_or_len (λ x. p (f x)) xs
  position_or_len-map p xs = prefix_len-map (λ y. not (p y)) xs

  pub position-map : (p : Y → Bool) (xs : List X) → position p (map f xs) ≡ position (λ x. p (f x)) xs
  position-map p xs =
      ap (λ n. cond (nat_lt n (length (map f xs))) (Some n) None) (position_or_len-map p xs)
      ∙ ap (λ m. let n = position_or_len (λ x. p (f x)) xs in cond (nat_lt n m) (Some n) None) (length-map xs f)

-- one element more of a walk
pub filter_map_more : {X Y : Type 0} (h : X → Option Y) (xs : List X) (i : ℕ) (d : X) → i < length xs →
    filter_map h (take (i + 1) xs) ≡ filter_map h (take i xs) ++ cons_option (h (get_or xs i d)) []
filter_map_more h xs i d lt = ap (filter_map h) (take_more xs i d lt) ∙ filter_map-append h (take i xs) (get_or xs i d ∷ [])

pub negated : (n b c : Bool) → n ≡ not b → n ≡ c → b ≡ not c
negated n true c is at = sym (ap not (sym at ∙ is))
negated n false c is at = sym (ap not (sym at ∙ is))

-- a number that was found is one of those that were searched, and passes
module _ (p : ℕ → Bool) where
  abbrev IsFound : ℕ → ℕ → ℕ → Type 0
  IsFound a n k = (a ≤ k) × (k < a + n) × (p k ≡ true)

  found_here : (a n k : ℕ) (b : Bool) (rest : Option ℕ) → p a ≡ b → (rest ≡ Some k → IsFound (a + 1) n k) → cond b (Some a) rest ≡ Some k → IsFound a (suc n) k
  found_here a n k true rest is more e = let same : a ≡ k = cc in (omega arith, omega arith, ap p (sym same) ∙ is)
  found_here a n k false rest is more e = let later = more e in (omega (arith, later.0), omega (arith, later.1), later.2)

  found_from : (a n k : ℕ) → find p (range_with_len a n) ≡ Some k → IsFound a n k
  found_from a zero k e = cc
  found_from a (suc n) k e = found_here a n k (p a) (find p (range_with_len (a + 1) n)) refl (found_from (a + 1) n k) e

  pub found : (n k : ℕ) → find p (range_with_len 0 n) ≡ Some k → (k < n) × (p k ≡ true)
  found n k e = let r = found_from 0 n k e in (omega (arith, r.1), r.2)

within_by : (b : Bool) (n m : ℕ) → ((b ≡ false) → n < m) → cond (not b) (1 + n) 0 < suc m
within_by true n m rest = omega arith
within_by false n m rest = let r = rest refl in omega (arith, r)

pub position_within : {X : Type 0} (p : X → Bool) (xs : List X) → list_any p xs ≡ true → position_or_len p xs < length xs
position_within p [] e = cc
position_within p (x ∷ xs) e =
    within_by (p x) (position_or_len p xs) (length xs) (λ is. position_within p xs (ap (λ b. b || list_any p xs) (sym is) ∙ e))

-- one number more at the end of a range
range_more : (a n : ℕ) → range_with_len a (suc n) ≡ range_with_len a n ++ (a + n) ∷ []
range_more a zero = ap (λ m. m ∷ []) (sym (add-zero a))
range_more a (suc n) = let e : (a + 1) + n ≡ a + suc n = omega arith in ap (λ l. a ∷ l) (range_more (a + 1) n) ∙ ap (λ m. a ∷ (range_with_len (a + 1) n ++ m ∷ [])) e

pub filter_range_more : (p : ℕ → Bool) (n : ℕ) → filter p (range_with_len 0 (n + 1)) ≡ filter p (range_with_len 0 n) ++ cond (p n) (n ∷ []) []
filter_range_more p n =
    ap (λ m. filter p (range_with_len 0 m)) (add-one n) ∙ ap (filter p) (range_more 0 n ∙ ap (λ m. range_with_len 0 n ++ m ∷ []) (zero-add n))
    ∙ filter-append p (range_with_len 0 n) (n ∷ [])

pub all_below : (a n : ℕ) → All (λ k. k < a + n) (range_with_len a n)
all_below a zero = All-nil (λ k. k < a + 0)
all_below a (suc n) =
    let rest = all_below (a + 1) n in
    All-cons (λ k. k < a + suc n) a (range_with_len (a + 1) n) (omega arith) (λ k d lt. let r = rest k d lt in omega (arith, r))
