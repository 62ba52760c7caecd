-- A loop that numbers what stands in a list: those before a place have their numbers, and those behind it still get theirs.
use Rattle.std.proofs.Common.{◌≡◌, ℕ, zero, suc, ◌+◌, ◌<◌, ◌≤◌, List, [], ◌∷◌, length, map, sum_by, get_or, slice_set, refl, sym, ap, ◌∙◌, add-one, arith}
use Rattle.std.proofs.lemmas.List.{get_or-map, get_or-set_other, length-map, length-set, map-set}
use Rattle.std.proofs.lemmas.List.Sums.{sum_by-cons}
use Rattle.aos_await.specs.Counts.{each_from}

module _ {A : Type 0} (count : A → ℕ) (f : ℕ → A → A) where
  -- the whole, where those from this place on get the numbers from this one on
  abbrev pub left : (place n : ℕ) → List A → List A
  left zero n xs = each_from count f n xs
  left (suc k) n [] = []
  left (suc k) n (x ∷ xs) = x ∷ left k n xs

  -- how many numbers those take
  abbrev pub counted : (place : ℕ) → List A → ℕ
  counted zero xs = sum_by count xs
  counted (suc k) [] = 0
  counted (suc k) (x ∷ xs) = counted k xs

  pub left_step : (k n : ℕ) (xs : List A) (d x : A) → k < length xs → x ≡ f n (get_or xs k d) → left (suc k) (n + count (get_or xs k d)) (slice_set xs k x) ≡ left k n xs
  left_step k n [] d x below is = absurd (omega (arith, below))
  left_step zero n (y ∷ ys) d x below is = ap (λ z. z ∷ each_from count f (n + count y) ys) is
  left_step (suc k) n (y ∷ ys) d x below is = ap (λ zs. y ∷ zs) (left_step k n ys d x (omega (arith, below)) is)

  pub counted_step : (k : ℕ) (xs : List A) (d x : A) → k < length xs → count (get_or xs k d) + counted (suc k) (slice_set xs k x) ≡ counted k xs
  counted_step k [] d x below = absurd (omega (arith, below))
  counted_step zero (y ∷ ys) d x below = sym (sum_by-cons count y ys)
  counted_step (suc k) (y ∷ ys) d x below = counted_step k ys d x (omega (arith, below))

  pub left_end : (k n : ℕ) (xs : List A) → length xs ≤ k → left k n xs ≡ xs
  left_end zero n [] most = refl
  left_end zero n (x ∷ xs) most = absurd (omega (arith, most))
  left_end (suc k) n [] most = refl
  left_end (suc k) n (x ∷ xs) most = ap (λ zs. x ∷ zs) (left_end k n xs (omega (arith, most)))

  pub counted_end : (k : ℕ) (xs : List A) → length xs ≤ k → counted k xs ≡ 0
  counted_end zero [] most = refl
  counted_end zero (x ∷ xs) most = absurd (omega (arith, most))
  counted_end (suc k) [] most = refl
  counted_end (suc k) (x ∷ xs) most = counted_end k xs (omega (arith, most))

-- the same of what the code's elements are seen as, after one more
module _ {X A : Type 0} (seen : X → A) (count : A → ℕ) (f : ℕ → A → A) where
  pub one_more : (k n : ℕ) (xs : List X) (d y : X) → k < length xs → seen y ≡ f n (seen (get_or xs k d)) →
      left count f (k + 1) (n + count (seen (get_or xs k d))) (map seen (slice_set xs k y)) ≡ left count f k n (map seen xs)
  one_more k n xs d y below is =
      let here = get_or-map seen xs k d (seen d) below in
      ap (λ j. left count f j (n + count (seen (get_or xs k d))) (map seen (slice_set xs k y))) (add-one k)
      ∙ ap (λ zs. left count f (suc k) (n + count (seen (get_or xs k d))) zs) (map-set seen xs k y)
      ∙ ap (λ z. left count f (suc k) (n + count z) (slice_set (map seen xs) k (seen y))) (sym here)
      ∙ left_step count f k n (map seen xs) (seen d) (seen y) (omega (arith, below, length-map xs seen)) (is ∙ ap (f n) (sym here))

  pub one_less : (k : ℕ) (xs : List X) (d y : X) → k < length xs → count (seen (get_or xs k d)) + counted count f (k + 1) (map seen (slice_set xs k y)) ≡ counted count f k (map seen xs)
  one_less k xs d y below =
      let here = get_or-map seen xs k d (seen d) below in
      ap (λ j. count (seen (get_or xs k d)) + counted count f j (map seen (slice_set xs k y))) (add-one k)
      ∙ ap (λ zs. count (seen (get_or xs k d)) + counted count f (suc k) zs) (map-set seen xs k y)
      ∙ ap (λ z. count z + counted count f (suc k) (slice_set (map seen xs) k (seen y))) (sym here)
      ∙ counted_step count f k (map seen xs) (seen d) (seen y) (omega (arith, below, length-map xs seen))

  -- and behind the last one
  pub all_done : (k n m : ℕ) (xs ys : List X) → length xs ≤ k → left count f k n (map seen xs) ≡ each_from count f m (map seen ys) → map seen xs ≡ each_from count f m (map seen ys)
  all_done k n m xs ys most is = sym (left_end count f k n (map seen xs) (omega (arith, most, length-map xs seen))) ∙ is

  pub none_left : (k n m : ℕ) (xs ys : List X) → length xs ≤ k → n + counted count f k (map seen xs) ≡ m + sum_by count (map seen ys) → n ≡ m + sum_by count (map seen ys)
  none_left k n m xs ys most is =
      let none = counted_end count f k (map seen xs) (omega (arith, most, length-map xs seen)) in omega (arith, none, is)

-- the elements behind the one that is changed stay
pub stay_behind : {X : Type 0} (k : ℕ) (xs ys : List X) (y : X) → (length xs ≡ length ys) × ((j : ℕ) (d : X) → k ≤ j → get_or xs j d ≡ get_or ys j d) →
    (length (slice_set xs k y) ≡ length ys) × ((j : ℕ) (d : X) → k + 1 ≤ j → get_or (slice_set xs k y) j d ≡ get_or ys j d)
stay_behind k xs ys y so_far = (
  length-set xs k y ∙ so_far.0,
  λ j d above. get_or-set_other xs k j y d (λ e. absurd (omega (arith, above, e))) ∙ so_far.1 j d (omega (arith, above)),
)
