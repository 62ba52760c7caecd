-- Rows of parts: how many there are, and where they lie in two rows that are joined.
use Rattle.std.proofs.Common.{◌≡◌, ℕ, zero, suc, ◌+◌, ◌*◌, ◌<◌, ◌≤◌, List, [], ◌∷◌, map, length, get_or, Some, refl, ap, ◌∙◌, subst, arith}
use Rattle.std.proofs.Math.Nat.{suc-mul}
use Rattle.aos_types.specs.Shape as shape
use Rattle.aos_types.specs.Shape.{Shape, One, Nothing, Pair, size, join, part, before}
use Rattle.aos_layout.specs.TypeParts.{width}

pub width_repeated : {S : Type 0} (n : ℕ) (s : Shape S) → width (shape.repeated n s) ≡ n
width_repeated zero s = refl
width_repeated (suc n) s = ap (λ k. suc k) (width_repeated n s)

pub width_row : {S : Type 0} (ss : List (Shape S)) → width (shape.row ss) ≡ length ss
width_row [] = refl
width_row (s ∷ ss) = ap (λ k. suc k) (width_row ss)

module _ {S : Type 0} where
  pub width_join : (a b : Shape S) → width (join a b) ≡ width a + width b
  width_join (One k) b = omega arith
  width_join Nothing b = omega arith
  width_join (Pair x y) b = let h = width_join y b in omega (arith, h)

  pub size_join : (a b : Shape S) → size (join a b) ≡ size a + size b
  size_join (One k) b = refl
  size_join Nothing b = omega arith
  size_join (Pair x y) b = let h = size_join y b in omega (arith, h)

  pub join_assoc : (a b c : Shape S) → join (join a b) c ≡ join a (join b c)
  join_assoc (One k) b c = refl
  join_assoc Nothing b c = refl
  join_assoc (Pair x y) b c = ap (Pair x) (join_assoc y b c)

  pub row_ends : (ss : List (Shape S)) → join (shape.row ss) Nothing ≡ shape.row ss
  row_ends [] = refl
  row_ends (s ∷ ss) = ap (Pair s) (row_ends ss)

  pub repeated_ends : (n : ℕ) (s : Shape S) → join (shape.repeated n s) Nothing ≡ shape.repeated n s
  repeated_ends zero s = refl
  repeated_ends (suc n) s = ap (Pair s) (repeated_ends n s)

  -- a part of the first row
  pub part_first : (i : ℕ) (a b : Shape S) → i < width a → part i (join a b) ≡ part i (join a Nothing)
  part_first zero (One k) b l = refl
  part_first (suc i) (One k) b l = absurd (omega arith)
  part_first i Nothing b l = absurd (omega arith)
  part_first zero (Pair x y) b l = refl
  part_first (suc i) (Pair x y) b l = part_first i y b (omega arith)

  pub before_first : (i : ℕ) (a b : Shape S) → i < width a → before i (join a b) ≡ before i (join a Nothing)
  before_first zero (One k) b l = refl
  before_first (suc i) (One k) b l = absurd (omega arith)
  before_first i Nothing b l = absurd (omega arith)
  before_first zero (Pair x y) b l = refl
  before_first (suc i) (Pair x y) b l = ap (λ n. size x + n) (before_first i y b (omega arith))

  -- a part of the second row
  pub part_second : (i k : ℕ) (a b : Shape S) → i ≡ width a + k → part i (join a b) ≡ part k b
  part_second zero k (One x) b e = absurd (omega arith)
  part_second (suc i) k (One x) b e = let h : i ≡ k = omega arith in ap (λ n. part n b) h
  part_second i k Nothing b e = let h : i ≡ k = omega arith in ap (λ n. part n b) h
  part_second zero k (Pair x y) b e = absurd (omega arith)
  part_second (suc i) k (Pair x y) b e = part_second i k y b (omega arith)

  pub before_second : (i k : ℕ) (a b : Shape S) → i ≡ width a + k → before i (join a b) ≡ size a + before k b
  before_second zero k (One x) b e = absurd (omega arith)
  before_second (suc i) k (One x) b e = let h : i ≡ k = omega arith in ap (λ n. 1 + before n b) h
  before_second i k Nothing b e = let h : i ≡ k = omega arith in ap (λ n. before n b) h ∙ omega arith
  before_second zero k (Pair x y) b e = absurd (omega arith)
  before_second (suc i) k (Pair x y) b e = let h = before_second i k y b (omega arith) in omega (arith, h)

  -- what has a part is a row already
  pub part_of_row : (i : ℕ) (s m : Shape S) → part i s ≡ Some m → part i (join s Nothing) ≡ Some m
  part_of_row i (One k) m e = absurd (cc)
  part_of_row i Nothing m e = absurd (cc)
  part_of_row zero (Pair x y) m e = e
  part_of_row (suc i) (Pair x y) m e = part_of_row i y m e

  pub before_in_row : (i : ℕ) (s m : Shape S) → part i s ≡ Some m → before i (join s Nothing) ≡ before i s
  before_in_row i (One k) m e = absurd (cc)
  before_in_row i Nothing m e = absurd (cc)
  before_in_row zero (Pair x y) m e = refl
  before_in_row (suc i) (Pair x y) m e = ap (λ n. size x + n) (before_in_row i y m e)

  pub part_counted : (i : ℕ) (s m : Shape S) → part i s ≡ Some m → i < width s
  part_counted i (One k) m e = absurd (cc)
  part_counted i Nothing m e = absurd (cc)
  part_counted zero (Pair x y) m e = omega arith
  part_counted (suc i) (Pair x y) m e = let h = part_counted i y m e in omega (arith, h)

  pub before_within : (i : ℕ) (s m : Shape S) → part i s ≡ Some m → before i s + size m ≤ size s
  before_within i (One k) m e = absurd (cc)
  before_within i Nothing m e = absurd (cc)
  before_within zero (Pair x y) m e = let h : x ≡ m = cc in subst (λ z. 0 + size z ≤ size x + size y) h (omega arith)
  before_within (suc i) (Pair x y) m e = let h = before_within i y m e in omega (arith, h)

  pub before_first_part : (s : Shape S) → before 0 s ≡ 0
  before_first_part (One k) = refl
  before_first_part Nothing = refl
  before_first_part (Pair x y) = refl

  -- a part of a row of equal parts
  pub part_repeated : (n i : ℕ) (s : Shape S) → i < n → part i (shape.repeated n s) ≡ Some s
  part_repeated zero i s l = absurd (omega arith)
  part_repeated (suc n) zero s l = refl
  part_repeated (suc n) (suc i) s l = part_repeated n i s (omega arith)

  pub before_repeated : (n i : ℕ) (s : Shape S) → i < n → before i (shape.repeated n s) ≡ i * size s
  before_repeated zero i s l = absurd (omega arith)
  before_repeated (suc n) zero s l = omega arith
  before_repeated (suc n) (suc i) s l = let h = before_repeated n i s (omega arith) in let m = suc-mul i (size s) in omega (arith, h, m)

  -- a part of a row that is made of a list
  module _ {A : Type 0} (f : A → Shape S) where
    pub part_row : (xs : List A) (i : ℕ) (d : A) → i < length xs → part i (shape.row (map f xs)) ≡ Some (f (get_or xs i d))
    part_row [] i d l = absurd (omega arith)
    part_row (x ∷ xs) zero d l = refl
    part_row (x ∷ xs) (suc i) d l = part_row xs i d (omega arith)

    pub before_row : (xs : List A) (i : ℕ) (d : A) → i < length xs → before (suc i) (shape.row (map f xs)) ≡ before i (shape.row (map f xs)) + size (f (get_or xs i d))
    before_row [] i d l = absurd (omega arith)
    before_row (x ∷ xs) zero d l = let h = before_first_part (shape.row (map f xs)) in omega (arith, h)
    before_row (x ∷ xs) (suc i) d l = let h = before_row xs i d (omega arith) in omega (arith, h)

    pub within_row : (xs : List A) (i : ℕ) (d : A) → i < length xs → before i (shape.row (map f xs)) + size (f (get_or xs i d)) ≤ size (shape.row (map f xs))
    within_row xs i d l = before_within i (shape.row (map f xs)) (f (get_or xs i d)) (part_row xs i d l)
