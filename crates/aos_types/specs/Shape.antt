-- A type without its names: a scalar, or a row of parts. Its size, and where its parts lie.
use Rattle.std.specs.Prelude.{ℕ, zero, suc, ◌+◌, List, [], ◌∷◌, ◌++◌, Option, Some, None, option_and_then}

-- a scalar of some sort, or a row of parts: the fields of a record or an object, or the elements of an array
pub data Shape (S : Type 0) : Type 0 where
  One : S → Shape S
  Nothing : Shape S
  Pair : (first rest : Shape S) → Shape S

module _ {S : Type 0} where
  -- how many scalars there are
  abbrev pub size : Shape S → ℕ
  size (One k) = 1
  size Nothing = 0
  size (Pair a b) = size a + size b

  -- two rows, one behind the other; a scalar is a row of its own
  abbrev pub join : Shape S → Shape S → Shape S
  join (One k) c = Pair (One k) c
  join Nothing c = c
  join (Pair a b) c = Pair a (join b c)

  -- a row of equal parts
  abbrev pub repeated : ℕ → Shape S → Shape S
  repeated zero s = Nothing
  repeated (suc n) s = Pair s (repeated n s)

  abbrev pub row : List (Shape S) → Shape S
  row [] = Nothing
  row (s ∷ ss) = Pair s (row ss)

  -- a part of a row, by its number from 0
  abbrev pub part : ℕ → Shape S → Option (Shape S)
  part i (One k) = None
  part i Nothing = None
  part zero (Pair a b) = Some a
  part (suc i) (Pair a b) = part i b

  -- how many scalars stand before a part
  abbrev pub before : ℕ → Shape S → ℕ
  before i (One k) = 0
  before i Nothing = 0
  before zero (Pair a b) = 0
  before (suc i) (Pair a b) = size a + before i b

  -- what the way to a part of a part leads to
  abbrev pub inside : List ℕ → Shape S → Option (Shape S)
  inside [] s = Some s
  inside (i ∷ p) s = option_and_then (inside p) (part i s)

  -- what a function gives, and 0 where there is nothing
  abbrev pub number_of : (Shape S → ℕ) → Option (Shape S) → ℕ
  number_of f None = 0
  number_of f (Some s) = f s

  -- how many scalars stand before what a way leads to
  abbrev pub offset : List ℕ → Shape S → ℕ
  offset [] s = 0
  offset (i ∷ p) s = before i s + number_of (offset p) (part i s)

  -- the scalars in order
  abbrev pub leaves : Shape S → List S
  leaves (One k) = k ∷ []
  leaves Nothing = []
  leaves (Pair a b) = leaves a ++ leaves b

-- a shape with other scalars
abbrev pub shaped : {S T : Type 0} → (S → T) → Shape S → Shape T
shaped f (One k) = One (f k)
shaped f Nothing = Nothing
shaped f (Pair a b) = Pair (shaped f a) (shaped f b)
