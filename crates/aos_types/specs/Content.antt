-- What a variable holds, as a tree with scalars at its leaves; what a way reads and writes there.
use Rattle.std.specs.Prelude.{ℕ, zero, suc, List, [], ◌∷◌, ◌++◌, Option, Some, None, option_and_then}
use Rattle.aos_types.specs.Shape.{Shape, One, Nothing, Pair}

-- a scalar, or a row of contents. V: values of scalars
pub data Content (V : Type 0) : Type 0 where
  Scalar : V → Content V
  Empty : Content V
  Row : (first rest : Content V) → Content V

module _ {V : Type 0} where
  -- the scalars in order
  abbrev pub flatten : Content V → List V
  flatten (Scalar v) = v ∷ []
  flatten Empty = []
  flatten (Row a b) = flatten a ++ flatten b

  abbrev pub element : ℕ → Content V → Option (Content V)
  element i (Scalar v) = None
  element i Empty = None
  element zero (Row a b) = Some a
  element (suc i) (Row a b) = element i b

  -- the same row with one element changed
  abbrev pub with_element : ℕ → (Content V → Content V) → Content V → Content V
  with_element i f (Scalar v) = Scalar v
  with_element i f Empty = Empty
  with_element zero f (Row a b) = Row (f a) b
  with_element (suc i) f (Row a b) = Row a (with_element i f b)

  -- what a way leads to
  abbrev pub found : List ℕ → Content V → Option (Content V)
  found [] c = Some c
  found (i ∷ p) c = option_and_then (found p) (element i c)

  -- the same with this there
  abbrev pub placed : List ℕ → Content V → Content V → Content V
  placed [] new c = new
  placed (i ∷ p) new c = with_element i (placed p new) c

  -- two rows, one behind the other
  abbrev pub joined : Content V → Content V → Content V
  joined (Scalar v) c = Row (Scalar v) c
  joined Empty c = c
  joined (Row a b) c = Row a (joined b c)

  -- contents that begin with as many parts as this shape has, which are another's
  abbrev pub overlay : {S : Type 0} → Shape S → (from to : Content V) → Content V
  overlay (One k) (Row f fs) (Row t ts) = Row f ts
  overlay (One k) (Row f fs) (Scalar v) = Scalar v
  overlay (One k) (Row f fs) Empty = Empty
  overlay (One k) (Scalar v) to = to
  overlay (One k) Empty to = to
  overlay Nothing from to = to
  overlay (Pair a b) (Row f fs) (Row t ts) = Row f (overlay b fs ts)
  overlay (Pair a b) (Row f fs) (Scalar v) = Scalar v
  overlay (Pair a b) (Row f fs) Empty = Empty
  overlay (Pair a b) (Scalar v) to = to
  overlay (Pair a b) Empty to = to

  -- the first parts of contents, as many as this shape has
  abbrev pub cut : {S : Type 0} → Shape S → Content V → Content V
  cut (One k) c = c
  cut Nothing c = Empty
  cut (Pair a b) (Row f fs) = Row f (cut b fs)
  cut (Pair a b) (Scalar v) = Scalar v
  cut (Pair a b) Empty = Empty

-- what a variable of a shape begins with, where a scalar of each sort begins as this value
abbrev pub first_content : {S V : Type 0} → (S → V) → Shape S → Content V
first_content first (One k) = Scalar (first k)
first_content first Nothing = Empty
first_content first (Pair a b) = Row (first_content first a) (first_content first b)

-- contents have a shape, where a value is of a sort so
module _ {S V : Type 0} (Is : S → V → Type 0) where
  abbrev pub Fits : Shape S → Content V → Type 0
  Fits (One k) (Scalar v) = Is k v
  Fits (One k) Empty = ⊥
  Fits (One k) (Row x y) = ⊥
  Fits Nothing (Scalar v) = ⊥
  Fits Nothing Empty = Unit {0}
  Fits Nothing (Row x y) = ⊥
  Fits (Pair a b) (Scalar v) = ⊥
  Fits (Pair a b) Empty = ⊥
  Fits (Pair a b) (Row x y) = Fits a x × Fits b y

-- each sort of a shape
abbrev pub EachSort : {S : Type 0} → (S → Type 0) → Shape S → Type 0
EachSort P (One k) = P k
EachSort P Nothing = Unit {0}
EachSort P (Pair a b) = EachSort P a × EachSort P b
