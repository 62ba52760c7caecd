-- What was known of contents stays known as frames are put on top and objects are made.
use Rattle.std.proofs.Common.{◌≡◌, ℕ, zero, suc, ◌<◌, List, [], ◌∷◌, ◌++◌, length, map, Option, Some, None, refl, sym, ap, ◌∙◌, arith}
use Rattle.std.specs.Prelude.{option_and_then, option_map, slice_get, Bool, true, false, nat_eq, if◌then◌else◌}
use Rattle.std.proofs.lemmas.List.{map-append}
use Rattle.std.proofs.lemmas.Bool.{eqb-true}
use Rattle.aos_base.specs.declared.root.Root.{Root}
use Rattle.aos_base.specs.declared.root.Root.TheVariants.{Frame, Module, Object}
use Rattle.aos_base.specs.Rooted.{Made, from_last, by_number}
use Rattle.aos_types.specs.Shape.{Shape, One, Nothing, Pair, inside, offset, number_of}
use Rattle.aos_types.specs.Content.{Content, Scalar, Empty, Row, flatten, Fits, EachSort}
use Rattle.aos_types.specs.World.{World, MadeAlike, Grows, shape_at, cell_at, Scheme, world, root_shape}
use Rattle.aos_memory_laws.specs.Shows.{AreKept}

module _ {S : Type 0} where
  pub grows_same : (w : World S) → Grows w w
  grows_same w = record { shapes = λ r s e. e; made = λ o m e. e }

  pub grows_twice : (a b c : World S) → Grows a b → Grows b c → Grows a c
  grows_twice a b c f g = record { shapes = λ r s e. g.shapes r s (f.shapes r s e); made = λ o m e. g.made o m (f.made o m e) }

  module _ (w w' : World S) (g : Grows w w') where
    -- a place keeps its shape
    pub shape_grows : (r : Root) (p : List ℕ) (s : Shape S) → shape_at w r p ≡ Some s → shape_at w' r p ≡ Some s
    shape_grows r p s e = at_shape (w.shape r) refl e
      where
        at_shape : (o : Option (Shape S)) → w.shape r ≡ o → option_and_then (inside p) o ≡ Some s → shape_at w' r p ≡ Some s
        at_shape None here e' = absurd (cc)
        at_shape (Some z) here e' = ap (option_and_then (inside p)) (g.shapes r z here) ∙ e'

    -- and its cell
    pub cell_grows : (r : Root) (p : List ℕ) (s : Shape S) → shape_at w r p ≡ Some s → cell_at w r p ≡ cell_at w' r p
    cell_grows r p s e = at_shape (w.shape r) refl e
      where
        at_shape : (o : Option (Shape S)) → w.shape r ≡ o → option_and_then (inside p) o ≡ Some s → cell_at w r p ≡ cell_at w' r p
        at_shape None here e' = absurd (cc)
        at_shape (Some z) here e' = ap (number_of (offset p)) (here ∙ sym (g.shapes r z here))

-- contents fit where each scalar does
pub fits_where : {S V : Type 0} (Is Is' : S → V → Type 0) (P : S → Type 0) → ((k : S) (v : V) → P k → Is k v → Is' k v) → (s : Shape S) (c : Content V) → EachSort P s → Fits Is s c → Fits Is' s c
fits_where Is Is' P g (One k) (Scalar v) p h = g k v p h
fits_where Is Is' P g (One k) Empty p h = absurd h
fits_where Is Is' P g (One k) (Row x y) p h = absurd h
fits_where Is Is' P g Nothing (Scalar v) p h = absurd h
fits_where Is Is' P g Nothing Empty p h = tt
fits_where Is Is' P g Nothing (Row x y) p h = absurd h
fits_where Is Is' P g (Pair a b) (Scalar v) p h = absurd h
fits_where Is Is' P g (Pair a b) Empty p h = absurd h
fits_where Is Is' P g (Pair a b) (Row x y) p h = (fits_where Is Is' P g a x p.0 h.0, fits_where Is Is' P g b y p.1 h.1)

any_sort : {S : Type 0} (s : Shape S) → EachSort (λ k. Unit {0}) s
any_sort (One k) = tt
any_sort Nothing = tt
any_sort (Pair a b) = (any_sort a, any_sort b)

module _ {S V C : Type 0} (Is : World S → S → V → Type 0) (cell : World S → V → C) (IsPlain : S → Type 0) (kept : AreKept Is cell IsPlain) where
  pub fits_grows : (w w' : World S) → Grows w w' → (s : Shape S) (c : Content V) → Fits (Is w) s c → Fits (Is w') s c
  fits_grows w w' g s c h = fits_where (Is w) (Is w') (λ k. Unit {0}) (λ k v p i. kept.is w w' g k v i) s c (any_sort s) h

  -- plain values are of their sorts wherever the objects are the same
  pub fits_plain : (w w' : World S) → MadeAlike w w' → (s : Shape S) (c : Content V) → EachSort IsPlain s → Fits (Is w) s c → Fits (Is w') s c
  fits_plain w w' g s c p h = fits_where (Is w) (Is w') IsPlain (λ k v q i. kept.plain w w' g k v q i) s c p h

  -- contents keep their cells
  pub cells_grow : (w w' : World S) → Grows w w' → (s : Shape S) (c : Content V) → Fits (Is w) s c → map (cell w) (flatten c) ≡ map (cell w') (flatten c)
  cells_grow w w' g (One k) (Scalar v) h = ap (λ x. x ∷ []) (kept.cells w w' g k v h)
  cells_grow w w' g (One k) Empty h = absurd h
  cells_grow w w' g (One k) (Row x y) h = absurd h
  cells_grow w w' g Nothing (Scalar v) h = absurd h
  cells_grow w w' g Nothing Empty h = refl
  cells_grow w w' g Nothing (Row x y) h = absurd h
  cells_grow w w' g (Pair a b) (Scalar v) h = absurd h
  cells_grow w w' g (Pair a b) Empty h = absurd h
  cells_grow w w' g (Pair a b) (Row x y) h =
      map-append (cell w) (flatten x) (flatten y)
      ∙ (λ i. cells_grow w w' g a x h.0 i ++ cells_grow w w' g b y h.1 i)
      ∙ sym (map-append (cell w') (flatten x) (flatten y))

-- an element keeps its number from the end
from_last_below : {X : Type 0} (d : ℕ) (xs : List X) (x : X) → from_last d xs ≡ Some x → d < length xs
from_last_below d [] x e = absurd (cc)
from_last_below d (z ∷ xs) x e = at_test (λ e'. from_last_below d xs x e') (nat_eq d (length xs)) refl e
  where
    at_test : (from_last d xs ≡ Some x → d < length xs) → (b : Bool) → nat_eq d (length xs) ≡ b → (if b then Some z else from_last d xs) ≡ Some x → d < suc (length xs)
    at_test ih true q e' = let h = eqb-true d (length xs) q in omega (arith, h)
    at_test ih false q e' = let h = ih e' in omega (arith, h)

from_last_grows : {X : Type 0} (d : ℕ) (z : X) (xs : List X) (x : X) → from_last d xs ≡ Some x → from_last d (z ∷ xs) ≡ Some x
from_last_grows d z xs x e =
    let l = from_last_below d xs x e in
    ap (λ b. if b then Some z else from_last d xs) (different d (length xs) l) ∙ e
  where
    different : (a b : ℕ) → a < b → nat_eq a b ≡ false
    different a b l = at_test (nat_eq a b) refl
      where
        at_test : (t : Bool) → nat_eq a b ≡ t → nat_eq a b ≡ false
        at_test true q = let h = eqb-true a b q in absurd (omega (arith, h, l))
        at_test false q = q

get_grows : {X : Type 0} (i : ℕ) (xs ys : List X) (x : X) → slice_get xs i ≡ Some x → slice_get (xs ++ ys) i ≡ Some x
get_grows i [] ys x e = absurd (cc)
get_grows zero (z ∷ xs) ys x e = e
get_grows (suc i) (z ∷ xs) ys x e = get_grows i xs ys x e

-- an element keeps its number from the beginning
pub number_grows : {X : Type 0} (i : ℕ) (xs ys : List X) (x : X) → by_number i xs ≡ Some x → by_number i (xs ++ ys) ≡ Some x
number_grows zero xs ys x e = absurd (cc)
number_grows (suc i) xs ys x e = get_grows i xs ys x e

module _ {S : Type 0} (scheme : Scheme S) where
  -- one more frame
  pub frame_grows : (made : List Made) (s : Shape S) (frames : List (Shape S)) → Grows (world scheme made frames) (world scheme made (s ∷ frames))
  frame_grows made s frames = record { shapes = shapes; made = λ o m e. e }
    where
      shapes : (r : Root) (z : Shape S) → root_shape scheme made frames r ≡ Some z → root_shape scheme made (s ∷ frames) r ≡ Some z
      shapes (Frame d) z e = from_last_grows d s frames z e
      shapes (Module m) z e = e
      shapes (Object o) z e = e

  -- no frame, and some
  pub frames_grow : (made : List Made) (frames : List (Shape S)) → Grows (world scheme made []) (world scheme made frames)
  frames_grow made [] = grows_same (world scheme made [])
  frames_grow made (s ∷ frames) =
      grows_twice (world scheme made []) (world scheme made frames) (world scheme made (s ∷ frames)) (frames_grow made frames) (frame_grows made s frames)

  -- more objects
  pub objects_grow : (made more : List Made) (frames : List (Shape S)) → Grows (world scheme made frames) (world scheme (made ++ more) frames)
  objects_grow made more frames = record { shapes = shapes; made = λ o m e. number_grows o made more m e }
    where
      of_number : {A : Type 0} (f : Made → A) (o : ℕ) (t : A) (m : Option Made) → by_number o made ≡ m → option_map f m ≡ Some t → option_map f (by_number o (made ++ more)) ≡ Some t
      of_number f o t None here e = absurd (cc)
      of_number f o t (Some m) here e = ap (option_map f) (number_grows o made more m here) ∙ e

      shapes : (r : Root) (z : Shape S) → root_shape scheme made frames r ≡ Some z → root_shape scheme (made ++ more) frames r ≡ Some z
      shapes (Frame d) z e = e
      shapes (Module m) z e = e
      shapes (Object o) z e = of_number scheme.made o z (by_number o made) refl e
