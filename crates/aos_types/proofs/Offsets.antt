-- Ways to different scalars have different offsets, all below the size.
use Rattle.std.proofs.Common.{◌≡◌, ℕ, zero, suc, ◌+◌, ◌<◌, ◌≤◌, List, [], ◌∷◌, Option, Some, None, refl, sym, ap, ◌∙◌, subst, arith}
use Rattle.std.specs.Prelude.{option_and_then}
use mathlib.Core.Logic.{◌⊎◌, inl, inr}
use Rattle.std.proofs.lemmas.Bool.{cases_order}
use Rattle.aos_types.specs.Shape.{Shape, One, Nothing, Pair, size, part, before, inside, offset, number_of}
use Rattle.aos_types.specs.Laws.{IsScalar, AreApart}

some_same : {A : Type 0} (x y : A) → Some x ≡ Some y → x ≡ y
some_same x y e = cc

module _ {S : Type 0} where
  part_within : (i : ℕ) (s m : Shape S) → part i s ≡ Some m → before i s + size m ≤ size s
  part_within i (One k) m e = absurd (cc)
  part_within i Nothing m e = absurd (cc)
  part_within zero (Pair a b) m e = let h : a ≡ m = cc in subst (λ x. 0 + size x ≤ size a + size b) h (omega arith)
  part_within (suc i) (Pair a b) m e = let h = part_within i b m e in omega (arith, h)

  parts_ordered : (i j : ℕ) (s m m' : Shape S) → i < j → part i s ≡ Some m → part j s ≡ Some m' → before i s + size m ≤ before j s
  parts_ordered i j (One k) m m' l e f = absurd (cc)
  parts_ordered i j Nothing m m' l e f = absurd (cc)
  parts_ordered zero zero (Pair a b) m m' l e f = absurd (omega arith)
  parts_ordered zero (suc j) (Pair a b) m m' l e f = let h : a ≡ m = cc in subst (λ x. 0 + size x ≤ size a + before j b) h (omega arith)
  parts_ordered (suc i) zero (Pair a b) m m' l e f = absurd (omega arith)
  parts_ordered (suc i) (suc j) (Pair a b) m m' l e f = let h = parts_ordered i j b m m' (omega arith) e f in omega (arith, h)

  -- what a way leads to lies within
  pub inside_within : (p : List ℕ) (s m : Shape S) → inside p s ≡ Some m → offset p s + size m ≤ size s
  inside_within [] s m e = let h : s ≡ m = cc in subst (λ x. 0 + size x ≤ size s) h (omega arith)
  inside_within (i ∷ p) s m e = at_part (λ k f. inside_within p k m f) (part i s) refl e
    where
      at_part : ((k : Shape S) → inside p k ≡ Some m → offset p k + size m ≤ size k) → (o : Option (Shape S)) → part i s ≡ o → option_and_then (inside p) o ≡ Some m → before i s + number_of (offset p) (part i s) + size m ≤ size s
      at_part ih None here f = absurd (cc)
      at_part ih (Some k) here f =
          let a = part_within i s k here in
          let b = ih k f in
          subst (λ o. before i s + number_of (offset p) o + size m ≤ size s) (sym here) (omega (arith, a, b))

  -- a scalar has no parts
  no_part : (i : ℕ) (p : List ℕ) (s : Shape S) (k l : S) → inside [] s ≡ Some (One k) → inside (i ∷ p) s ≡ Some (One l) → ⊥
  no_part i p s k l e f = at_part (part i s) (ap (part i) (some_same s (One k) e)) f
    where
      at_part : (o : Option (Shape S)) → o ≡ None → option_and_then (inside p) o ≡ Some (One l) → ⊥
      at_part None w g = absurd (cc)
      at_part (Some m) w g = absurd (cc)

  -- two ways to scalars at one offset are one
  pub scalars_apart : (p q : List ℕ) (s : Shape S) (k l : S) → inside p s ≡ Some (One k) → inside q s ≡ Some (One l) → offset p s ≡ offset q s → p ≡ q
  scalars_apart [] [] s k l e f o = refl
  scalars_apart [] (j ∷ q) s k l e f o = absurd (no_part j q s k l e f)
  scalars_apart (i ∷ p) [] s k l e f o = absurd (no_part i p s l k f e)
  scalars_apart (i ∷ p) (j ∷ q) s k l e f o = at_parts (λ m a b c. scalars_apart p q m k l a b c) (part i s) (part j s) refl refl e f o
    where
      -- of two different parts the later scalar has the greater offset
      later : (i j : ℕ) (p q : List ℕ) (m m' : Shape S) (k l : S) → i < j → part i s ≡ Some m → part j s ≡ Some m' → inside p m ≡ Some (One k) → before i s + offset p m < before j s + offset q m'
      later i j p q m m' k l lt e f a =
          let h = parts_ordered i j s m m' lt e f in
          let w = inside_within p m (One k) a in
          omega (arith, h, w)

      at_parts : ((m : Shape S) → inside p m ≡ Some (One k) → inside q m ≡ Some (One l) → offset p m ≡ offset q m → p ≡ q) → (x y : Option (Shape S)) → part i s ≡ x → part j s ≡ y → option_and_then (inside p) x ≡ Some (One k) → option_and_then (inside q) y ≡ Some (One l) → before i s + number_of (offset p) x ≡ before j s + number_of (offset q) y → i ∷ p ≡ j ∷ q
      at_parts ih None y ei ej a b c = absurd (cc)
      at_parts ih (Some m) None ei ej a b c = absurd (cc)
      at_parts ih (Some m) (Some m') ei ej a b c = by_order (cases_order i j)
        where
          by_order : (i ≡ j) ⊎ ((i < j) ⊎ (j < i)) → i ∷ p ≡ j ∷ q
          by_order (inl t) =
              let same : m ≡ m' = some_same m m' (sym ei ∙ ap (λ n. part n s) t ∙ ej) in
              let b' = subst (λ z. inside q z ≡ Some (One l)) (sym same) b in
              let d : before i s + offset p m ≡ before i s + offset q m = c ∙ ap (λ n. before n s + offset q m') (sym t) ∙ ap (λ z. before i s + offset q z) (sym same) in
              λ n. t n ∷ ih m a b' (omega (arith, d)) n
          by_order (inr (inl t)) = let h = later i j p q m m' k l t ei ej a in absurd (omega (arith, h, c))
          by_order (inr (inr t)) = let h = later j i q p m' m l k t ej ei b in absurd (omega (arith, h, c))

  pub apart : (s : Shape S) (p q : List ℕ) → IsScalar s p → IsScalar s q → AreApart s p q
  apart s p q a b = (
    scalars_apart p q s a.kind b.kind a.there b.there,
    let w = inside_within p s (One a.kind) a.there in omega (arith, w),
  )
