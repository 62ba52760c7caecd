-- A way in a shape leads to a part of each content of that shape, and the part's scalars stand together among the content's,
-- at the way's offset, whatever is put there.
use Rattle.std.proofs.Common.{◌≡◌, ℕ, zero, suc, ◌+◌, List, [], ◌∷◌, ◌++◌, length, Option, Some, None, refl, sym, ap, ◌∙◌, subst, append_assoc, append-nil, length-append}
use Rattle.std.specs.Prelude.{option_and_then}
use Rattle.aos_types.specs.Shape.{Shape, One, Nothing, Pair, size, part, before, inside, offset, number_of}
use Rattle.aos_types.specs.Content.{Content, Scalar, Empty, Row, flatten, element, with_element, found, placed, Fits}

joined_five : {A : Type 0} (a b c d e : List A) → a ++ ((b ++ (c ++ d)) ++ e) ≡ (a ++ b) ++ (c ++ (d ++ e))
joined_five a b c d e = simp append_assoc

module _ {S V : Type 0} (Is : S → V → Type 0) where
  -- contents have as many scalars as their shape
  pub as_many : (s : Shape S) (c : Content V) → Fits Is s c → length (flatten c) ≡ size s
  as_many (One k) (Scalar v) h = refl
  as_many (One k) Empty h = absurd h
  as_many (One k) (Row x y) h = absurd h
  as_many Nothing (Scalar v) h = absurd h
  as_many Nothing Empty h = refl
  as_many Nothing (Row x y) h = absurd h
  as_many (Pair a b) (Scalar v) h = absurd h
  as_many (Pair a b) Empty h = absurd h
  as_many (Pair a b) (Row x y) h =
      length-append (flatten x) (flatten y) ∙ ap (λ n. n + length (flatten y)) (as_many a x h.0) ∙ ap (λ n. size a + n) (as_many b y h.1)

  -- an element of a row, among the row's scalars
  pub record Element (s m : Shape S) (i : ℕ) (c : Content V) : Type 0 where
    pub inner : Content V
    pub found : element i c ≡ Some inner
    pub front : List V
    pub back : List V
    pub whole : flatten c ≡ front ++ (flatten inner ++ back)
    pub place : length front ≡ before i s
    pub fits : Fits Is m inner
    pub replaced : (f : Content V → Content V) → flatten (with_element i f c) ≡ front ++ (flatten (f inner) ++ back)
    pub kept : (f : Content V → Content V) → Fits Is m (f inner) → Fits Is s (with_element i f c)

  pub element_of : (i : ℕ) (s m : Shape S) (c : Content V) → part i s ≡ Some m → Fits Is s c → Element s m i c
  element_of i (One k) m c e h = absurd (cc)
  element_of i Nothing m c e h = absurd (cc)
  element_of zero (Pair a b) m (Scalar v) e h = absurd h
  element_of zero (Pair a b) m Empty e h = absurd h
  element_of zero (Pair a b) m (Row x y) e h =
      let same : a ≡ m = cc in
      record {
        inner = x;
        found = refl;
        front = [];
        back = flatten y;
        whole = refl;
        place = refl;
        fits = subst (λ k. Fits Is k x) same h.0;
        replaced = λ f. refl;
        kept = λ f k. (subst (λ z. Fits Is z (f x)) (sym same) k, h.1);
      }
  element_of (suc i) (Pair a b) m (Scalar v) e h = absurd h
  element_of (suc i) (Pair a b) m Empty e h = absurd h
  element_of (suc i) (Pair a b) m (Row x y) e h =
      let r = element_of i b m y e h.1 in
      record {
        inner = r.inner;
        found = r.found;
        front = flatten x ++ r.front;
        back = r.back;
        whole = ap (λ l. flatten x ++ l) r.whole ∙ sym (append_assoc (flatten x) r.front (flatten r.inner ++ r.back));
        place = length-append (flatten x) r.front ∙ ap (λ n. n + length r.front) (as_many a x h.0) ∙ ap (λ n. size a + n) r.place;
        fits = r.fits;
        replaced = λ f. ap (λ l. flatten x ++ l) (r.replaced f) ∙ sym (append_assoc (flatten x) r.front (flatten (f r.inner) ++ r.back));
        kept = λ f k. (h.0, r.kept f k);
      }

  -- what a way leads to, among all the scalars
  pub record Zoomed (s m : Shape S) (p : List ℕ) (c : Content V) : Type 0 where
    pub inner : Content V
    pub found : found p c ≡ Some inner
    pub front : List V
    pub back : List V
    pub whole : flatten c ≡ front ++ (flatten inner ++ back)
    pub place : length front ≡ offset p s
    pub fits : Fits Is m inner
    pub replaced : (new : Content V) → flatten (placed p new c) ≡ front ++ (flatten new ++ back)
    pub kept : (new : Content V) → Fits Is m new → Fits Is s (placed p new c)

  pub zoomed : (p : List ℕ) (s m : Shape S) (c : Content V) → inside p s ≡ Some m → Fits Is s c → Zoomed s m p c
  zoomed [] s m c e h =
      let same : s ≡ m = cc in
      record {
        inner = c;
        found = refl;
        front = [];
        back = [];
        whole = sym (append-nil (flatten c));
        place = refl;
        fits = subst (λ z. Fits Is z c) same h;
        replaced = λ new. sym (append-nil (flatten new));
        kept = λ new k. subst (λ z. Fits Is z new) (sym same) k;
      }
  zoomed (i ∷ p) s m c e h = at_part (λ n x e' k. zoomed p n m x e' k) (part i s) refl e
    where
      at_part : ((n : Shape S) (x : Content V) → inside p n ≡ Some m → Fits Is n x → Zoomed n m p x) → (o : Option (Shape S)) → part i s ≡ o → option_and_then (inside p) o ≡ Some m → Zoomed s m (i ∷ p) c
      at_part deeper None here e' = absurd (cc)
      at_part deeper (Some n) here e' =
          let r = element_of i s n c here h in
          let q = deeper n r.inner e' r.fits in
          record {
            inner = q.inner;
            found = ap (option_and_then (found p)) r.found ∙ q.found;
            front = r.front ++ q.front;
            back = q.back ++ r.back;
            whole = r.whole ∙ ap (λ l. r.front ++ (l ++ r.back)) q.whole ∙ joined_five r.front q.front (flatten q.inner) q.back r.back;
            place = length-append r.front q.front ∙ ap (λ n. n + length q.front) r.place ∙ ap (λ n. before i s + n) q.place
                ∙ ap (λ o. before i s + number_of (offset p) o) (sym here);
            fits = q.fits;
            replaced = λ new. r.replaced (placed p new) ∙ ap (λ l. r.front ++ (l ++ r.back)) (q.replaced new)
                ∙ joined_five r.front q.front (flatten new) q.back r.back;
            kept = λ new k. r.kept (placed p new) (q.kept new k);
          }
