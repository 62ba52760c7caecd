-- On a stack that the machine reaches, nestings never rise downwards: so the least nesting of what must come next is the
-- least of all that could come. Over symbols of any kind.
use Rattle.std.proofs.Common.{◌≡◌, ℕ, ◌≤◌, ◌++◌, List, [], ◌∷◌, Option, Some, None, refl, ap, subst, arith}
use Rattle.std.specs.Prelude.{⊤, unwrap_or}
use Rattle.aos_scan.specs.declared.token.TokenKind.{TokenKind}
use Rattle.aos_parse_expr.specs.Machine as m
use Rattle.aos_parse_expr.specs.Machine.{Table, Step, step, without, or_else}

module _ {S : Type 0} (g : Table S) (depth : S → ℕ) where
  -- the least nesting of the first that must come, or m
  abbrev pub first_or : ℕ → List S → ℕ
  first_or m [] = m
  first_or m (x ∷ xs) = unwrap_or (g.needs x) (first_or m xs)

  -- the same where it is known what x needs
  abbrev pub FallsTo : ℕ → List S → Type 0
  FallsTo m [] = ⊤
  FallsTo m (x ∷ xs) = (first_or m xs ≤ depth x) × FallsTo m xs

  pub rises : (m n : ℕ) (xs : List S) → m ≤ n → first_or m xs ≤ first_or n xs
  rises m n [] h = h
  rises m n (x ∷ xs) h = rises_by m n (g.needs x) (first_or m xs) (first_or n xs) (rises m n xs h)
    where
      rises_by : (m n : ℕ) (q : Option ℕ) (a b : ℕ) → a ≤ b → unwrap_or q a ≤ unwrap_or q b
      rises_by m n None a b h = h
      rises_by m n (Some k) a b h = omega arith

  pub first_append : (m : ℕ) (xs ys : List S) → first_or m (xs ++ ys) ≡ first_or (first_or m ys) xs
  first_append m [] ys = refl
  first_append m (x ∷ xs) ys = ap (λ q. unwrap_or (g.needs x) q) (first_append m xs ys)

  -- more comes below
  pub falls_on : (m n : ℕ) (xs ys : List S) → FallsTo n xs → FallsTo m ys → first_or m ys ≤ n → FallsTo m (xs ++ ys)
  falls_on m n [] ys a b h = b
  falls_on m n (x ∷ xs) ys a b h =
      let p : first_or m (xs ++ ys) ≡ first_or (first_or m ys) xs = first_append m xs ys in
      let q : first_or (first_or m ys) xs ≤ first_or n xs = rises (first_or m ys) n xs h in
      let r : first_or n xs ≤ depth x = a.0 in
      (omega arith, falls_on m n xs ys a.1 b h)

  module _ (low : (x : S) (c : TokenKind) (p : ℕ × List S) → g.after x c ≡ Some p → depth x ≤ p.0)
      (floor : (x : S) (c : TokenKind) (p : ℕ × List S) (n : ℕ) → g.after x c ≡ Some p → g.needs x ≡ Some n → n ≤ p.0)
      (falls : (x : S) (c : TokenKind) (p : ℕ × List S) → g.after x c ≡ Some p → FallsTo (depth x) p.1) where
    -- a step keeps it
    falls_by : (x : S) (xs : List S) (c : TokenKind) (n : ℕ) (j : List S) (move : Option (ℕ × List S)) (q : Option ℕ) → g.after x c ≡ move →
        or_else move xs (without q (step g xs c)) ≡ m.shifts n j → FallsTo 0 (x ∷ xs) → (step g xs c ≡ m.shifts n j → FallsTo 0 j) → FallsTo 0 j
    falls_by x xs c n j (Some p) q is h f again =
        let at : p.1 ++ xs ≡ j = cc in
        subst (λ z. FallsTo 0 z) at (falls_on 0 (depth x) p.1 xs (falls x c p is) f.1 f.0)
    falls_by x xs c n j None None is h f again = again h
    falls_by x xs c n j None (Some q) is h f again = absurd (cc)

    pub falls_step : (xs : List S) (c : TokenKind) (n : ℕ) (j : List S) → step g xs c ≡ m.shifts n j → FallsTo 0 xs → FallsTo 0 j
    falls_step [] c n j h f = absurd (cc)
    falls_step (x ∷ xs) c n j h f = falls_by x xs c n j (g.after x c) (g.needs x) refl h f (λ h'. falls_step xs c n j h' f.1)

    -- what is refused is at the least nesting
    refused_by : (x : S) (xs : List S) (c : TokenKind) (n : ℕ) (move : Option (ℕ × List S)) (q : Option ℕ) →
        or_else move xs (without q (step g xs c)) ≡ m.refuses n → (step g xs c ≡ m.refuses n → n ≡ first_or 0 xs) → n ≡ unwrap_or q (first_or 0 xs)
    refused_by x xs c n (Some p) q h again = absurd (cc)
    refused_by x xs c n None None h again = again h
    refused_by x xs c n None (Some q) h again = cc

    pub refused_at : (xs : List S) (c : TokenKind) (n : ℕ) → step g xs c ≡ m.refuses n → n ≡ first_or 0 xs
    refused_at [] c n h = cc
    refused_at (x ∷ xs) c n h = refused_by x xs c n (g.after x c) (g.needs x) h (λ h'. refused_at xs c n h')

    -- what is taken is at no less
    shifted_by : (x : S) (xs : List S) (c : TokenKind) (n : ℕ) (j : List S) (move : Option (ℕ × List S)) (q : Option ℕ) → g.after x c ≡ move → g.needs x ≡ q →
        or_else move xs (without q (step g xs c)) ≡ m.shifts n j → first_or 0 xs ≤ depth x → (step g xs c ≡ m.shifts n j → first_or 0 xs ≤ n) → unwrap_or q (first_or 0 xs) ≤ n
    shifted_by x xs c n j (Some p) None is need h f again =
        let at : p.0 ≡ n = cc in let l : depth x ≤ p.0 = low x c p is in omega arith
    shifted_by x xs c n j (Some p) (Some k) is need h f again =
        let at : p.0 ≡ n = cc in let l : k ≤ p.0 = floor x c p k is need in omega arith
    shifted_by x xs c n j None None is need h f again = again h
    shifted_by x xs c n j None (Some k) is need h f again = absurd (cc)

    pub shifted_at : (xs : List S) (c : TokenKind) (n : ℕ) (j : List S) → step g xs c ≡ m.shifts n j → FallsTo 0 xs → first_or 0 xs ≤ n
    shifted_at [] c n j h f = absurd (cc)
    shifted_at (x ∷ xs) c n j h f = shifted_by x xs c n j (g.after x c) (g.needs x) refl refl h f.0 (λ h'. shifted_at xs c n j h' f.1)
