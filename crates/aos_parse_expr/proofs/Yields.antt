-- What may be read in a symbol's place: what the machine reads, the grammar reads. Over symbols of any kind, where a move
-- is by its production and each symbol can be read out.
use Rattle.std.proofs.Common.{◌≡◌, ℕ, ◌+◌, ◌<◌, ◌++◌, List, [], ◌∷◌, length, true, Option, Some, None, refl, sym, ap, ◌∙◌, subst, arith, append_assoc, length-append, ◌⊎◌, inl, inr}
use Rattle.aos_scan.specs.declared.token.Token.{Token}
use Rattle.aos_scan.specs.declared.token.TokenKind.{TokenKind}
use Rattle.aos_tree.specs.Nesting.{Rule}
use Rattle.aos_parse_expr.specs.Machine as m
use Rattle.aos_parse_expr.specs.Machine.{Table, Step, step, without, or_else}
use Rattle.aos_parse_expr.proofs.Walk.{AllLeft, Walk}

-- the symbols one after another
pub data All {S : Type 0} (yields : S → List Token → List Token → Type 0) : List S → List Token → List Token → Type 0 where
  done : {ts : List Token} → All yields [] ts ts
  next : {x : S} {xs : List S} {ts mid rest : List Token} → yields x ts mid → All yields xs mid rest → All yields (x ∷ xs) ts rest

pub split : {S : Type 0} {yields : S → List Token → List Token → Type 0} (xs : List S) {ys : List S} {ts rest : List Token} →
    All yields (xs ++ ys) ts rest → (mid : List Token) × All yields xs ts mid × All yields ys mid rest
split [] all = (_, done, all)
split (x ∷ xs) (next y all) = let s = split xs all in (s.0, next y s.1, s.2)

-- tokens with fewer than n others after them may stand anywhere
abbrev pub Free : Rule → ℕ → Type 0
Free may n = (d : ℕ) (vs : List Token) → length vs < n → may d vs ≡ true

module _ {S : Type 0} (g : Table S) (yields : Rule → S → List Token → List Token → Type 0) where
  -- a move is by its production
  abbrev pub Sound : Type 0
  Sound = (may : Rule) (x : S) (t : Token) (ts rest : List Token) (p : ℕ × List S) → g.after x t.kind ≡ Some p → may p.0 ts ≡ true →
      All (yields may) p.1 ts rest → yields may x (t ∷ ts) rest

  -- what may be left out yields nothing
  abbrev pub Empty : Type 0
  Empty = (may : Rule) (x : S) → g.needs x ≡ None → (us : List Token) → yields may x us us

  -- tokens that can come in x's place, the first at nesting n
  abbrev pub Sample : S → ℕ → Type 0
  Sample x n = (u : Token) × (us : List Token) × ((may : Rule) (rest : List Token) → may n (us ++ rest) ≡ true → Free may (length (us ++ rest)) → yields may x (u ∷ (us ++ rest)) rest)

  -- tokens that can come in the place of xs, the first at nesting n
  abbrev pub Point : List S → ℕ → Type 0
  Point xs n = (u : Token) × (zs : List Token) × ((may : Rule) (rest : List Token) → may n (zs ++ rest) ≡ true → Free may (length (zs ++ rest)) → All (yields may) xs (u ∷ (zs ++ rest)) rest)

  module _ (sound : Sound) (empty : Empty) where
    step_by : (may : Rule) (x : S) (xs : List S) (t : Token) (ts rest : List Token) (n : ℕ) (j : List S) (move : Option (ℕ × List S)) (q : Option ℕ) →
        g.after x t.kind ≡ move → g.needs x ≡ q → or_else move xs (without q (step g xs t.kind)) ≡ m.shifts n j → may n ts ≡ true → All (yields may) j ts rest →
        (step g xs t.kind ≡ m.shifts n j → All (yields may) xs (t ∷ ts) rest) → All (yields may) (x ∷ xs) (t ∷ ts) rest
    step_by may x xs t ts rest n j (Some p) q is need h fits all again =
        let at : p.0 ≡ n = cc in
        let be : p.1 ++ xs ≡ j = cc in
        let s = split p.1 (subst (λ z. All (yields may) z ts rest) (sym be) all) in
        next (sound may x t ts s.0 p is (subst (λ z. may z ts ≡ true) (sym at) fits) s.1) s.2
    step_by may x xs t ts rest n j None None is need h fits all again = next (empty may x need (t ∷ ts)) (again h)
    step_by may x xs t ts rest n j None (Some q) is need h fits all again = absurd (cc)

    pub step_sound : (may : Rule) (xs : List S) (t : Token) (ts rest : List Token) (n : ℕ) (j : List S) → step g xs t.kind ≡ m.shifts n j → may n ts ≡ true →
        All (yields may) j ts rest → All (yields may) xs (t ∷ ts) rest
    step_sound may [] t ts rest n j h fits all = absurd (cc)
    step_sound may (x ∷ xs) t ts rest n j h fits all =
        step_by may x xs t ts rest n j (g.after x t.kind) (g.needs x) refl refl h fits all (λ h'. step_sound may xs t ts rest n j h' fits all)

    pub walk_sound : (may : Rule) (front rest end : List Token) (xs ys : List S) → Walk g may front rest xs ys → All (yields may) ys rest end → All (yields may) xs (front ++ rest) end
    walk_sound may [] rest end xs ys v all = subst (λ q. All (yields may) q rest end) (sym v) all
    walk_sound may (t ∷ ts) rest end xs ys v all = step_sound may xs t (ts ++ rest) end v.0 v.1 v.2 v.3 (walk_sound may ts rest end v.1 ys v.4 all)

    module _ (sample : (x : S) (n : ℕ) → g.needs x ≡ Some n → Sample x n) where
      fill_by : (x : S) (xs : List S) (q : Option ℕ) → g.needs x ≡ q → ((zs : List Token) × ((may : Rule) (rest : List Token) → Free may (length (zs ++ rest)) → All (yields may) xs (zs ++ rest) rest)) →
          (zs : List Token) × ((may : Rule) (rest : List Token) → Free may (length (zs ++ rest)) → All (yields may) (x ∷ xs) (zs ++ rest) rest)
      fill_by x xs None need r = (r.0, λ may rest free. next (empty may x need (r.0 ++ rest)) (r.1 may rest free))
      fill_by x xs (Some n) need r =
          let s = sample x n need in (
            s.0 ∷ (s.1 ++ r.0),
            λ may rest free.
                let a : (s.1 ++ r.0) ++ rest ≡ s.1 ++ (r.0 ++ rest) = append_assoc s.1 r.0 rest in
                let b : length ((s.1 ++ r.0) ++ rest) ≡ length (s.1 ++ (r.0 ++ rest)) = ap length a in
                let c : length (s.1 ++ (r.0 ++ rest)) ≡ length s.1 + length (r.0 ++ rest) = length-append s.1 (r.0 ++ rest) in
                subst (λ q. All (yields may) (x ∷ xs) (s.0 ∷ q) rest) (sym a)
                (next (s.2 may (r.0 ++ rest) (free n (s.1 ++ (r.0 ++ rest)) (omega arith)) (λ d vs h. free d vs (omega arith))) (r.1 may rest (λ d vs h. free d vs (omega arith)))),
          )

      -- each stack can be read out
      pub fill : (xs : List S) → (zs : List Token) × ((may : Rule) (rest : List Token) → Free may (length (zs ++ rest)) → All (yields may) xs (zs ++ rest) rest)
      fill [] = ([], λ may rest free. done)
      fill (x ∷ xs) = fill_by x xs (g.needs x) refl (fill xs)

      point_by : (x : S) (xs : List S) (c : TokenKind) (n : ℕ) (move : Option (ℕ × List S)) (q : Option ℕ) → g.needs x ≡ q → or_else move xs (without q (step g xs c)) ≡ m.refuses n →
          (step g xs c ≡ m.refuses n → AllLeft g xs ⊎ Point xs n) → AllLeft g (x ∷ xs) ⊎ Point (x ∷ xs) n
      point_by x xs c n (Some p) q need h again = absurd (cc)
      point_by x xs c n None None need h again =
          elim (again h) [
            | inl all ↦ inl (need, all)
            | inr w ↦ inr (w.0, w.1, λ may rest fits free. next (empty may x need (w.0 ∷ (w.1 ++ rest))) (w.2 may rest fits free))
          ]
      point_by x xs c n None (Some q) need h again =
          let at : q ≡ n = cc in
          let s = sample x n (need ∙ ap Some at) in
          let r = fill xs in
          inr (
            s.0,
            s.1 ++ r.0,
            λ may rest fits free.
                let a : (s.1 ++ r.0) ++ rest ≡ s.1 ++ (r.0 ++ rest) = append_assoc s.1 r.0 rest in
                let b : length ((s.1 ++ r.0) ++ rest) ≡ length (s.1 ++ (r.0 ++ rest)) = ap length a in
                let c : length (s.1 ++ (r.0 ++ rest)) ≡ length s.1 + length (r.0 ++ rest) = length-append s.1 (r.0 ++ rest) in
                subst (λ z. All (yields may) (x ∷ xs) (s.0 ∷ z) rest) (sym a)
                (next (s.2 may (r.0 ++ rest) (subst (λ z. may n z ≡ true) a fits) (λ d vs h. free d vs (omega arith))) (r.1 may rest (λ d vs h. free d vs (omega arith)))),
          )

      -- a stack that refuses may be left out whole, or some token could come there
      pub point : (xs : List S) (c : TokenKind) (n : ℕ) → step g xs c ≡ m.refuses n → AllLeft g xs ⊎ Point xs n
      point [] c n h = inl tt
      point (x ∷ xs) c n h = point_by x xs c n (g.after x c) (g.needs x) refl h (λ h'. point xs c n h')
