-- A grammar whose symbols stand among those of a larger one: what its machine reads, its trees and its nestings are those
-- of the larger one too.
use Rattle.std.proofs.Common.{◌≡◌, ℕ, ◌≤◌, ◌<◌, ◌++◌, List, [], ◌∷◌, true, Option, Some, None, refl, sym, ap, ◌∙◌, subst, append_assoc, append-nil}
use Rattle.std.specs.Prelude.{unwrap_or}
use Rattle.aos_scan.specs.declared.token.Token.{Token}
use Rattle.aos_scan.specs.declared.token.TokenKind.{TokenKind}
use Rattle.aos_tree.specs.Nesting.{Rule}
use Rattle.aos_parse_expr.specs.Machine as m
use Rattle.aos_parse_expr.specs.Machine.{Table, step, without, or_else}
use Rattle.aos_parse_expr.proofs.Compose.{Embeds, lift, lift_move}
use Rattle.aos_parse_expr.proofs.Falling as falling
use Rattle.aos_parse_expr.proofs.Walk.{AllLeft, Walk, Reads}
use Rattle.aos_parse_expr.proofs.Yields.{All, done, next, Sound, Sample}

lift_append : {S T : Type 0} (f : S → T) (xs ys : List S) → lift f (xs ++ ys) ≡ lift f xs ++ lift f ys
lift_append f [] ys = refl
lift_append f (x ∷ xs) ys = ap (λ q. f x ∷ q) (lift_append f xs ys)

module _ {S T : Type 0} (g : Table S) (h : Table T) (f : S → T) (emb : Embeds g h f) where
  step_is : (x : S) (xs : List T) (c : TokenKind) → step h (f x ∷ xs) c ≡ or_else (lift_move f (g.after x c)) xs (without (g.needs x) (step h xs c))
  step_is x xs c =
      ap (λ mv. or_else mv xs (without (h.needs (f x)) (step h xs c))) (emb.after_is x c)
      ∙ ap (λ q. or_else (lift_move f (g.after x c)) xs (without q (step h xs c))) (emb.needs_is x)

  takes_by : (xs : List S) (k : List T) (c : TokenKind) (n : ℕ) (j : List S) (move : Option (ℕ × List S)) (q : Option ℕ) → or_else move xs (without q (step g xs c)) ≡ m.shifts n j →
      (step g xs c ≡ m.shifts n j → step h (lift f xs ++ k) c ≡ m.shifts n (lift f j ++ k)) → or_else (lift_move f move) (lift f xs ++ k) (without q (step h (lift f xs ++ k) c)) ≡ m.shifts n (lift f j ++ k)
  takes_by xs k c n j (Some p) q is again =
      let a : p.0 ≡ n = cc in let b : p.1 ++ xs ≡ j = cc in
      ap (λ z. m.shifts z (lift f p.1 ++ (lift f xs ++ k))) a
      ∙ ap (λ z. m.shifts n z) (sym (append_assoc (lift f p.1) (lift f xs) k) ∙ ap (λ z. z ++ k) (sym (lift_append f p.1 xs) ∙ ap (lift f) b))
  takes_by xs k c n j None None is again = again is
  takes_by xs k c n j None (Some q) is again = absurd (cc)

  takes_up : (xs : List S) (k : List T) (c : TokenKind) (n : ℕ) (j : List S) → step g xs c ≡ m.shifts n j → step h (lift f xs ++ k) c ≡ m.shifts n (lift f j ++ k)
  takes_up [] k c n j is = absurd (cc)
  takes_up (x ∷ xs) k c n j is = step_is x (lift f xs ++ k) c ∙ takes_by xs k c n j (g.after x c) (g.needs x) is (λ z. takes_up xs k c n j z)

  passes_by : (xs : List S) (k : List T) (c : TokenKind) (n : ℕ) (move : Option (ℕ × List S)) (q : Option ℕ) → q ≡ None → or_else move xs (without q (step g xs c)) ≡ m.refuses n →
      (step g xs c ≡ m.refuses n → step h (lift f xs ++ k) c ≡ step h k c) → or_else (lift_move f move) (lift f xs ++ k) (without q (step h (lift f xs ++ k) c)) ≡ step h k c
  passes_by xs k c n (Some p) q left is again = absurd (cc)
  passes_by xs k c n None None left is again = again is
  passes_by xs k c n None (Some q) left is again = absurd (cc)

  pub passes_up : (xs : List S) (k : List T) (c : TokenKind) (n : ℕ) → AllLeft g xs → step g xs c ≡ m.refuses n → step h (lift f xs ++ k) c ≡ step h k c
  passes_up [] k c n left is = refl
  passes_up (x ∷ xs) k c n left is = step_is x (lift f xs ++ k) c ∙ passes_by xs k c n (g.after x c) (g.needs x) left.0 is (λ z. passes_up xs k c n left.1 z)

  pub walk_up : (may : Rule) (front rest : List Token) (xs ys : List S) (k : List T) → Walk g may front rest xs ys → Walk h may front rest (lift f xs ++ k) (lift f ys ++ k)
  walk_up may [] rest xs ys k v = ap (λ q. lift f q ++ k) v
  walk_up may (t ∷ ts) rest xs ys k v = (v.0, lift f v.1 ++ k, takes_up xs k t.kind v.0 v.1 v.2, v.3, walk_up may ts rest v.1 ys k v.4)

  pub left_up : (xs : List S) → AllLeft g xs → AllLeft h (lift f xs)
  left_up [] left = tt
  left_up (x ∷ xs) left = (emb.needs_is x ∙ left.0, left_up xs left.1)

  -- what is read, where the tails of the smaller grammar take no token that joins more loosely than l in the larger one
  abbrev pub reads_up : (joins joins' : TokenKind → ℕ) (may : Rule) (l l' : ℕ) (xs : List S) (ts rest : List Token) → ((c : TokenKind) → l' < joins' c → l < joins c) → (r : Reads g joins may l xs ts rest) → Reads h joins' may l' (lift f xs) ts rest
  reads_up joins joins' may l l' xs ts rest looser r = record {
    front = r.front;
    tails = lift f r.tails;
    whole = r.whole;
    walk = λ j. walk_up may r.front rest xs r.tails j (subst (λ q. Walk g may r.front rest q r.tails) (append-nil xs) (subst (λ q. Walk g may r.front rest (xs ++ []) q) (append-nil r.tails) (r.walk [])));
    closes = λ c loose j. passes_up r.tails j c 0 r.left (subst (λ q. step g q c ≡ m.refuses 0) (append-nil r.tails) (r.closes c (looser c loose) []));
    left = left_up r.tails r.left;
  }

  module _ (yields : Rule → S → List Token → List Token → Type 0) (wider : Rule → T → List Token → List Token → Type 0)
      (up : (may : Rule) (x : S) (ts rest : List Token) → yields may x ts rest → wider may (f x) ts rest)
      (down : (may : Rule) (x : S) (ts rest : List Token) → wider may (f x) ts rest → yields may x ts rest) where
    all_down : (may : Rule) (xs : List S) (ts rest : List Token) → All (wider may) (lift f xs) ts rest → All (yields may) xs ts rest
    all_down may [] ts rest done = done
    all_down may (x ∷ xs) ts rest (next {mid = mid} y all) = next (down may x ts mid y) (all_down may xs mid rest all)

    sound_by : (may : Rule) (x : S) (t : Token) (ts rest : List Token) (move : Option (ℕ × List S)) (p : ℕ × List T) → g.after x t.kind ≡ move → lift_move f move ≡ Some p → Sound g yields →
        may p.0 ts ≡ true → All (wider may) p.1 ts rest → wider may (f x) (t ∷ ts) rest
    sound_by may x t ts rest None p at is sound fits all = absurd (cc)
    sound_by may x t ts rest (Some q) p at is sound fits all =
        let a : q.0 ≡ p.0 = cc in
        let b : lift f q.1 ≡ p.1 = cc in
        up may x (t ∷ ts) rest (sound may x t ts rest q at (subst (λ z. may z ts ≡ true) (sym a) fits) (all_down may q.1 ts rest (subst (λ z. All (wider may) z ts rest) (sym b) all)))

    -- a move is by its production there too
    pub sound_up : Sound g yields → (may : Rule) (x : S) (t : Token) (ts rest : List Token) (p : ℕ × List T) → h.after (f x) t.kind ≡ Some p → may p.0 ts ≡ true → All (wider may) p.1 ts rest → wider may (f x) (t ∷ ts) rest
    sound_up sound may x t ts rest p is fits all = sound_by may x t ts rest (g.after x t.kind) p refl (sym (emb.after_is x t.kind) ∙ is) sound fits all

    pub sample_up : (x : S) (n : ℕ) → Sample g yields x n → Sample h wider (f x) n
    sample_up x n s = (s.0, s.1, λ may rest fits free. up may x (s.0 ∷ (s.1 ++ rest)) rest (s.2 may rest fits free))

  module _ (depth : S → ℕ) (deeper : T → ℕ) (same : (x : S) → deeper (f x) ≡ depth x) where
    first_up : (n : ℕ) (xs : List S) → falling.first_or h deeper n (lift f xs) ≡ falling.first_or g depth n xs
    first_up n [] = refl
    first_up n (x ∷ xs) = ap (λ q. unwrap_or q (falling.first_or h deeper n (lift f xs))) (emb.needs_is x) ∙ ap (λ q. unwrap_or (g.needs x) q) (first_up n xs)

    -- nestings fall there as here
    pub falls_up : (n : ℕ) (xs : List S) → falling.FallsTo g depth n xs → falling.FallsTo h deeper n (lift f xs)
    falls_up n [] fall = tt
    falls_up n (x ∷ xs) fall = (
      subst (λ q. q ≤ deeper (f x)) (sym (first_up n xs)) (subst (λ q. falling.first_or g depth n xs ≤ q) (sym (same x)) fall.0),
      falls_up n xs fall.1,
    )
