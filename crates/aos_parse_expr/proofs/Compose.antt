-- Back from the grammar's words: what the parser of a production ensures, as a step of the machine of a larger grammar,
-- whose symbols have those of this one among them. So a parser above needs the public clauses alone.
use Rattle.std.proofs.Common.{◌≡◌, ℕ, ◌≤◌, ◌<◌, ◌++◌, List, [], ◌∷◌, length, Bool, true, false, Option, Some, None, refl, sym, ap, ◌∙◌, subst, arith, append_assoc, append-nil, length-append, ◌⊎◌, inl, inr, nat_le, if◌then◌else◌}
use Rattle.std.proofs.lemmas.Bool.{leb-true, leb-false, le-leb, lt-leb}
use Rattle.aos_base.specs.declared.text.Pos.{Pos}
use Rattle.aos_scan.specs.declared.token.Token.{Token}
use Rattle.aos_scan.specs.declared.token.TokenKind.{TokenKind}
use Rattle.aos_tree.specs.Nesting.{Rule, anywhere, shallow, shallow_before}
use Rattle.aos_tree.specs.Begins.{Begins, BeginsWithin, CeasesAt, ExpectsAt, TooDeepAt}
use Rattle.aos_parse_expr.specs.declared.error.ParseErr.TheVariants as e
use Rattle.aos_parse_expr.specs.Machine as m
use Rattle.aos_parse_expr.specs.Machine.{Table, Step, Outcome, run, step, act, without, or_else, Refuses}
use Rattle.aos_parse_expr.proofs.Walk.{AllLeft, Walk, Reads, walk_runs, walk_join}
use Rattle.aos_parse_expr.proofs.Yields.{All, done, next, Sound, Empty, Sample, walk_sound, point}
use Rattle.aos_parse_expr.proofs.Falling as falling
use Rattle.aos_parse_expr.proofs.Places as places
use Rattle.aos_parse_expr.proofs.Places.{same_split, within, bare, run_step}

abbrev pub lift : {S T : Type 0} → (S → T) → List S → List T
lift f [] = []
lift f (x ∷ xs) = f x ∷ lift f xs

abbrev pub lift_move : {S T : Type 0} → (S → T) → Option (ℕ × List S) → Option (ℕ × List T)
lift_move f None = None
lift_move f (Some p) = Some (p.0, lift f p.1)

-- the symbols of a table stand among those of a larger one, and take tokens alike
pub record Embeds {S T : Type 0} (g : Table S) (h : Table T) (f : S → T) : Type 0 where
  pub after_is : (x : S) (c : TokenKind) → h.after (f x) c ≡ lift_move f (g.after x c)
  pub needs_is : (x : S) → h.needs (f x) ≡ g.needs x

-- a table stands in itself
lift_same : {S : Type 0} (xs : List S) → lift (λ (x : S). x) xs ≡ xs
lift_same [] = refl
lift_same (x ∷ xs) = ap (λ q. x ∷ q) (lift_same xs)

move_same : {S : Type 0} (move : Option (ℕ × List S)) → move ≡ lift_move (λ (x : S). x) move
move_same None = refl
move_same (Some p) = ap (λ q. Some (p.0, q)) (sym (lift_same p.1))

pub itself : {S : Type 0} (g : Table S) → Embeds g g (λ x. x)
itself g = record { after_is = λ x c. move_same (g.after x c); needs_is = λ x. refl }

lift_append : {S T : Type 0} (f : S → T) (xs ys : List S) → lift f (xs ++ ys) ≡ lift f xs ++ lift f ys
lift_append f [] ys = refl
lift_append f (x ∷ xs) ys = ap (λ q. f x ∷ q) (lift_append f xs ys)

-- a move, and what it is
seen : {S : Type 0} (st : Step S) → ((n : ℕ) × (st ≡ m.refuses n)) ⊎ ((n : ℕ) × (j : List S) × (st ≡ m.shifts n j))
seen (m.refuses n) = inl (n, refl)
seen (m.shifts n j) = inr (n, j, refl)

within_or_deep : (n : ℕ) → (n ≤ 200) ⊎ (200 < n)
within_or_deep n = by_test n (nat_le n 200) refl
  where
    by_test : (n : ℕ) (b : Bool) → nat_le n 200 ≡ b → (n ≤ 200) ⊎ (200 < n)
    by_test n true h = inl (leb-true n 200 h)
    by_test n false h = inr (leb-false n 200 h)

within_le : (free n : ℕ) (q : List Token) → free ≤ length q → shallow_before free n q ≡ true → nat_le n 200 ≡ true
within_le free n q le h = sym (ap (λ b. if b then nat_le n 200 else true) (le-leb free (length q) le)) ∙ h

-- the front of a walk, whose tokens are within the limit
fore : {S : Type 0} (g : Table S) (front more rest other : List Token) (xs zs : List S) → Walk g (shallow_before (length (more ++ rest))) (front ++ more) rest xs zs →
    (ys : List S) × Walk g shallow front other xs ys
fore g [] more rest other xs zs v = (xs, refl)
fore g (t ∷ ts) more rest other xs zs v =
    let r = fore g ts more rest other v.1 zs v.4 in
    (r.0, (v.0, v.1, v.2, within_le (length (more ++ rest)) v.0 ((ts ++ more) ++ rest) (omega (arith, length-append ts more, length-append (ts ++ more) rest, length-append more rest)) v.3, r.1))

module _ {S T : Type 0} (g : Table S) (h : Table T) (f : S → T) (emb : Embeds g h f) where
  step_is : (x : S) (xs : List T) (c : TokenKind) → step h (f x ∷ xs) c ≡ or_else (lift_move f (g.after x c)) xs (without (g.needs x) (step h xs c))
  step_is x xs c =
      ap (λ mv. or_else mv xs (without (h.needs (f x)) (step h xs c))) (emb.after_is x c)
      ∙ ap (λ q. or_else (lift_move f (g.after x c)) xs (without q (step h xs c))) (emb.needs_is x)

  takes_by : (x : S) (xs : List S) (k : List T) (c : TokenKind) (n : ℕ) (j : List S) (move : Option (ℕ × List S)) (q : Option ℕ) → or_else move xs (without q (step g xs c)) ≡ m.shifts n j →
      (step g xs c ≡ m.shifts n j → step h (lift f xs ++ k) c ≡ m.shifts n (lift f j ++ k)) → or_else (lift_move f move) (lift f xs ++ k) (without q (step h (lift f xs ++ k) c)) ≡ m.shifts n (lift f j ++ k)
  takes_by x xs k c n j (Some p) q is again =
      let a : p.0 ≡ n = cc in let b : p.1 ++ xs ≡ j = cc in
      ap (λ z. m.shifts z (lift f p.1 ++ (lift f xs ++ k))) a
      ∙ ap (λ z. m.shifts n z) (sym (append_assoc (lift f p.1) (lift f xs) k) ∙ ap (λ z. z ++ k) (sym (lift_append f p.1 xs) ∙ ap (lift f) b))
  takes_by x xs k c n j None None is again = again is
  takes_by x xs k c n j None (Some q) is again = absurd (cc)

  -- what a stack takes, it takes in the larger grammar, on top of any other
  takes_on : (xs : List S) (k : List T) (c : TokenKind) (n : ℕ) (j : List S) → step g xs c ≡ m.shifts n j → step h (lift f xs ++ k) c ≡ m.shifts n (lift f j ++ k)
  takes_on [] k c n j is = absurd (cc)
  takes_on (x ∷ xs) k c n j is = step_is x (lift f xs ++ k) c ∙ takes_by x xs k c n j (g.after x c) (g.needs x) is (λ z. takes_on xs k c n j z)

  refuses_by : (x : S) (xs : List S) (c : TokenKind) (n : ℕ) (move : Option (ℕ × List S)) (q : Option ℕ) → g.needs x ≡ q → or_else move xs (without q (step g xs c)) ≡ m.refuses n →
      (step g xs c ≡ m.refuses n → AllLeft g xs ⊎ ((k : List T) → step h (lift f xs ++ k) c ≡ m.refuses n)) →
      AllLeft g (x ∷ xs) ⊎ ((k : List T) → or_else (lift_move f move) (lift f xs ++ k) (without q (step h (lift f xs ++ k) c)) ≡ m.refuses n)
  refuses_by x xs c n (Some p) q need is again = absurd (cc)
  refuses_by x xs c n None None need is again = elim (again is) [ inl all ↦ inl (need, all) | inr go ↦ inr (λ k. go k) ]
  refuses_by x xs c n None (Some q) need is again = let b : q ≡ n = cc in inr (λ k. ap (λ z. m.refuses z) b)

  -- what it refuses, it refuses there too, but where all of it may be left out
  refuses_on : (xs : List S) (c : TokenKind) (n : ℕ) → step g xs c ≡ m.refuses n → AllLeft g xs ⊎ ((k : List T) → step h (lift f xs ++ k) c ≡ m.refuses n)
  refuses_on [] c n is = inl tt
  refuses_on (x ∷ xs) c n is =
      elim (refuses_by x xs c n (g.after x c) (g.needs x) refl is (λ z. refuses_on xs c n z)) [ inl all ↦ inl all | inr go ↦ inr (λ k. step_is x (lift f xs ++ k) c ∙ go k) ]

  passes_by : (x : S) (xs : List S) (k : List T) (c : TokenKind) (n : ℕ) (move : Option (ℕ × List S)) (q : Option ℕ) → q ≡ None → or_else move xs (without q (step g xs c)) ≡ m.refuses n →
      (step g xs c ≡ m.refuses n → step h (lift f xs ++ k) c ≡ step h k c) → or_else (lift_move f move) (lift f xs ++ k) (without q (step h (lift f xs ++ k) c)) ≡ step h k c
  passes_by x xs k c n (Some p) q left is again = absurd (cc)
  passes_by x xs k c n None None left is again = again is
  passes_by x xs k c n None (Some q) left is again = absurd (cc)

  -- tails that don't take a token let it pass
  passes_on : (xs : List S) (k : List T) (c : TokenKind) (n : ℕ) → AllLeft g xs → step g xs c ≡ m.refuses n → step h (lift f xs ++ k) c ≡ step h k c
  passes_on [] k c n left is = refl
  passes_on (x ∷ xs) k c n left is = step_is x (lift f xs ++ k) c ∙ passes_by x xs k c n (g.after x c) (g.needs x) left.0 is (λ z. passes_on xs k c n left.1 z)

  walk_on : (may : Rule) (front rest : List Token) (xs ys : List S) (k : List T) → Walk g may front rest xs ys → Walk h may front rest (lift f xs ++ k) (lift f ys ++ k)
  walk_on may [] rest xs ys k v = ap (λ q. lift f q ++ k) v
  walk_on may (t ∷ ts) rest xs ys k v = (v.0, lift f v.1 ++ k, takes_on xs k t.kind v.0 v.1 v.2, v.3, walk_on may ts rest v.1 ys k v.4)

  act_same : (t : Token) (us : List Token) (xs ys : List T) → step h xs t.kind ≡ step h ys t.kind → run h shallow (t ∷ us) xs ≡ run h shallow (t ∷ us) ys
  unfolding run
  act_same t us xs ys same = ap (λ st. act shallow t us st (run h shallow us)) same

  module _ (joins : TokenKind → ℕ) (yields : Rule → S → List Token → List Token → Type 0) (sound : Sound g yields) (empty : Empty g yields)
      (sample : (x : S) (n : ℕ) → g.needs x ≡ Some n → Sample g yields x n)
      (only : TokenKind → S) (only_takes : (c : TokenKind) → g.after (only c) c ≡ Some (0, []))
      (x : S) {A : Type 0} (reads : Rule → A → List Token → List Token → Type 0)
      (from : (may : Rule) (ts rest : List Token) → All (yields may) (x ∷ []) ts rest → (a : A) × reads may a ts rest)
      (l : ℕ) (into : (may : Rule) (a : A) (ts rest : List Token) → reads may a ts rest → Reads g joins may l (x ∷ []) ts rest) where
    -- what is read is read, and what comes after it is as it was
    pub reads_on : (a : A) (ts rest : List Token) → reads shallow a ts rest → CeasesAt reads ts rest → (k : List T) → run h shallow ts (f x ∷ k) ≡ run h shallow rest k
    reads_on a ts rest tree at k =
        let r = into shallow a ts rest tree in
        let w : Walk g shallow r.front rest (x ∷ []) r.tails = subst (λ q. Walk g shallow r.front rest (x ∷ []) q) (append-nil r.tails) (r.walk []) in
        let same = same_split r.front at.front rest rest (sym r.whole ∙ at.whole) refl in
        elim (seen (step g r.tails at.next.kind)) [
          | inr q ↦ absurd (at.no_further (subst (λ z. Begins reads (z ++ (at.next ∷ []))) same.0
              (places.begins_on g joins yields sound empty sample only only_takes x reads from l into r.front rest r.tails at.next q.0 q.1 w q.2)))
          | inl q ↦ (ap (λ z. run h shallow z (f x ∷ k)) r.whole ∙ walk_runs h shallow r.front rest (f x ∷ k) (lift f r.tails ++ k) (walk_on shallow r.front rest (x ∷ []) r.tails k w)
              ∙ ap (λ z. run h shallow z (lift f r.tails ++ k)) at.rest_is
              ∙ act_same at.next at.after (lift f r.tails ++ k) k (passes_on r.tails k at.next.kind q.0 r.left q.1) ∙ sym (ap (λ z. run h shallow z k) at.rest_is))
        ]

    left_out : (may : Rule) (xs : List S) (us : List Token) → AllLeft g xs → All (yields may) xs us us
    left_out may [] us all = done
    left_out may (y ∷ ys) us all = next (empty may y all.0 us) (left_out may ys us all.1)

    -- a stack that may be left out whole has read a whole tree
    whole_tree : (ts front rest : List Token) (stack : List S) → ts ≡ front ++ rest → Walk g shallow front rest (x ∷ []) stack → AllLeft g stack → ((a : A) → reads shallow a ts rest → ⊥) → ⊥
    whole_tree ts front rest stack whole w all none =
        let t = from shallow (front ++ rest) rest (walk_sound g yields sound empty shallow front rest rest (x ∷ []) stack w (left_out shallow stack rest all)) in
        none t.0 (subst (λ q. reads shallow t.0 q rest) (sym whole) t.1)

    -- the stack to which tokens lead that begin a tree within the limit
    stack_at : (front rest : List Token) → BeginsWithin reads front → (stack : List S) × Walk g shallow front rest (x ∷ []) stack
    stack_at front rest b =
        let us : List Token = b.end ∷ [] in
        let rule : Rule = shallow_before (length (b.more ++ us)) in
        let r = into rule b.tree (front ++ (b.more ++ us)) us b.whole in
        let at = same_split r.front (front ++ b.more) us us (sym r.whole ∙ sym (append_assoc front b.more us)) refl in
        fore g front b.more us rest (x ∷ []) (r.tails ++ []) (subst (λ q. Walk g rule q us (x ∷ []) (r.tails ++ [])) at.0 (r.walk []))

    -- where the walk is refused
    chain : (ts front : List Token) (next' : Token) (after : List Token) (stack : List S) (st : Step T) (k : List T) → ts ≡ front ++ (next' ∷ after) → Walk g shallow front (next' ∷ after) (x ∷ []) stack →
        step h (lift f stack ++ k) next'.kind ≡ st → run h shallow ts (f x ∷ k) ≡ act shallow next' after st (run h shallow after)
    chain ts front next' after stack st k whole w is =
        ap (λ z. run h shallow z (f x ∷ k)) whole ∙ walk_runs h shallow front (next' ∷ after) (f x ∷ k) (lift f stack ++ k) (walk_on shallow front (next' ∷ after) (x ∷ []) stack k w)
        ∙ run_step h next' after (lift f stack ++ k) st is

    module _ (depth : S → ℕ) (low : (y : S) (c : TokenKind) (p : ℕ × List S) → g.after y c ≡ Some p → depth y ≤ p.0)
        (floor : (y : S) (c : TokenKind) (p : ℕ × List S) (n : ℕ) → g.after y c ≡ Some p → g.needs y ≡ Some n → n ≤ p.0)
        (falls : (y : S) (c : TokenKind) (p : ℕ × List S) → g.after y c ≡ Some p → falling.FallsTo g depth (depth y) p.1) where
      -- the least nesting is within the limit where some token is
      least_within : (front rest : List Token) (stack : List S) (next' u : Token) (n : ℕ) → Walk g shallow front rest (x ∷ []) stack → step g stack next'.kind ≡ m.refuses n → BeginsWithin reads (front ++ (u ∷ [])) → n ≤ 200
      least_within front rest stack next' u n w is b =
          let q = places.goes_on g joins yields sound empty sample only only_takes x reads from l into (shallow_before (length (b.more ++ (b.end ∷ [])))) front u b.more b.end b.tree stack b.whole (bare g shallow front rest (x ∷ []) stack w) in
          let le : q.0 ≤ 200 = leb-true q.0 200 (within q.0 (b.more ++ (b.end ∷ [])) q.3) in
          let fa : falling.FallsTo g depth 0 stack = places.falls_walk g joins yields sound empty sample only only_takes x reads from l into depth low floor falls shallow front rest (x ∷ []) stack w (omega arith, tt) in
          let a : n ≡ falling.first_or g depth 0 stack = falling.refused_at g depth low floor falls stack next'.kind n is in
          let c : falling.first_or g depth 0 stack ≤ q.0 = falling.shifted_at g depth low floor falls stack u.kind q.0 q.1 q.2 fa in
          omega arith

      -- what is expected is refused, whatever comes after it
      pub expected_on : (ts : List Token) (p : Pos) → ExpectsAt reads ts p → Refuses h (f x ∷ []) ts (e.Expected p)
      expected_on ts p at =
          let v = stack_at at.front (at.next ∷ at.after) at.begins in
          elim (seen (step g v.0 at.next.kind)) [
            | inr q ↦ absurd (at.no_further (places.begins_on g joins yields sound empty sample only only_takes x reads from l into at.front (at.next ∷ at.after) v.0 at.next q.0 q.1 v.1 q.2))
            | inl q ↦ elim (refuses_on v.0 at.next.kind q.0 q.1) [
              | inl all ↦ absurd (whole_tree ts at.front (at.next ∷ at.after) v.0 at.whole v.1 all at.unfinished)
              | inr go ↦ (
                  let le : q.0 ≤ 200 = least_within at.front (at.next ∷ at.after) v.0 at.next at.other.0 q.0 v.1 q.1 at.other.1 in
                  record {
                    refused = (
                      length at.after,
                      λ k. chain ts at.front at.next at.after v.0 (m.refuses q.0) k at.whole v.1 (go k)
                          ∙ ap (λ b. if b then m.fault (e.Expected at.next.pos) (length at.after) else m.fault (e.Deep at.next.pos) (length at.after)) (le-leb q.0 200 le)
                          ∙ ap (λ z. m.fault (e.Expected z) (length at.after)) at.place,
                    );
                  })
            ]
          ]

      deep_shift : (ts : List Token) (p : Pos) (at : TooDeepAt reads ts p) (stack : List S) → Walk g shallow at.front (at.next ∷ at.after) (x ∷ []) stack → (n : ℕ) (j : List S) → step g stack at.next.kind ≡ m.shifts n j →
          Refuses h (f x ∷ []) ts (e.Deep p)
      deep_shift ts p at stack w n j is =
          elim (within_or_deep n) [
            | inl le ↦ absurd (at.no_further (places.begins_within g joins yields sound empty sample only only_takes x reads from l into (at.front ++ (at.next ∷ [])) at.after j
                (walk_join g shallow at.front (at.next ∷ []) at.after (x ∷ []) stack j w (n, j, is, le-leb n 200 le, refl))))
            | inr gt ↦ record {
              refused = (
                length at.after,
                λ k. chain ts at.front at.next at.after stack (m.shifts n (lift f j ++ k)) k at.whole w (takes_on stack k at.next.kind n j is)
                    ∙ ap (λ b. if b then run h shallow at.after (lift f j ++ k) else m.fault (e.Deep at.next.pos) (length at.after)) (lt-leb n 200 gt)
                    ∙ ap (λ z. m.fault (e.Deep z) (length at.after)) at.place,
              );
            }
          ]

      deep_refuse : (ts : List Token) (p : Pos) (at : TooDeepAt reads ts p) (stack : List S) → Walk g shallow at.front (at.next ∷ at.after) (x ∷ []) stack → (n : ℕ) → step g stack at.next.kind ≡ m.refuses n →
          ((a : A) → reads shallow a ts (at.next ∷ at.after) → ⊥) → ((u : Token) → BeginsWithin reads (at.front ++ (u ∷ [])) → ⊥) → Refuses h (f x ∷ []) ts (e.Deep p)
      deep_refuse ts p at stack w n is unfinished none =
          elim (refuses_on stack at.next.kind n is) [
            | inl all ↦ absurd (whole_tree ts at.front (at.next ∷ at.after) stack at.whole w all unfinished)
            | inr go ↦ elim (within_or_deep n) [
              | inl le ↦ elim (point g yields sound empty sample stack at.next.kind n is) [
                | inl all ↦ absurd (whole_tree ts at.front (at.next ∷ at.after) stack at.whole w all unfinished)
                | inr q ↦ (let o = places.begins_other g joins yields sound empty sample only only_takes x reads from l into at.front (at.next ∷ at.after) stack n le w q in absurd (none o.0 o.1))
              ]
              | inr gt ↦ record {
                refused = (
                  length at.after,
                  λ k. chain ts at.front at.next at.after stack (m.refuses n) k at.whole w (go k)
                      ∙ ap (λ b. if b then m.fault (e.Expected at.next.pos) (length at.after) else m.fault (e.Deep at.next.pos) (length at.after)) (lt-leb n 200 gt)
                      ∙ ap (λ z. m.fault (e.Deep z) (length at.after)) at.place,
                );
              }
            ]
          ]

      -- what is too deep is refused, whatever comes after it
      pub deep_on : (ts : List Token) (p : Pos) → TooDeepAt reads ts p → Refuses h (f x ∷ []) ts (e.Deep p)
      deep_on ts p at =
          let v = stack_at at.front (at.next ∷ at.after) at.begins in
          elim at.deeper [
            | inl b ↦ (
                let q = places.goes_on g joins yields sound empty sample only only_takes x reads from l into anywhere at.front at.next b.more b.end b.tree v.0 b.whole (bare g shallow at.front (at.next ∷ at.after) (x ∷ []) v.0 v.1) in
                deep_shift ts p at v.0 v.1 q.0 q.1 q.2)
            | inr y ↦ elim (seen (step g v.0 at.next.kind)) [
              | inr q ↦ deep_shift ts p at v.0 v.1 q.0 q.1 q.2
              | inl q ↦ deep_refuse ts p at v.0 v.1 q.0 q.1 y.0 y.1
            ]
          ]
