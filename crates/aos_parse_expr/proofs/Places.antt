-- The place where the machine stops is the one that the grammar names. Over symbols of any kind, for a symbol `x` whose
-- production is `reads`.
use Rattle.std.proofs.Common.{◌≡◌, ℕ, ◌≤◌, ◌<◌, ◌++◌, List, [], ◌∷◌, length, Bool, true, false, Option, Some, None, refl, sym, ap, ◌∙◌, subst, arith, append_assoc, append-nil, length-append, ◌⊎◌, inl, inr, nat_le, if◌then◌else◌}
use Rattle.std.proofs.lemmas.Bool.{leb-true, leb-false, le-leb, lt-leb}
use Rattle.aos_base.specs.declared.text.Pos.{Pos}
use Rattle.aos_scan.specs.declared.token.Token.{Token}
use Rattle.aos_scan.specs.declared.token.TokenKind.{TokenKind}
use Rattle.aos_scan.specs.declared.token.TokenKind.TheVariants as k
use Rattle.aos_tree.specs.Nesting.{Rule, anywhere, shallow, shallow_before}
use Rattle.aos_tree.specs.Ended.{IsEnded}
use Rattle.aos_tree.specs.Begins.{Begins, BeginsWithin, CeasesAt, ExpectsAt, TooDeepAt}
use Rattle.aos_parse_expr.specs.declared.error.ParseErr.{ParseErr}
use Rattle.aos_parse_expr.specs.declared.error.ParseErr.TheVariants as e
use Rattle.aos_parse_expr.specs.Machine as m
use Rattle.aos_parse_expr.specs.Machine.{Table, Step, Outcome, run, step, act, without, or_else, Refuses}
use Rattle.aos_parse_expr.proofs.Walk.{AllLeft, Walk, Reads, walk_runs}
use Rattle.aos_parse_expr.proofs.Yields.{All, Free, Sound, Empty, Sample, Point, step_sound, walk_sound, fill, point}
use Rattle.aos_parse_expr.proofs.Falling as falling

abbrev pub end_token : Token
end_token = record { kind = k.End; start = 0; end = 0; pos = record { line = 0; col = 0 }; value = Rattle.std.specs.Prelude.pos 0 }

pub same_split : (xs ys us vs : List Token) → xs ++ us ≡ ys ++ vs → length us ≡ length vs → (xs ≡ ys) × (us ≡ vs)
same_split [] [] us vs at len = (refl, at)
same_split [] (y ∷ ys) us vs at len = absurd (omega (arith, ap length at, length-append ys vs))
same_split (x ∷ xs) [] us vs at len = absurd (omega (arith, ap length at, length-append xs us))
same_split (x ∷ xs) (y ∷ ys) us vs at len =
    let a : xs ++ us ≡ ys ++ vs = cc in
    let p = same_split xs ys us vs a len in
    let q : x ≡ y = cc in
    (cc, p.1)

-- a walk without its nestings
abbrev pub Walks : {S : Type 0} → Table S → List Token → List S → List S → Type 0
Walks g [] xs ys = xs ≡ ys
Walks {S} g (t ∷ ts) xs ys = (n : ℕ) × (j : List S) × (step g xs t.kind ≡ m.shifts n j) × Walks g ts j ys

kept_by : (b : Bool) (n : ℕ) → nat_le n 200 ≡ true → (if b then nat_le n 200 else true) ≡ true
kept_by true n h = h
kept_by false n h = refl

pub kept : (free n : ℕ) (q : List Token) → nat_le n 200 ≡ true → shallow_before free n q ≡ true
kept free n q h = kept_by (nat_le free (length q)) n h

-- with as many tokens after it as are kept, one is within the limit
pub within : (n : ℕ) (q : List Token) → shallow_before (length q) n q ≡ true → nat_le n 200 ≡ true
within n q h = sym (ap (λ b. if b then nat_le n 200 else true) (le-leb (length q) (length q) (omega arith))) ∙ h

pub free_before : (n : ℕ) → Free (shallow_before n) n
free_before n d vs h = ap (λ b. if b then nat_le d 200 else true) (lt-leb n (length vs) h)

module _ {S : Type 0} (g : Table S) where
  pub bare : (may : Rule) (front rest : List Token) (xs ys : List S) → Walk g may front rest xs ys → Walks g front xs ys
  bare may [] rest xs ys v = v
  bare may (t ∷ ts) rest xs ys v = (v.0, v.1, v.2, bare may ts rest v.1 ys v.4)

  walk_rule : (free : ℕ) (front rest other : List Token) (xs ys : List S) → Walk g shallow front rest xs ys → Walk g (shallow_before free) front other xs ys
  walk_rule free [] rest other xs ys v = v
  walk_rule free (t ∷ ts) rest other xs ys v = (v.0, v.1, v.2, kept free v.0 (ts ++ other) v.3, walk_rule free ts rest other v.1 ys v.4)

  walk_free : (front rest other : List Token) (xs ys : List S) → Walk g shallow front rest xs ys → Walk g anywhere front other xs ys
  walk_free [] rest other xs ys v = v
  walk_free (t ∷ ts) rest other xs ys v = (v.0, v.1, v.2, refl, walk_free ts rest other v.1 ys v.4)

  -- two walks over one front come to one stack, from which the longer one goes on
  next_step : (may : Rule) (front : List Token) (u : Token) (us rest : List Token) (xs zs stack : List S) → Walk g may (front ++ (u ∷ us)) rest xs zs → Walks g front xs stack →
      (n : ℕ) × (j : List S) × (step g stack u.kind ≡ m.shifts n j) × (may n (us ++ rest) ≡ true)
  next_step may [] u us rest xs zs stack w v = (w.0, w.1, ap (λ q. step g q u.kind) (sym v) ∙ w.2, w.3)
  next_step may (t ∷ ts) u us rest xs zs stack w v =
      let a : m.shifts w.0 w.1 ≡ m.shifts v.0 v.1 = sym w.2 ∙ v.2 in
      let b : v.1 ≡ w.1 = cc in
      next_step may ts u us rest w.1 zs stack w.4 (subst (λ q. Walks g ts q stack) b v.3)

  same_end : (may : Rule) (front rest : List Token) (xs ys stack : List S) → Walk g may front rest xs ys → Walks g front xs stack → ys ≡ stack
  same_end may [] rest xs ys stack w v = sym w ∙ v
  same_end may (t ∷ ts) rest xs ys stack w v =
      let a : m.shifts w.0 w.1 ≡ m.shifts v.0 v.1 = sym w.2 ∙ v.2 in
      let b : v.1 ≡ w.1 = cc in
      same_end may ts rest w.1 ys stack w.4 (subst (λ q. Walks g ts q stack) b v.3)

  -- what a stack takes, it takes on top of any other
  more_by : (x : S) (xs k : List S) (c : TokenKind) (n : ℕ) (j : List S) (move : Option (ℕ × List S)) (q : Option ℕ) → or_else move xs (without q (step g xs c)) ≡ m.shifts n j →
      (step g xs c ≡ m.shifts n j → step g (xs ++ k) c ≡ m.shifts n (j ++ k)) → or_else move (xs ++ k) (without q (step g (xs ++ k) c)) ≡ m.shifts n (j ++ k)
  more_by x xs k c n j (Some p) q is again =
      let a : p.0 ≡ n = cc in let b : p.1 ++ xs ≡ j = cc in
      ap (λ q. m.shifts q (p.1 ++ (xs ++ k))) a ∙ ap (λ q. m.shifts n q) (sym (append_assoc p.1 xs k) ∙ ap (λ q. q ++ k) b)
  more_by x xs k c n j None None is again = again is
  more_by x xs k c n j None (Some q) is again = absurd (cc)

  step_more : (xs k : List S) (c : TokenKind) (n : ℕ) (j : List S) → step g xs c ≡ m.shifts n j → step g (xs ++ k) c ≡ m.shifts n (j ++ k)
  step_more [] k c n j is = absurd (cc)
  step_more (x ∷ xs) k c n j is = more_by x xs k c n j (g.after x c) (g.needs x) is (λ h. step_more xs k c n j h)

  walk_more : (may : Rule) (front rest : List Token) (xs ys k : List S) → Walk g may front rest xs ys → Walk g may front rest (xs ++ k) (ys ++ k)
  walk_more may [] rest xs ys k v = ap (λ q. q ++ k) v
  walk_more may (t ∷ ts) rest xs ys k v = (v.0, v.1 ++ k, step_more xs k t.kind v.0 v.1 v.2, v.3, walk_more may ts rest v.1 ys k v.4)

  -- tails that don't take a token let it pass
  passes_by : (x : S) (xs k : List S) (c : TokenKind) (n : ℕ) (move : Option (ℕ × List S)) (q : Option ℕ) → q ≡ None → or_else move xs (without q (step g xs c)) ≡ m.refuses n →
      (step g xs c ≡ m.refuses n → step g (xs ++ k) c ≡ step g k c) → or_else move (xs ++ k) (without q (step g (xs ++ k) c)) ≡ step g k c
  passes_by x xs k c n (Some p) q left is again = absurd (cc)
  passes_by x xs k c n None None left is again = again is
  passes_by x xs k c n None (Some q) left is again = absurd (cc)

  passes : (xs k : List S) (c : TokenKind) (n : ℕ) → AllLeft g xs → step g xs c ≡ m.refuses n → step g (xs ++ k) c ≡ step g k c
  passes [] k c n left is = refl
  passes (x ∷ xs) k c n left is = passes_by x xs k c n (g.after x c) (g.needs x) left.0 is (λ h. passes xs k c n left.1 h)

  -- where the machine stops
  record Stop (ts : List Token) (xs : List S) (err : ParseErr) (left : ℕ) : Type 0 where
    front : List Token
    next : Token
    after : List Token
    stack : List S
    whole : ts ≡ front ++ (next ∷ after)
    left_is : length after ≡ left
    walk : Walk g shallow front (next ∷ after) xs stack
    why : ((n : ℕ) × (step g stack next.kind ≡ m.refuses n) × (n ≤ 200) × (err ≡ e.Expected next.pos))
        ⊎ (((n : ℕ) × (step g stack next.kind ≡ m.refuses n) × (200 < n) × (err ≡ e.Deep next.pos))
        ⊎ ((n : ℕ) × (j : List S) × (step g stack next.kind ≡ m.shifts n j) × (200 < n) × (err ≡ e.Deep next.pos)))

  refused_here : (t : Token) (ts : List Token) (xs : List S) (err : ParseErr) (left n : ℕ) (b : Bool) → nat_le n 200 ≡ b → step g xs t.kind ≡ m.refuses n →
      (let o : Outcome S = if b then m.fault (e.Expected t.pos) (length ts) else m.fault (e.Deep t.pos) (length ts) in o ≡ m.fault err left) → Stop (t ∷ ts) xs err left
  refused_here t ts xs err left n true le is h = record { front = []; next = t; after = ts; stack = xs; whole = refl; left_is = cc; walk = refl; why = inl (n, is, leb-true n 200 le, cc) }
  refused_here t ts xs err left n false le is h = record { front = []; next = t; after = ts; stack = xs; whole = refl; left_is = cc; walk = refl; why = inr (inl (n, is, leb-false n 200 le, cc)) }

  shifted_here : (t : Token) (ts : List Token) (xs : List S) (err : ParseErr) (left n : ℕ) (j : List S) (b : Bool) → nat_le n 200 ≡ b → step g xs t.kind ≡ m.shifts n j →
      (if b then run g shallow ts j else m.fault (e.Deep t.pos) (length ts)) ≡ m.fault err left → ((j' : List S) → run g shallow ts j' ≡ m.fault err left → Stop ts j' err left) → Stop (t ∷ ts) xs err left
  shifted_here t ts xs err left n j true le is h again =
      let r = again j h in
      record { front = t ∷ r.front; next = r.next; after = r.after; stack = r.stack; whole = ap (λ q. t ∷ q) r.whole; left_is = r.left_is; walk = (n, j, is, le, r.walk); why = r.why }
  shifted_here t ts xs err left n j false le is h again =
      record { front = []; next = t; after = ts; stack = xs; whole = refl; left_is = cc; walk = refl; why = inr (inr (n, j, is, leb-false n 200 le, cc)) }

  stop_by : (t : Token) (ts : List Token) (xs : List S) (err : ParseErr) (left : ℕ) (st : Step S) → step g xs t.kind ≡ st →
      act shallow t ts st (run g shallow ts) ≡ m.fault err left → ((j : List S) → run g shallow ts j ≡ m.fault err left → Stop ts j err left) → Stop (t ∷ ts) xs err left
  stop_by t ts xs err left (m.refuses n) is h again = refused_here t ts xs err left n (nat_le n 200) refl is h
  stop_by t ts xs err left (m.shifts n j) is h again = shifted_here t ts xs err left n j (nat_le n 200) refl is h again

  stop : (ts : List Token) (xs : List S) (err : ParseErr) (left : ℕ) → run g shallow ts xs ≡ m.fault err left → Stop ts xs err left
  unfolding run
  stop [] xs err left h = absurd (cc)
  stop (t ∷ ts) xs err left h = stop_by t ts xs err left (step g xs t.kind) refl h (λ j h'. stop ts j err left h')

  -- with nothing to come the next token is refused
  pub ended_run : (after : List Token) (err : ParseErr) (left : ℕ) → run g shallow after [] ≡ m.fault err left → length after ≡ left → ⊥
  unfolding run
  ended_run [] err left h is = absurd (cc)
  ended_run (v ∷ vs) err left h is = let a : length vs ≡ left = cc in omega arith

  pub run_step : (t : Token) (us : List Token) (xs : List S) (st : Step S) → step g xs t.kind ≡ st → run g shallow (t ∷ us) xs ≡ act shallow t us st (run g shallow us)
  unfolding run
  run_step t us xs st is = ap (λ q. act shallow t us q (run g shallow us)) is

  pub run_end : (t : Token) (us : List Token) → run g shallow (t ∷ us) [] ≡ m.fault (e.Expected t.pos) (length us)
  unfolding run
  run_end t us = refl

  module _ (only : TokenKind → S) (only_takes : (c : TokenKind) → g.after (only c) c ≡ Some (0, [])) where
    -- what is refused, whatever comes after it, is no whole
    not_left : (x : S) (ts front : List Token) (next : Token) (after : List Token) (stack : List S) (n : ℕ) (err : ParseErr) (left : ℕ) →
        ((ys : List S) → run g shallow ts (x ∷ ys) ≡ m.fault err left) → ts ≡ front ++ (next ∷ after) → length after ≡ left →
        Walk g shallow front (next ∷ after) (x ∷ []) stack → step g stack next.kind ≡ m.refuses n → AllLeft g stack → ⊥
    not_left x ts front next after stack n err left f whole left_is walk is all =
        let ys : List S = only next.kind ∷ [] in
        let a : step g ys next.kind ≡ m.shifts 0 [] = ap (λ mv. or_else mv [] (without (g.needs (only next.kind)) (m.refuses 0))) (only_takes next.kind) in
        let b : step g (stack ++ ys) next.kind ≡ m.shifts 0 [] = passes stack ys next.kind n all is ∙ a in
        let c : run g shallow ts (x ∷ ys) ≡ run g shallow after [] =
        ap (λ q. run g shallow q (x ∷ ys)) whole ∙ walk_runs g shallow front (next ∷ after) (x ∷ ys) (stack ++ ys) (walk_more shallow front (next ∷ after) (x ∷ []) stack ys walk)
        ∙ run_step next after (stack ++ ys) (m.shifts 0 []) b in
        ended_run after err left (sym c ∙ f ys) left_is

module _ {S : Type 0} (g : Table S) (joins : TokenKind → ℕ) (yields : Rule → S → List Token → List Token → Type 0) (sound : Sound g yields) (empty : Empty g yields)
    (sample : (x : S) (n : ℕ) → g.needs x ≡ Some n → Sample g yields x n)
    (only : TokenKind → S) (only_takes : (c : TokenKind) → g.after (only c) c ≡ Some (0, []))
    (x : S) {A : Type 0} (reads : Rule → A → List Token → List Token → Type 0)
    (from : (may : Rule) (ts rest : List Token) → All (yields may) (x ∷ []) ts rest → (a : A) × reads may a ts rest)
    (l : ℕ) (into : (may : Rule) (a : A) (ts rest : List Token) → reads may a ts rest → Reads g joins may l (x ∷ []) ts rest) where
  pub begins_within : (front rest : List Token) (stack : List S) → Walk g shallow front rest (x ∷ []) stack → BeginsWithin reads front
  begins_within front rest stack w =
      let f = fill g yields sound empty sample stack in
      let us : List Token = f.0 ++ (end_token ∷ []) in
      let rule : Rule = shallow_before (length us) in
      let a = walk_sound g yields sound empty rule front us (end_token ∷ []) (x ∷ []) stack (walk_rule g (length us) front rest us (x ∷ []) stack w) (f.1 rule (end_token ∷ []) (free_before (length us))) in
      let t = from rule (front ++ us) (end_token ∷ []) a in
      record { tree = t.0; more = f.0; end = end_token; is_end = refl; whole = t.1 }

  -- a token that goes on, however deep
  pub begins_on : (front rest : List Token) (stack : List S) (u : Token) (n : ℕ) (j : List S) → Walk g shallow front rest (x ∷ []) stack → step g stack u.kind ≡ m.shifts n j → Begins reads (front ++ (u ∷ []))
  begins_on front rest stack u n j w is =
      let f = fill g yields sound empty sample j in
      let us : List Token = f.0 ++ (end_token ∷ []) in
      let b = step_sound g yields sound empty anywhere stack u us (end_token ∷ []) n j is refl (f.1 anywhere (end_token ∷ []) (λ d vs h. refl)) in
      let a = walk_sound g yields sound empty anywhere front (u ∷ us) (end_token ∷ []) (x ∷ []) stack (walk_free g front rest (u ∷ us) (x ∷ []) stack w) b in
      let t = from anywhere (front ++ (u ∷ us)) (end_token ∷ []) a in
      record { tree = t.0; more = f.0; end = end_token; is_end = refl; whole = subst (λ q. reads anywhere t.0 q (end_token ∷ [])) (sym (append_assoc front (u ∷ []) us)) t.1 }

  -- a token that could stand there
  pub begins_other : (front rest : List Token) (stack : List S) (n : ℕ) → n ≤ 200 → Walk g shallow front rest (x ∷ []) stack → Point g yields stack n → (u : Token) × BeginsWithin reads (front ++ (u ∷ []))
  begins_other front rest stack n le w p =
      let us : List Token = p.1 ++ (end_token ∷ []) in
      let rule : Rule = shallow_before (length us) in
      let b = p.2 rule (end_token ∷ []) (kept (length us) n us (le-leb n 200 le)) (free_before (length us)) in
      let a = walk_sound g yields sound empty rule front (p.0 ∷ us) (end_token ∷ []) (x ∷ []) stack (walk_rule g (length us) front rest (p.0 ∷ us) (x ∷ []) stack w) b in
      let t = from rule (front ++ (p.0 ∷ us)) (end_token ∷ []) a in
      (p.0, record { tree = t.0; more = p.1; end = end_token; is_end = refl; whole = subst (λ q. reads rule t.0 q (end_token ∷ [])) (sym (append_assoc front (p.0 ∷ []) us)) t.1 })

  -- a tree that goes on with a token moves the machine by it
  pub goes_on : (may : Rule) (front : List Token) (u : Token) (more : List Token) (end : Token) (a : A) (stack : List S) → reads may a ((front ++ (u ∷ [])) ++ (more ++ (end ∷ []))) (end ∷ []) →
      Walks g front (x ∷ []) stack → (n : ℕ) × (j : List S) × (step g stack u.kind ≡ m.shifts n j) × (may n (more ++ (end ∷ [])) ≡ true)
  goes_on may front u more end a stack h v =
      let r = into may a ((front ++ (u ∷ [])) ++ (more ++ (end ∷ []))) (end ∷ []) h in
      let at = same_split r.front (front ++ (u ∷ more)) (end ∷ []) (end ∷ [])
      (sym r.whole ∙ append_assoc front (u ∷ []) (more ++ (end ∷ [])) ∙ sym (append_assoc front (u ∷ more) (end ∷ []))) refl in
      next_step g may front u more (end ∷ []) (x ∷ []) (r.tails ++ []) stack (subst (λ q. Walk g may q (end ∷ []) (x ∷ []) (r.tails ++ [])) at.0 (r.walk [])) v

  stays : (front rest : List Token) (stack : List S) (u : Token) (n : ℕ) → Walk g shallow front rest (x ∷ []) stack → step g stack u.kind ≡ m.refuses n → Begins reads (front ++ (u ∷ [])) → ⊥
  stays front rest stack u n w is b =
      let q = goes_on anywhere front u b.more b.end b.tree stack b.whole (bare g shallow front rest (x ∷ []) stack w) in
      let a : m.refuses n ≡ m.shifts q.0 q.1 = sym is ∙ q.2 in
      absurd (cc)

  -- a whole tree leaves only what may be left out
  leaves_all : (ts front rest : List Token) (stack : List S) (a : A) → ts ≡ front ++ rest → Walk g shallow front rest (x ∷ []) stack → reads shallow a ts rest → AllLeft g stack
  leaves_all ts front rest stack a whole w h =
      let r = into shallow a ts rest h in
      let at = same_split r.front front rest rest (sym r.whole ∙ whole) refl in
      let b : r.tails ++ [] ≡ stack = same_end g shallow front rest (x ∷ []) (r.tails ++ []) stack (subst (λ q. Walk g shallow q rest (x ∷ []) (r.tails ++ [])) at.0 (r.walk [])) (bare g shallow front rest (x ∷ []) stack w) in
      subst (λ q. AllLeft g q) (sym (append-nil r.tails) ∙ b) r.left

  expects_by : (ts : List Token) (p : Pos) (left : ℕ) → ((ys : List S) → run g shallow ts (x ∷ ys) ≡ m.fault (e.Expected p) left) → (r : Stop g ts (x ∷ []) (e.Expected p) left) →
      ((n : ℕ) × (step g r.stack r.next.kind ≡ m.refuses n) × (n ≤ 200) × (e.Expected p ≡ e.Expected r.next.pos)) → ExpectsAt reads ts p
  expects_by ts p left f r w =
      let never : AllLeft g r.stack → ⊥ = not_left g only only_takes x ts r.front r.next r.after r.stack w.0 (e.Expected p) left f r.whole r.left_is r.walk w.1 in
      record {
        front = r.front;
        next = r.next;
        after = r.after;
        whole = r.whole;
        place = cc;
        begins = begins_within r.front (r.next ∷ r.after) r.stack r.walk;
        unfinished = λ a h. never (leaves_all ts r.front (r.next ∷ r.after) r.stack a r.whole r.walk h);
        no_further = stays r.front (r.next ∷ r.after) r.stack r.next w.0 r.walk w.1;
        other = elim (point g yields sound empty sample r.stack r.next.kind w.0 w.1) [
          | inl all ↦ absurd (never all)
          | inr q ↦ begins_other r.front (r.next ∷ r.after) r.stack w.0 w.2 r.walk q
        ];
      }

  expects_why : (ts : List Token) (p : Pos) (left : ℕ) → ((ys : List S) → run g shallow ts (x ∷ ys) ≡ m.fault (e.Expected p) left) → Stop g ts (x ∷ []) (e.Expected p) left → ExpectsAt reads ts p
  expects_why ts p left f r =
      elim r.why [
        | inl w ↦ expects_by ts p left f r w
        | inr v ↦ elim v [ inl w ↦ (let no : e.Expected p ≡ e.Deep r.next.pos = w.3 in absurd (cc)) | inr w ↦ (let no : e.Expected p ≡ e.Deep r.next.pos = w.4 in absurd (cc)) ]
      ]

  -- where another token is expected
  pub expects : (ts : List Token) (p : Pos) → Refuses g (x ∷ []) ts (e.Expected p) → ExpectsAt reads ts p
  expects ts p h = expects_why ts p h.refused.0 h.refused.1 (stop g ts (x ∷ []) (e.Expected p) h.refused.0 (h.refused.1 []))

  -- where the tree ends
  pub ceases : (a : A) (ts rest : List Token) → IsEnded rest → reads shallow a ts rest → ((ys : List S) → run g shallow ts (x ∷ ys) ≡ run g shallow rest ys) → CeasesAt reads ts rest
  ceases a ts [] ended h f = absurd ended
  ceases a ts (u ∷ us) ended h f = ceases_by a ts u us h (stop g ts (x ∷ []) (e.Expected u.pos) (length us) (f [] ∙ run_end g u us))
    where
      ceases_by : (a : A) (ts : List Token) (u : Token) (us : List Token) → reads shallow a ts (u ∷ us) → Stop g ts (x ∷ []) (e.Expected u.pos) (length us) → CeasesAt reads ts (u ∷ us)
      ceases_by a ts u us h r =
          let v = into shallow a ts (u ∷ us) h in
          let at = same_split v.front r.front (u ∷ us) (r.next ∷ r.after) (sym v.whole ∙ r.whole) (omega (arith, r.left_is)) in
          let same : r.next ≡ u = cc in
          elim r.why [
            | inl w ↦ record {
              front = v.front;
              next = u;
              after = us;
              whole = v.whole;
              rest_is = refl;
              no_further = subst (λ z. Begins reads (v.front ++ (z ∷ [])) → ⊥) same (subst (λ q. Begins reads (q ++ (r.next ∷ [])) → ⊥) (sym at.0) (stays r.front (r.next ∷ r.after) r.stack r.next w.0 r.walk w.1));
            }
            | inr y ↦ elim y [ inl w ↦ (let no : e.Expected u.pos ≡ e.Deep r.next.pos = w.3 in absurd (cc)) | inr w ↦ (let no : e.Expected u.pos ≡ e.Deep r.next.pos = w.4 in absurd (cc)) ]
          ]

  module _ (depth : S → ℕ) (low : (y : S) (c : TokenKind) (p : ℕ × List S) → g.after y c ≡ Some p → depth y ≤ p.0)
      (floor : (y : S) (c : TokenKind) (p : ℕ × List S) (n : ℕ) → g.after y c ≡ Some p → g.needs y ≡ Some n → n ≤ p.0)
      (falls : (y : S) (c : TokenKind) (p : ℕ × List S) → g.after y c ≡ Some p → falling.FallsTo g depth (depth y) p.1) where
    pub falls_walk : (may : Rule) (front rest : List Token) (xs ys : List S) → Walk g may front rest xs ys → falling.FallsTo g depth 0 xs → falling.FallsTo g depth 0 ys
    falls_walk may [] rest xs ys w f = subst (λ q. falling.FallsTo g depth 0 q) w f
    falls_walk may (t ∷ ts) rest xs ys w f = falls_walk may ts rest w.1 ys w.4 (falling.falls_step g depth low floor falls xs t.kind w.0 w.1 w.2 f)

    -- where all that could stand is too deep
    none_within : (front rest : List Token) (stack : List S) (next : Token) (n : ℕ) → 200 < n → Walk g shallow front rest (x ∷ []) stack → step g stack next.kind ≡ m.refuses n →
        (u : Token) → BeginsWithin reads (front ++ (u ∷ [])) → ⊥
    none_within front rest stack next n deep w is u b =
        let q = goes_on (shallow_before (length (b.more ++ (b.end ∷ [])))) front u b.more b.end b.tree stack b.whole (bare g shallow front rest (x ∷ []) stack w) in
        let le : q.0 ≤ 200 = leb-true q.0 200 (within q.0 (b.more ++ (b.end ∷ [])) q.3) in
        let f : falling.FallsTo g depth 0 stack = falls_walk shallow front rest (x ∷ []) stack w (omega arith, tt) in
        let a : n ≡ falling.first_or g depth 0 stack = falling.refused_at g depth low floor falls stack next.kind n is in
        let c : falling.first_or g depth 0 stack ≤ q.0 = falling.shifted_at g depth low floor falls stack u.kind q.0 q.1 q.2 f in
        omega arith

    one_within : (front rest : List Token) (stack : List S) (next : Token) (n : ℕ) (j : List S) → 200 < n → Walk g shallow front rest (x ∷ []) stack → step g stack next.kind ≡ m.shifts n j →
        BeginsWithin reads (front ++ (next ∷ [])) → ⊥
    one_within front rest stack next n j deep w is b =
        let q = goes_on (shallow_before (length (b.more ++ (b.end ∷ [])))) front next b.more b.end b.tree stack b.whole (bare g shallow front rest (x ∷ []) stack w) in
        let le : q.0 ≤ 200 = leb-true q.0 200 (within q.0 (b.more ++ (b.end ∷ [])) q.3) in
        let a : m.shifts n j ≡ m.shifts q.0 q.1 = sym is ∙ q.2 in
        let b : n ≡ q.0 = cc in
        omega arith

    deep_why : (ts : List Token) (p : Pos) (left : ℕ) → ((ys : List S) → run g shallow ts (x ∷ ys) ≡ m.fault (e.Deep p) left) → Stop g ts (x ∷ []) (e.Deep p) left → TooDeepAt reads ts p
    deep_why ts p left f r =
        elim r.why [
          | inl w ↦ (let no : e.Deep p ≡ e.Expected r.next.pos = w.3 in absurd (cc))
          | inr v ↦ elim v [
            | inl w ↦ (let at : e.Deep p ≡ e.Deep r.next.pos = w.3 in record {
              front = r.front;
              next = r.next;
              after = r.after;
              whole = r.whole;
              place = cc;
              begins = begins_within r.front (r.next ∷ r.after) r.stack r.walk;
              no_further = none_within r.front (r.next ∷ r.after) r.stack r.next w.0 w.2 r.walk w.1 r.next;
              deeper = inr (
                (λ a h. not_left g only only_takes x ts r.front r.next r.after r.stack w.0 (e.Deep p) left f r.whole r.left_is r.walk w.1 (leaves_all ts r.front (r.next ∷ r.after) r.stack a r.whole r.walk h)),
                none_within r.front (r.next ∷ r.after) r.stack r.next w.0 w.2 r.walk w.1,
              );
            })
            | inr w ↦ (let at : e.Deep p ≡ e.Deep r.next.pos = w.4 in record {
              front = r.front;
              next = r.next;
              after = r.after;
              whole = r.whole;
              place = cc;
              begins = begins_within r.front (r.next ∷ r.after) r.stack r.walk;
              no_further = one_within r.front (r.next ∷ r.after) r.stack r.next w.0 w.1 w.3 r.walk w.2;
              deeper = inl (begins_on r.front (r.next ∷ r.after) r.stack r.next w.0 w.1 r.walk w.2);
            })
          ]
        ]

    -- where the nesting passes the limit
    pub deep : (ts : List Token) (p : Pos) → Refuses g (x ∷ []) ts (e.Deep p) → TooDeepAt reads ts p
    deep ts p h = deep_why ts p h.refused.0 h.refused.1 (stop g ts (x ∷ []) (e.Deep p) h.refused.0 (h.refused.1 []))
