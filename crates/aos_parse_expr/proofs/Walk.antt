-- What a tree reads leads the machine from one stack to another, but for tails that may go on or not. Over symbols of any
-- kind; `joins` says how loosely a token joins what stands before it.
use Rattle.std.proofs.Common.{◌≡◌, ℕ, ◌≤◌, ◌<◌, ◌++◌, List, [], ◌∷◌, length, Bool, true, Some, None, refl, sym, ap, ◌∙◌, subst, arith, append_assoc, append-nil, ◌⊎◌, inl, inr, if◌then◌else◌}
use Rattle.std.specs.Prelude.{⊤}
use Rattle.aos_scan.specs.declared.token.Token.{Token}
use Rattle.aos_scan.specs.declared.token.TokenKind.{TokenKind}
use Rattle.aos_tree.specs.Nesting.{Rule}
use Rattle.aos_parse_expr.specs.declared.error.ParseErr.TheVariants as e
use Rattle.aos_parse_expr.specs.Machine as m
use Rattle.aos_parse_expr.specs.Machine.{Table, Step, run, step, act, without, or_else}

-- each may be left out
abbrev pub AllLeft : {S : Type 0} → Table S → List S → Type 0
AllLeft g [] = ⊤
AllLeft g (x ∷ xs) = (g.needs x ≡ None) × AllLeft g xs

-- the tokens before `rest` lead from one stack to another, each where it may stand
abbrev pub Walk : {S : Type 0} → Table S → Rule → List Token → List Token → List S → List S → Type 0
Walk g may [] rest xs ys = xs ≡ ys
Walk {S} g may (t ∷ ts) rest xs ys = (n : ℕ) × (j : List S) × (step g xs t.kind ≡ m.shifts n j) × (may n (ts ++ rest) ≡ true) × Walk g may ts rest j ys

-- the first token joins more loosely than l
abbrev pub Above : (TokenKind → ℕ) → ℕ → List Token → Type 0
Above joins l [] = ⊤
Above joins l (t ∷ ts) = l < joins t.kind

-- there is a first token, and it is one of these
abbrev pub Starts : (TokenKind → Bool) → List Token → Type 0
Starts starts [] = ⊥
Starts starts (t ∷ ts) = starts t.kind ≡ true

pub starts_on : (starts : TokenKind → Bool) (xs ys : List Token) → Starts starts xs → Starts starts (xs ++ ys)
starts_on starts [] ys h = absurd h
starts_on starts (x ∷ xs) ys h = h

module _ {S : Type 0} (g : Table S) (may : Rule) where
  pub walk_join : (front more rest : List Token) (xs ys zs : List S) → Walk g may front (more ++ rest) xs ys → Walk g may more rest ys zs → Walk g may (front ++ more) rest xs zs
  walk_join [] more rest xs ys zs w v = subst (λ q. Walk g may more rest q zs) (sym w) v
  walk_join (t ∷ ts) more rest xs ys zs w v =
      (w.0, w.1, w.2, subst (λ q. may w.0 q ≡ true) (sym (append_assoc ts more rest)) w.3, walk_join ts more rest w.1 ys zs w.4 v)

  -- a walk begins alike from stacks that take its first token alike
  pub walk_from : (t : Token) (ts rest : List Token) (xs ys zs : List S) → step g xs t.kind ≡ step g ys t.kind → Walk g may (t ∷ ts) rest ys zs → Walk g may (t ∷ ts) rest xs zs
  walk_from t ts rest xs ys zs same w = (w.0, w.1, same ∙ w.2, w.3, w.4)

  pub walk_runs : (front rest : List Token) (xs ys : List S) → Walk g may front rest xs ys → run g may (front ++ rest) xs ≡ run g may rest ys
  unfolding run
  walk_runs [] rest xs ys w = ap (run g may rest) w
  walk_runs (t ∷ ts) rest xs ys w =
      ap (λ st. act may t (ts ++ rest) st (run g may (ts ++ rest))) w.2
      ∙ ap (λ b. if b then run g may (ts ++ rest) w.1 else m.fault (e.Deep t.pos) (length (ts ++ rest))) w.3 ∙ walk_runs ts rest w.1 ys w.4

pub left_join : {S : Type 0} (g : Table S) (xs ys : List S) → AllLeft g xs → AllLeft g ys → AllLeft g (xs ++ ys)
left_join g [] ys a b = b
left_join g (x ∷ xs) ys a b = (a.0, left_join g xs ys a.1 b)

-- xs are read from ts up to rest, but for tails that no token takes that joins more loosely than l
pub record Reads {S : Type 0} (g : Table S) (joins : TokenKind → ℕ) (may : Rule) (l : ℕ) (xs : List S) (ts rest : List Token) : Type 0 where
  pub front : List Token
  pub tails : List S
  pub whole : ts ≡ front ++ rest
  pub walk : (j : List S) → Walk g may front rest (xs ++ j) (tails ++ j)
  pub closes : (c : TokenKind) → l < joins c → (j : List S) → step g (tails ++ j) c ≡ step g j c
  pub left : AllLeft g tails

module _ {S : Type 0} (g : Table S) (joins : TokenKind → ℕ) (may : Rule) where
  abbrev pub nil : (l : ℕ) (rest : List Token) → Reads g joins may l [] rest rest
  nil l rest = record { front = []; tails = []; whole = refl; walk = λ j. refl; closes = λ c h j. refl; left = tt }

  abbrev pub leaves : (l : ℕ) (y : S) → ((c : TokenKind) → l < joins c → g.after y c ≡ None) → g.needs y ≡ None → (rest : List Token) → Reads g joins may l (y ∷ []) rest rest
  leaves l y none free rest = record {
    front = [];
    tails = y ∷ [];
    whole = refl;
    walk = λ j. refl;
    closes = λ c h j. ap (λ mv. or_else mv j (without (g.needs y) (step g j c))) (none c h) ∙ ap (λ q. without q (step g j c)) free;
    left = (free, tt);
  }

  abbrev pub takes : (l : ℕ) (x : S) (n : ℕ) (ys zs : List S) (t : Token) (us rest : List Token) → g.after x t.kind ≡ Some (n, ys) → may n us ≡ true → Reads g joins may l (ys ++ zs) us rest → Reads g joins may l (x ∷ zs) (t ∷ us) rest
  takes l x n ys zs t us rest is fits r = record {
    front = t ∷ r.front;
    tails = r.tails;
    whole = ap (λ q. t ∷ q) r.whole;
    walk = λ j. (n, (ys ++ zs) ++ j, ap (λ mv. or_else mv (zs ++ j) (without (g.needs x) (step g (zs ++ j) t.kind))) is ∙ ap (λ q. m.shifts n q) (sym (append_assoc ys zs j)), subst (λ q. may n q ≡ true) r.whole fits, r.walk j);
    closes = r.closes;
    left = r.left;
  }

  -- what comes first may go on only where nothing comes after it
  pub seq_walk : (l : ℕ) (front more rest : List Token) (xs ys tails tails' : List S) → ((j : List S) → Walk g may front (more ++ rest) (xs ++ j) (tails ++ j)) → ((c : TokenKind) → l < joins c → (j : List S) → step g (tails ++ j) c ≡ step g j c) →
      ((j : List S) → Walk g may more rest (ys ++ j) (tails' ++ j)) → Above joins l more → (fine : List S) × ((j : List S) → Walk g may (front ++ more) rest ((xs ++ ys) ++ j) (fine ++ j)) × ((fine ≡ tails') ⊎ (fine ≡ tails ++ tails'))
  seq_walk l front [] rest xs ys tails tails' w closes v above = (
    tails ++ tails',
    (λ j.
        subst (λ q. Walk g may q rest ((xs ++ ys) ++ j) ((tails ++ tails') ++ j)) (sym (append-nil front))
        (subst (λ q. Walk g may front rest q ((tails ++ tails') ++ j)) (sym (append_assoc xs ys j))
        (subst (λ q. Walk g may front rest (xs ++ (ys ++ j)) q) (ap (λ q. tails ++ q) (v j) ∙ sym (append_assoc tails tails' j)) (w (ys ++ j))))),
    inr refl,
  )
  seq_walk l front (t ∷ ts) rest xs ys tails tails' w closes v above = (
    tails',
    (λ j. walk_join g may front (t ∷ ts) rest ((xs ++ ys) ++ j) (tails ++ (ys ++ j)) (tails' ++ j) (subst (λ q. Walk g may front ((t ∷ ts) ++ rest) q (tails ++ (ys ++ j))) (sym (append_assoc xs ys j)) (w (ys ++ j)))
        (walk_from g may t ts rest (tails ++ (ys ++ j)) (ys ++ j) (tails' ++ j) (closes t.kind above (ys ++ j)) (v j))),
    inl refl,
  )

  pub closes_either : (l l' : ℕ) (tails tails' fine : List S) → l ≤ l' → ((c : TokenKind) → l < joins c → (j : List S) → step g (tails ++ j) c ≡ step g j c) → ((c : TokenKind) → l' < joins c → (j : List S) → step g (tails' ++ j) c ≡ step g j c) →
      (fine ≡ tails') ⊎ (fine ≡ tails ++ tails') → (c : TokenKind) → l' < joins c → (j : List S) → step g (fine ++ j) c ≡ step g j c
  closes_either l l' tails tails' fine le a b (inl at) c h j = ap (λ q. step g (q ++ j) c) at ∙ b c h j
  closes_either l l' tails tails' fine le a b (inr at) c h j =
      ap (λ q. step g (q ++ j) c) at ∙ ap (λ q. step g q c) (append_assoc tails tails' j) ∙ a c (omega arith) (tails' ++ j) ∙ b c h j

  pub left_either : (tails tails' fine : List S) → AllLeft g tails → AllLeft g tails' → (fine ≡ tails') ⊎ (fine ≡ tails ++ tails') → AllLeft g fine
  left_either tails tails' fine a b (inl at) = subst (λ q. AllLeft g q) (sym at) b
  left_either tails tails' fine a b (inr at) = subst (λ q. AllLeft g q) (sym at) (left_join g tails tails' a b)

  abbrev pub seq : (l l' : ℕ) (xs ys : List S) (ts mid rest : List Token) → l ≤ l' → (a : Reads g joins may l xs ts mid) → (b : Reads g joins may l' ys mid rest) → Above joins l b.front → Reads g joins may l' (xs ++ ys) ts rest
  seq l l' xs ys ts mid rest le a b above =
      let w = seq_walk l a.front b.front rest xs ys a.tails b.tails (λ j. subst (λ q. Walk g may a.front q (xs ++ j) (a.tails ++ j)) b.whole (a.walk j)) a.closes b.walk above in
      record {
        front = a.front ++ b.front;
        tails = w.0;
        whole = a.whole ∙ ap (λ q. a.front ++ q) b.whole ∙ sym (append_assoc a.front b.front rest);
        walk = w.1;
        closes = closes_either l l' a.tails b.tails w.0 le a.closes b.closes w.2;
        left = left_either a.tails b.tails w.0 a.left b.left w.2;
      }

  -- what comes next is there
  abbrev pub seq_on : (l l' : ℕ) (xs ys : List S) (ts : List Token) (u : Token) (us fs rest : List Token) → (a : Reads g joins may l xs ts (u ∷ us)) → l < joins u.kind → (b : Reads g joins may l' ys (u ∷ us) rest) → b.front ≡ u ∷ fs → Reads g joins may l' (xs ++ ys) ts rest
  seq_on l l' xs ys ts u us fs rest a loose b at =
      let bw : u ∷ us ≡ (u ∷ fs) ++ rest = b.whole ∙ ap (λ q. q ++ rest) at in
      record {
        front = a.front ++ (u ∷ fs);
        tails = b.tails;
        whole = a.whole ∙ ap (λ q. a.front ++ q) bw ∙ sym (append_assoc a.front (u ∷ fs) rest);
        walk = λ j. walk_join g may a.front (u ∷ fs) rest ((xs ++ ys) ++ j) (a.tails ++ (ys ++ j)) (b.tails ++ j)
            (subst (λ q. Walk g may a.front ((u ∷ fs) ++ rest) q (a.tails ++ (ys ++ j))) (sym (append_assoc xs ys j)) (subst (λ q. Walk g may a.front q (xs ++ (ys ++ j)) (a.tails ++ (ys ++ j))) bw (a.walk (ys ++ j))))
            (walk_from g may u fs rest (a.tails ++ (ys ++ j)) (ys ++ j) (b.tails ++ j) (a.closes u.kind loose (ys ++ j)) (subst (λ q. Walk g may q rest (ys ++ j) (b.tails ++ j)) at (b.walk j)));
        closes = b.closes;
        left = b.left;
      }

  pub enter_walk : (starts : TokenKind → Bool) (front rest : List Token) (xs ys zs : List S) → Starts starts front → ((c : TokenKind) → starts c ≡ true → step g xs c ≡ step g ys c) → Walk g may front rest ys zs → Walk g may front rest xs zs
  enter_walk starts [] rest xs ys zs begun same w = absurd begun
  enter_walk starts (t ∷ ts) rest xs ys zs begun same w = walk_from g may t ts rest xs ys zs (same t.kind begun) w

  -- xs begin by as much as ys where one of these tokens stands
  abbrev pub enter : (starts : TokenKind → Bool) (l : ℕ) (xs ys : List S) (ts rest : List Token) → ((c : TokenKind) (j : List S) → starts c ≡ true → step g (xs ++ j) c ≡ step g (ys ++ j) c) → (r : Reads g joins may l ys ts rest) → Starts starts r.front → Reads g joins may l xs ts rest
  enter starts l xs ys ts rest same r begun = record {
    front = r.front;
    tails = r.tails;
    whole = r.whole;
    walk = λ j. enter_walk starts r.front rest (xs ++ j) (ys ++ j) (r.tails ++ j) begun (λ c h. same c j h) (r.walk j);
    closes = r.closes;
    left = r.left;
  }

  abbrev pub wider : (l l' : ℕ) (xs : List S) (ts rest : List Token) → l ≤ l' → Reads g joins may l xs ts rest → Reads g joins may l' xs ts rest
  wider l l' xs ts rest le r = record { front = r.front; tails = r.tails; whole = r.whole; walk = r.walk; closes = λ c h j. r.closes c (omega arith) j; left = r.left }
