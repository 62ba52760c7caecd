-- How what is read one after another is walked: a part that may be missing, and one that is there, with how loosely its
-- first token joins.
use Rattle.std.proofs.Common.{◌≡◌, ℕ, ◌≤◌, ◌<◌, ◌++◌, List, [], ◌∷◌, Some, None, sym, ap, ◌∙◌, subst, arith, append_assoc}
use Rattle.aos_base.specs.declared.text.Pos.{Pos}
use Rattle.aos_scan.specs.declared.token.Token.{Token}
use Rattle.aos_scan.specs.declared.token.TokenKind.{TokenKind}
use Rattle.aos_scan.specs.declared.token.TokenKind.TheVariants as k
use Rattle.aos_tree.specs.declared.name.Name.{Name}
use Rattle.aos_tree.specs.Nesting.{Rule}
use Rattle.aos_tree.specs.Words as g
use Rattle.aos_tree.specs.Words.{IsWord, IsName}
use Rattle.aos_parse_expr.specs.Machine.{shifts, step, or_else, without}
use Rattle.aos_parse_expr.proofs.Walk as w
use Rattle.aos_parse_expr.proofs.Walk.{Walk, walk_join, walk_from}
use Rattle.aos_parse_mod.specs.Symbols as m
use Rattle.aos_parse_mod.specs.Symbols.{Sym, Stack}
use Rattle.aos_parse_mod.proofs.Joins.{joins, word_is}

abbrev pub Firmly : ℕ → List Token → Type 0
Firmly n [] = ⊥
Firmly n (t ∷ ts) = n < joins t.kind

pub firm_more : (n : ℕ) (xs ys : List Token) → Firmly n xs → Firmly n (xs ++ ys)
firm_more n [] ys a = absurd a
firm_more n (x ∷ xs) ys a = a

pub firm_after : (n j : ℕ) (xs ys : List Token) → n ≤ j → w.Above joins n xs → Firmly j ys → Firmly n (xs ++ ys)
firm_after n j [] [] le a b = absurd b
firm_after n j [] (y ∷ ys) le a b = omega arith
firm_after n j (x ∷ xs) ys le a b = a

above_after : (n j : ℕ) (xs ys : List Token) → n ≤ j → w.Above joins n xs → w.Above joins j ys → w.Above joins n (xs ++ ys)
above_after n j [] [] le a b = tt
above_after n j [] (y ∷ ys) le a b = omega arith
above_after n j (x ∷ xs) ys le a b = a

above_firm : (n j : ℕ) (xs : List Token) → n ≤ j → Firmly j xs → w.Above joins n xs
above_firm n j [] le a = tt
above_firm n j (x ∷ xs) le a = omega arith

above_low : (n j : ℕ) (xs : List Token) → n ≤ j → w.Above joins j xs → w.Above joins n xs
above_low n j [] le a = tt
above_low n j (x ∷ xs) le a = omega arith

module _ (may : Rule) where
  abbrev pub Reads : ℕ → Stack → List Token → List Token → Type 0
  Reads l xs ts rest = w.Reads m.table joins may l xs ts rest

  -- where it is there, its first token joins more loosely than n
  pub record Going (l n : ℕ) (xs : Stack) (ts rest : List Token) : Type 0 where
    pub reads : w.Reads m.table joins may l xs ts rest
    pub above : w.Above joins n reads.front

  -- it is there
  pub record Firm (l n : ℕ) (xs : Stack) (ts rest : List Token) : Type 0 where
    pub reads : w.Reads m.table joins may l xs ts rest
    pub firm : Firmly n reads.front

  pub nil : {l : ℕ} {rest : List Token} → Reads l [] rest rest
  nil {l} {rest} = w.nil m.table joins may l rest

  -- nothing of x is there
  pub leaves : {l n : ℕ} {rest : List Token} (x : Sym) → ((c : TokenKind) → l < joins c → m.after x c ≡ None) → m.needs x ≡ None → Going l n (x ∷ []) rest rest
  leaves {l} {n} {rest} x none free = record { reads = w.leaves m.table joins may l x none free rest; above = tt }

  pub as_word : {d : ℕ} {a : Name} {ts rest : List Token} → IsName may d a ts rest → IsWord may d k.Ident a.pos ts rest
  as_word (g.ident is fits) = g.word is fits

  -- x begins with this word
  pub opened : {c : TokenKind} {p : Pos} {ts mid rest : List Token} {l n d : ℕ} (x : Sym) (ys zs : Stack) → m.after x c ≡ Some (d, ys) → n < joins c →
      IsWord may d c p ts mid → Reads l (ys ++ zs) mid rest → Firm l n (x ∷ zs) ts rest
  opened {c} {p} {ts} {mid} {rest} {l} {n} {d} x ys zs at loose (g.word {t = t} {ts = us} is fits) r = record {
    reads = w.takes m.table joins may l x d ys zs t us rest (ap (m.after x) is ∙ at) fits r;
    firm = subst (λ q. n < joins q) (sym is) loose;
  }

  pub word : {c : TokenKind} {p : Pos} {ts mid rest : List Token} {l n d : ℕ} {zs : Stack} → n < joins c → IsWord may d c p ts mid → Reads l zs mid rest → Firm l n (m.tok d c ∷ zs) ts rest
  word {c = c} {d = d} {zs = zs} loose x r = opened (m.tok d c) [] zs (word_is d c []) loose x r

  -- x is left out before a word that begins y
  pub over : {c : TokenKind} {p : Pos} {ts mid rest : List Token} {l n d : ℕ} (x y : Sym) (ys zs : Stack) → m.needs x ≡ None → m.after x c ≡ None → m.after y c ≡ Some (d, ys) → n < joins c →
      IsWord may d c p ts mid → Reads l (ys ++ zs) mid rest → Firm l n (x ∷ y ∷ zs) ts rest
  over {c} {p} {ts} {mid} {rest} {l} {n} {d} x y ys zs free none at loose (g.word {t = t} {ts = us} is fits) r =
      let q = w.takes m.table joins may l y d ys zs t us rest (ap (m.after y) is ∙ at) fits r in
      record {
        reads = record {
          front = q.front;
          tails = q.tails;
          whole = q.whole;
          walk = λ j. walk_from m.table may t r.front rest (x ∷ y ∷ (zs ++ j)) (y ∷ (zs ++ j)) (q.tails ++ j)
              (ap (λ mv. or_else mv (y ∷ (zs ++ j)) (without (m.needs x) (step m.table (y ∷ (zs ++ j)) t.kind))) (ap (m.after x) is ∙ none) ∙ ap (λ z. without z (step m.table (y ∷ (zs ++ j)) t.kind)) free) (q.walk j);
          closes = q.closes;
          left = q.left;
        };
        firm = subst (λ q. n < joins q) (sym is) loose;
      }

  entered_walk : (n : ℕ) (front rest : List Token) (xs ys zs : Stack) → Firmly n front → ((c : TokenKind) (d : ℕ) (i : Stack) → step m.table ys c ≡ shifts d i → step m.table xs c ≡ shifts d i) →
      Walk m.table may front rest ys zs → Walk m.table may front rest xs zs
  entered_walk n [] rest xs ys zs firm same v = absurd firm
  entered_walk n (t ∷ ts) rest xs ys zs firm same v = (v.0, v.1, same t.kind v.0 v.1 v.2, v.3, v.4)

  -- x begins with all that ys begins with
  pub entered : {l n : ℕ} {ts rest : List Token} (x : Sym) (ys : Stack) → ((c : TokenKind) (j : Stack) (d : ℕ) (i : Stack) → step m.table (ys ++ j) c ≡ shifts d i → step m.table (x ∷ j) c ≡ shifts d i) →
      Firm l n ys ts rest → Firm l n (x ∷ []) ts rest
  entered {l} {n} {ts} {rest} x ys same r = record {
    reads = record {
      front = r.reads.front;
      tails = r.reads.tails;
      whole = r.reads.whole;
      walk = λ j. entered_walk n r.reads.front rest (x ∷ j) (ys ++ j) (r.reads.tails ++ j) r.firm (λ c d i st. same c j d i st) (r.reads.walk j);
      closes = r.reads.closes;
      left = r.reads.left;
    };
    firm = r.firm;
  }

  on_walk : (l : ℕ) (front more rest : List Token) (xs ys tails tails' : Stack) → Firmly l more → ((j : Stack) → Walk m.table may front (more ++ rest) (xs ++ j) (tails ++ j)) →
      ((c : TokenKind) → l < joins c → (j : Stack) → step m.table (tails ++ j) c ≡ step m.table j c) → ((j : Stack) → Walk m.table may more rest (ys ++ j) (tails' ++ j)) →
      (j : Stack) → Walk m.table may (front ++ more) rest ((xs ++ ys) ++ j) (tails' ++ j)
  on_walk l front [] rest xs ys tails tails' firm a closes b j = absurd firm
  on_walk l front (t ∷ ts) rest xs ys tails tails' firm a closes b j =
      walk_join m.table may front (t ∷ ts) rest ((xs ++ ys) ++ j) (tails ++ (ys ++ j)) (tails' ++ j)
      (subst (λ q. Walk m.table may front ((t ∷ ts) ++ rest) q (tails ++ (ys ++ j))) (sym (append_assoc xs ys j)) (a (ys ++ j)))
      (walk_from m.table may t ts rest (tails ++ (ys ++ j)) (ys ++ j) (tails' ++ j) (closes t.kind firm (ys ++ j)) (b j))

  firmly_low : (n j : ℕ) (xs : List Token) → n ≤ j → Firmly j xs → Firmly n xs
  firmly_low n j [] le a = absurd a
  firmly_low n j (x ∷ xs) le a = omega arith

  -- what comes next is there
  pub on : {l l' n : ℕ} {xs ys : Stack} {ts mid rest : List Token} → Reads l xs ts mid → l ≤ n → Firm l' n ys mid rest → Reads l' (xs ++ ys) ts rest
  on {l} {l'} {n} {xs} {ys} {ts} {mid} {rest} a le b = record {
    front = a.front ++ b.reads.front;
    tails = b.reads.tails;
    whole = a.whole ∙ ap (λ q. a.front ++ q) b.reads.whole ∙ sym (append_assoc a.front b.reads.front rest);
    walk = on_walk l a.front b.reads.front rest xs ys a.tails b.reads.tails (firmly_low l n b.reads.front le b.firm)
        (λ j. subst (λ q. Walk m.table may a.front q (xs ++ j) (a.tails ++ j)) b.reads.whole (a.walk j)) a.closes b.reads.walk;
    closes = b.reads.closes;
    left = b.reads.left;
  }

  pub firm_on : {l l' n n' : ℕ} {xs ys : Stack} {ts mid rest : List Token} → Firm l n' xs ts mid → l ≤ n → Firm l' n ys mid rest → Firm l' n' (xs ++ ys) ts rest
  unfolding on
  firm_on {n' = n'} a le b = record { reads = on a.reads le b; firm = firm_more n' a.reads.front b.reads.front a.firm }

  pub going_on : {l l' n n' : ℕ} {xs ys : Stack} {ts mid rest : List Token} → Going l n' xs ts mid → l ≤ n → n' ≤ n → Firm l' n ys mid rest → Firm l' n' (xs ++ ys) ts rest
  unfolding on
  going_on {n = n} {n' = n'} a le le' b = record { reads = on a.reads le b; firm = firm_after n' n a.reads.front b.reads.front le' a.above b.firm }

  -- what comes next may be there
  pub may_on : {l l' n : ℕ} {xs ys : Stack} {ts mid rest : List Token} → Reads l xs ts mid → l ≤ n → l ≤ l' → Going l' n ys mid rest → Reads l' (xs ++ ys) ts rest
  may_on {l} {l'} {n} {xs} {ys} {ts} {mid} {rest} a le le' b = w.seq m.table joins may l l' xs ys ts mid rest le' a b.reads (above_low l n b.reads.front le b.above)

  pub firm_may : {l l' n n' : ℕ} {xs ys : Stack} {ts mid rest : List Token} → Firm l n' xs ts mid → l ≤ n → l ≤ l' → Going l' n ys mid rest → Firm l' n' (xs ++ ys) ts rest
  unfolding may_on
  firm_may {n' = n'} a le le' b = record { reads = may_on a.reads le le' b; firm = firm_more n' a.reads.front b.reads.front a.firm }

  pub going_may : {l l' n n' : ℕ} {xs ys : Stack} {ts mid rest : List Token} → Going l n' xs ts mid → l ≤ n → l ≤ l' → n' ≤ n → Going l' n ys mid rest → Going l' n' (xs ++ ys) ts rest
  unfolding may_on
  going_may {n = n} {n' = n'} a le le' low b = record { reads = may_on a.reads le le' b; above = above_after n' n a.reads.front b.reads.front low a.above b.above }

  pub going : {l n n' : ℕ} {xs : Stack} {ts rest : List Token} → n' ≤ n → Firm l n xs ts rest → Going l n' xs ts rest
  going {n = n} {n' = n'} le a = record { reads = a.reads; above = above_firm n' n a.reads.front le a.firm }

  pub firm_low : {l n n' : ℕ} {xs : Stack} {ts rest : List Token} → n' ≤ n → Firm l n xs ts rest → Firm l n' xs ts rest
  firm_low {n = n} {n' = n'} le a = record { reads = a.reads; firm = firmly_low n' n a.reads.front le a.firm }

  pub wide : {l l' : ℕ} {xs : Stack} {ts rest : List Token} → l ≤ l' → Reads l xs ts rest → Reads l' xs ts rest
  wide {l} {l'} {xs} {ts} {rest} le r = w.wider m.table joins may l l' xs ts rest le r
