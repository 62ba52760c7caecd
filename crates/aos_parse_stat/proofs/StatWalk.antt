-- What the grammar of statements reads, the machine walks. How loosely a token joins what stands before it: up to 4 as in
-- expressions, 5 `..`, `BY` and `{`, 6 a comma, 8 a semicolon, 9 `ELSIF` and `|`, 10 `ELSE`, 11 `UNTIL` and `END`, 7 the rest.
use Rattle.std.proofs.Common.{◌≡◌, ℕ, ◌+◌, ◌≤◌, ◌<◌, ◌++◌, List, [], ◌∷◌, Bool, true, false, Option, Some, None, refl, sym, ap, ◌∙◌, subst, arith, lit<, append-nil}
use Rattle.std.specs.Prelude.{◌≢◌, nat_eq}
use Rattle.std.proofs.lemmas.Bool.{eq-eqb}
use Rattle.aos_scan.specs.declared.token.Token.{Token}
use Rattle.aos_scan.specs.declared.token.TokenKind.{TokenKind}
use Rattle.aos_scan.specs.declared.token.TokenKind.TheVariants as k
use Rattle.aos_tree.specs.declared.name.Qualident.{Qualident}
use Rattle.aos_tree.specs.declared.expr.Expr.{Expr}
use Rattle.aos_tree.specs.declared.expr.Desig.{Desig}
use Rattle.aos_tree.specs.declared.stat.StatSeq.{StatSeq}
use Rattle.aos_tree.specs.declared.stat.Stat.{Stat}
use Rattle.aos_tree.specs.declared.stat.Elsif.{Elsif}
use Rattle.aos_tree.specs.declared.stat.Case.{Case}
use Rattle.aos_tree.specs.declared.stat.Label.{Label}
use Rattle.aos_tree.specs.declared.stat.Block.{Block}
use Rattle.aos_tree.specs.declared.stat.Modifier.{Modifier}
use Rattle.aos_tree.specs.Nesting.{Rule}
use Rattle.aos_tree.specs.ExprGrammar as x
use Rattle.aos_tree.specs.ExprGrammar.{IsExpr, IsDesig}
use Rattle.aos_tree.specs.StatGrammar as g
use Rattle.aos_tree.specs.StatGrammar.{IsOption, IsLabel, IsLabels, IsMoreLabels, IsModifier, IsModifiers, IsMoreModifiers, IsStatSeq, IsMoreStats, IsStat, IsElsifs, IsElse, IsCase, IsMoreCases, IsBlock}
use Rattle.aos_tree.specs.Words as n
use Rattle.aos_tree.specs.Words.{IsQualident}
use Rattle.aos_parse_expr.specs.Machine.{Table}
use Rattle.aos_parse_expr.specs.Symbols as e
use Rattle.aos_parse_expr.proofs.ExprWalk as low
use Rattle.aos_parse_expr.proofs.Walk as w
use Rattle.aos_parse_expr.proofs.Walk.{AllLeft, Starts, starts_on}
use Rattle.aos_parse_expr.proofs.Words.{same_code}
use Rattle.aos_parse_stat.specs.Symbols as m
use Rattle.aos_parse_stat.specs.Symbols.{Sym, Stack}
use Rattle.aos_parse_stat.proofs.Embedding.{reads_up}
use Rattle.aos_parse_stat.proofs.StatProductions as by

abbrev pub joins : TokenKind → ℕ
joins k.OpenBrace = 5
joins k.KwBy = 5
joins k.Semicolon = 8
joins k.KwElsif = 9
joins k.Bar = 9
joins k.KwElse = 10
joins k.KwUntil = 11
joins k.KwEnd = 11
joins c = low.joins c

pub joins_at : {x c : TokenKind} (l : ℕ) → x ≡ c → l < joins c → l < joins x
joins_at l is h = subst (λ y. l < joins y) (sym is) h

-- what joins an expression more loosely here does so in the grammar of expressions
pub looser : (l : ℕ) (c : TokenKind) → l < 5 → l < joins c → l < low.joins c
looser l k.OpenBrace small h = omega arith
looser l k.KwBy small h = omega arith
looser l k.Semicolon small h = omega arith
looser l k.KwElsif small h = omega arith
looser l k.Bar small h = omega arith
looser l k.KwElse small h = omega arith
looser l k.KwUntil small h = omega arith
looser l k.KwEnd small h = omega arith
looser l _ small h = h

-- a tail does not take what joins more loosely
loose_option : (d l : ℕ) (want c : TokenKind) → joins want ≤ l → l < joins c → m.after_word_expr d want c ≡ None
loose_option d l want c le h = by.word_expr_not d want c (λ is. let a : joins c ≡ joins want = ap joins is in omega arith)

pub loose_start : (c : TokenKind) → 7 < joins c → e.starts_expr c ≡ false
loose_start k.Plus h = absurd (omega arith)
loose_start k.Minus h = absurd (omega arith)
loose_start k.Ident h = absurd (omega arith)
loose_start k.Number h = absurd (omega arith)
loose_start k.Char h = absurd (omega arith)
loose_start k.Text h = absurd (omega arith)
loose_start k.KwNil h = absurd (omega arith)
loose_start k.OpenBrace h = absurd (omega arith)
loose_start k.OpenParen h = absurd (omega arith)
loose_start k.Tilde h = absurd (omega arith)
loose_start _ h = refl

loose_second : (d : ℕ) (c : TokenKind) → 1 < joins c → m.after_second d c ≡ None
loose_second d k.Period h = absurd (omega arith)
loose_second d _ h = refl

loose_more_labels : (d : ℕ) (c : TokenKind) → 6 < joins c → m.after_more_labels d c ≡ None
loose_more_labels d k.Comma h = absurd (omega arith)
loose_more_labels d _ h = refl

loose_argument : (d : ℕ) (c : TokenKind) → 1 < joins c → m.after_argument d c ≡ None
loose_argument d k.OpenParen h = absurd (omega arith)
loose_argument d _ h = refl

loose_stat : (d : ℕ) (c : TokenKind) → 7 < joins c → m.after_stat d c ≡ None
loose_stat d k.Ident h = absurd (omega arith)
loose_stat d k.KwBegin h = absurd (omega arith)
loose_stat d k.KwExit h = absurd (omega arith)
loose_stat d k.KwReturn h = absurd (omega arith)
loose_stat d k.KwAwait h = absurd (omega arith)
loose_stat d k.KwIf h = absurd (omega arith)
loose_stat d k.KwCase h = absurd (omega arith)
loose_stat d k.KwWhile h = absurd (omega arith)
loose_stat d k.KwRepeat h = absurd (omega arith)
loose_stat d k.KwLoop h = absurd (omega arith)
loose_stat d k.KwFor h = absurd (omega arith)
loose_stat d k.KwWith h = absurd (omega arith)
loose_stat d _ h = refl

loose_more_stats : (d : ℕ) (c : TokenKind) → 8 < joins c → m.after_more_stats d c ≡ None
loose_more_stats d k.Semicolon h = absurd (omega arith)
loose_more_stats d _ h = refl

loose_elsifs : (d : ℕ) (c : TokenKind) → 9 < joins c → m.after_elsifs d c ≡ None
loose_elsifs d k.KwElsif h = absurd (omega arith)
loose_elsifs d _ h = refl

loose_otherwise : (d : ℕ) (c : TokenKind) → 10 < joins c → m.after_otherwise d c ≡ None
loose_otherwise d k.KwElse h = absurd (omega arith)
loose_otherwise d _ h = refl

loose_more_cases : (d : ℕ) (c : TokenKind) → 9 < joins c → m.after_more_cases d c ≡ None
loose_more_cases d k.Bar h = absurd (omega arith)
loose_more_cases d _ h = refl

-- a token of this kind
abbrev pub one_of : TokenKind → TokenKind → Bool
one_of want c = nat_eq (e.code want) (e.code c)

one_is : (want c : TokenKind) → one_of want c ≡ true → c ≡ want
one_is want c h = sym (same_code want c h)

is_one : (want c : TokenKind) → c ≡ want → one_of want c ≡ true
is_one want c is = eq-eqb _ _ (ap e.code (sym is))

above_on : (l : ℕ) (xs ys : List Token) → w.Above joins l xs → w.Above joins l ys → w.Above joins l (xs ++ ys)
above_on l [] ys a b = b
above_on l (t ∷ ts) ys a b = a

above_less : (l l' : ℕ) (xs : List Token) → l ≤ l' → w.Above joins l' xs → w.Above joins l xs
above_less l l' [] le a = tt
above_less l l' (t ∷ ts) le a = omega arith

above_one : (l : ℕ) (want : TokenKind) (xs : List Token) → l < joins want → Starts (one_of want) xs → w.Above joins l xs
above_one l want [] h s = tt
above_one l want (t ∷ ts) h s = joins_at l (one_is want t.kind s) h

-- any token but `{`
abbrev no_brace : TokenKind → Bool
no_brace k.OpenBrace = false
no_brace _ = true

brace_not : (c : TokenKind) → no_brace c ≡ true → c ≢ k.OpenBrace
brace_not c h is = let a : no_brace c ≡ false = ap no_brace is in cc

above_no_brace : (c : TokenKind) → 5 < joins c → no_brace c ≡ true
above_no_brace k.OpenBrace h = absurd (omega arith)
above_no_brace _ h = refl

unbraced : (xs ys : List Token) → w.Above joins 5 xs → Starts no_brace ys → Starts no_brace (xs ++ ys)
unbraced [] ys a h = h
unbraced (t ∷ ts) ys a h = above_no_brace t.kind a

-- what must come takes a token
no_front : {S : Type 0} (g : Table S) (y : S) (n : ℕ) (tails : List S) → y ∷ [] ≡ tails ++ [] → AllLeft g tails → g.needs y ≡ Some n → ⊥
no_front g y n [] at left need = absurd (cc)
no_front g y n (z ∷ zs) at left need =
    let a : y ≡ z = cc in
    let b : g.needs z ≡ Some n = subst (λ q. g.needs q ≡ Some n) a need in
    let c : Some n ≡ None = sym b ∙ left.0 in
    absurd (cc)

first_token : (starts : TokenKind → Bool) (ts front rest : List Token) → ts ≡ front ++ rest → (front ≡ [] → ⊥) → Starts starts ts → Starts starts front
first_token starts ts [] rest whole some h = absurd (some refl)
first_token starts [] (u ∷ us) rest whole some h = absurd h
first_token starts (t ∷ ts) (u ∷ us) rest whole some h = let a : t.kind ≡ u.kind = cc in sym (ap starts a) ∙ h

module _ (may : Rule) where
  abbrev pub Reads : ℕ → Stack → List Token → List Token → Type 0
  Reads l xs ts rest = w.Reads m.table joins may l xs ts rest

  -- a symbol that may go on
  abbrev pub Going : ℕ → ℕ → Sym → List Token → List Token → Type 0
  Going l j y ts rest = (r : w.Reads m.table joins may l (y ∷ []) ts rest) × w.Above joins j r.front

  -- symbols that begin by an expression
  abbrev pub Begun : ℕ → Stack → List Token → List Token → Type 0
  Begun l xs ts rest = (r : w.Reads m.table joins may l xs ts rest) × Starts e.starts_expr r.front

  begun_by : (starts : TokenKind → Bool) (l : ℕ) (y : Sym) (n : ℕ) (ts rest : List Token) → m.needs y ≡ Some n → (r : Reads l (y ∷ []) ts rest) → Starts starts ts → Starts starts r.front
  begun_by starts l y n ts rest need r h =
      first_token starts ts r.front rest r.whole (λ none. no_front m.table y n r.tails (subst (λ q. w.Walk m.table may q rest (y ∷ []) (r.tails ++ [])) none (r.walk [])) r.left need) h

  abbrev seq : {l l' : ℕ} {xs ys : Stack} {ts mid rest : List Token} → l ≤ l' → (a : Reads l xs ts mid) → (b : Reads l' ys mid rest) → w.Above joins l b.front → Reads l' (xs ++ ys) ts rest
  seq {l} {l'} {xs} {ys} {ts} {mid} {rest} le a b above = w.seq m.table joins may l l' xs ys ts mid rest le a b above

  abbrev takes : (l : ℕ) (y : Sym) (n : ℕ) (ys : Stack) {t : Token} {us rest : List Token} → m.after y t.kind ≡ Some (n, ys) → may n us ≡ true → Reads l ys us rest → Reads l (y ∷ []) (t ∷ us) rest
  takes l y n ys {t} {us} {rest} is fits r = w.takes m.table joins may l y n ys [] t us rest is fits (subst (λ q. w.Reads m.table joins may l q us rest) (sym (append-nil ys)) r)

  abbrev leaves : (l : ℕ) (y : Sym) → ((c : TokenKind) → l < joins c → m.after y c ≡ None) → m.needs y ≡ None → (rest : List Token) → Reads l (y ∷ []) rest rest
  leaves l y none free rest = w.leaves m.table joins may l y none free rest

  abbrev nil : (l : ℕ) (rest : List Token) → Reads l [] rest rest
  nil l rest = w.nil m.table joins may l rest

  abbrev wider : {l : ℕ} (l' : ℕ) {xs : Stack} {ts rest : List Token} → l ≤ l' → Reads l xs ts rest → Reads l' xs ts rest
  wider {l} l' {xs} {ts} {rest} le r = w.wider m.table joins may l l' xs ts rest le r

  -- a word, and then ys
  abbrev closing : (d : ℕ) (c : TokenKind) {l : ℕ} {ys : Stack} {t : Token} {us rest : List Token} → t.kind ≡ c → may d us ≡ true → Reads l ys us rest → Reads l (m.tok d c ∷ ys) (t ∷ us) rest
  closing d c {l} {ys} {t} {us} {rest} is fits r = w.takes m.table joins may l (m.tok d c) d [] ys t us rest (by.word_is d c t.kind is) fits r

  -- what comes before a word, the word, and then ys
  abbrev then_word : (d : ℕ) (c : TokenKind) {l l' : ℕ} {xs ys : Stack} {ts us rest : List Token} {t : Token} → l < joins c → Reads l xs ts (t ∷ us) → t.kind ≡ c → may d us ≡ true → (r : Reads l' ys us rest) → Reads l' (xs ++ m.tok d c ∷ ys) ts rest
  then_word d c {l} {l'} {xs} {ys} {ts} {us} {rest} {t} loose a is fits r =
      w.seq_on m.table joins may l l' xs (m.tok d c ∷ ys) ts t us r.front rest a (joins_at l is loose) (closing d c is fits r) refl

  -- a word and an expression, and then ys
  abbrev word_then : (d : ℕ) (c : TokenKind) {l : ℕ} {ys : Stack} {t : Token} {us mid rest : List Token} → t.kind ≡ c → may d us ≡ true → 4 ≤ l → Reads 4 (m.expr d ∷ []) us mid → (r : Reads l ys mid rest) → w.Above joins 4 r.front → Reads l (m.word_expr d c ∷ ys) (t ∷ us) rest
  word_then d c {l} {ys} {t} {us} {mid} {rest} is fits le a r above =
      w.takes m.table joins may l (m.word_expr d c) d (m.expr d ∷ []) ys t us rest (by.word_expr_is d c t.kind is) fits (seq le a r above)

  read_expr : {d : ℕ} {a : Expr} {ts rest : List Token} → IsExpr may d a ts rest → Begun 4 (m.expr d ∷ []) ts rest
  read_expr {d} {a} {ts} {rest} h =
      let r = low.read_expr may h in
      (reads_up e.table m.table m.part by.exprs_in low.joins joins may 4 4 (e.expr d ∷ []) ts rest (λ c loose. looser 4 c (omega arith) loose) r.0, r.1)

  read_desig : {d : ℕ} {a : Desig} {ts rest : List Token} → IsDesig may d a ts rest → Reads 1 (m.desig d ∷ []) ts rest
  read_desig {d} {a} {ts} {rest} h =
      reads_up e.table m.table m.part by.exprs_in low.joins joins may 1 1 (e.desig d ∷ []) ts rest (λ c loose. looser 1 c (omega arith) loose) (low.read_desig may h)

  read_option : {d : ℕ} {kind : TokenKind} {a : Option Expr} {ts rest : List Token} (l j : ℕ) → 4 ≤ l → joins kind ≤ l → j < joins kind → IsOption may d kind a ts rest → Going l j (m.option d kind) ts rest
  read_option {d} {kind} l j le top low' (g.no_option {ts = ts}) = (leaves l (m.option d kind) (λ c h. loose_option d l kind c top h) refl ts, tt)
  read_option {d} {kind} l j le top low' (g.option (n.word {t = t} is fits) a) =
      (takes l (m.option d kind) d (m.expr d ∷ []) (by.word_expr_is d kind t.kind is) fits (wider l le (read_expr a).0), joins_at j is low')

  read_label : {d : ℕ} {a : Label} {ts rest : List Token} → IsLabel may d a ts rest → Begun 5 (m.label d) ts rest
  read_label (g.label a last) =
      let r = read_expr a in
      let v = read_option 5 4 (omega arith) (omega arith) (omega arith) last in
      (seq (omega arith) r.0 v.0 v.1, starts_on e.starts_expr r.0.front v.0.front r.1)

  read_more_labels : {d : ℕ} {a : List Label} {ts rest : List Token} → IsMoreLabels may d a ts rest → Going 6 5 (m.more_labels d) ts rest
  read_more_labels {d} (g.no_more_labels {ts = ts}) = (leaves 6 (m.more_labels d) (loose_more_labels d) refl ts, tt)
  read_more_labels {d} (g.another_label (n.word is fits) a more) =
      let r = read_label a in
      let v = read_more_labels more in
      (takes 6 (m.more_labels d) d (m.labels d) (ap (m.after_more_labels d) is) fits (seq (omega arith) r.0 v.0 v.1), joins_at 5 is (lit< tt))

  read_labels : {d : ℕ} {a : List Label} {ts rest : List Token} → IsLabels may d a ts rest → Begun 6 (m.labels d) ts rest
  read_labels (g.labels a more) =
      let r = read_label a in
      let v = read_more_labels more in
      (seq (omega arith) r.0 v.0 v.1, starts_on e.starts_expr r.0.front v.0.front r.1)

  read_modifier : {d : ℕ} {a : Modifier} {ts rest : List Token} → IsModifier may d a ts rest → Reads 1 (m.modifier d) ts rest
  read_modifier {d} (g.flag (n.ident {ts = us} is fits)) = closing d k.Ident is fits (leaves 1 (m.argument d) (loose_argument d) refl us)
  read_modifier {d} (g.valued (n.ident is fits) (n.word start fit) a (n.word {ts = us} end last)) =
      closing d k.Ident is fits (takes 1 (m.argument d) d (m.expr d ∷ m.tok d k.CloseParen ∷ []) (ap (m.after_argument d) start) fit
      (then_word d k.CloseParen (lit< tt) (read_expr a).0 end last (nil 1 us)))

  read_more_modifiers : {d : ℕ} {a : List Modifier} {ts rest : List Token} → IsMoreModifiers may d a ts rest → (r : Reads 1 (m.more_modifiers d ∷ []) ts rest) × w.Above joins 1 r.front
  read_more_modifiers {d} (g.no_more_modifiers (n.word {ts = us} is fits)) = (takes 1 (m.more_modifiers d) d [] (ap (m.after_more_modifiers d) is) fits (nil 1 us), joins_at 1 is (lit< tt))
  read_more_modifiers {d} (g.another_modifier (n.word is fits) a more) =
      let v = read_more_modifiers more in
      (takes 1 (m.more_modifiers d) d (m.modifiers d) (ap (m.after_more_modifiers d) is) fits (seq (omega arith) (read_modifier a) v.0 v.1), joins_at 1 is (lit< tt))

  read_modifiers : {d : ℕ} {a : List Modifier} {ts rest : List Token} → IsModifiers may d a ts rest → Reads 1 (m.modifiers d) ts rest
  read_modifiers (g.modifiers a more) = let v = read_more_modifiers more in seq (omega arith) (read_modifier a) v.0 v.1

  read_qualident : {d : ℕ} {a : Qualident} {ts rest : List Token} → IsQualident may d a ts rest → Reads 1 (m.qualident d) ts rest
  read_qualident {d} (n.plain (n.ident {ts = us} is fits)) = closing d k.Ident is fits (leaves 1 (m.second d) (loose_second d) refl us)
  read_qualident {d} (n.qualified (n.ident is fits) (n.word dot fit) (n.ident {ts = us} end last)) =
      closing d k.Ident is fits (takes 1 (m.second d) d (m.tok d k.Ident ∷ []) (ap (m.after_second d) dot) fit (closing d k.Ident end last (nil 1 us)))

  block_starts : {d : ℕ} {a : Block} {ts rest : List Token} → IsBlock may d a ts rest → Starts (one_of k.KwBegin) ts
  block_starts (g.unmodified (n.word {t = t} is fits) body end) = is_one k.KwBegin t.kind is
  block_starts (g.modified (n.word {t = t} is fits) start all body end) = is_one k.KwBegin t.kind is

  -- a designator, and what may follow it
  read_named : {d : ℕ} {a : Desig} {value : Option Expr} {ts mid rest : List Token} → IsDesig may (d + 1) a ts mid → IsOption may (d + 1) k.Becomes value mid rest → Going 7 5 (m.stat d) ts rest
  read_named {d} {mid = mid} {rest = rest} (x.named {t = t} {ts = us} is fits more) value =
      let r : Reads 1 (m.desig (d + 1) ∷ []) (t ∷ us) mid = read_desig (x.named is fits more) in
      let v = read_option 7 1 (omega arith) (omega arith) (omega arith) value in
      let q = seq (omega arith) r v.0 v.1 in
      let h = starts_on (one_of k.Ident) r.front v.0.front (begun_by (one_of k.Ident) 1 (m.desig (d + 1)) (d + 1) (t ∷ us) _ refl r (is_one k.Ident t.kind is)) in (
        w.enter m.table joins may (one_of k.Ident) 7 (m.stat d ∷ []) (m.desig (d + 1) ∷ m.option (d + 1) k.Becomes ∷ []) (t ∷ us) rest (λ c j st. by.stat_ident d c (one_is k.Ident c st) j) q h,
        above_one 5 k.Ident q.front (lit< tt) h,
      )

  mutual
    read_stats : {d : ℕ} {a : StatSeq} {ts rest : List Token} → IsStatSeq may d a ts rest → (r : Reads 8 (m.stats d) ts rest) × w.Above joins 5 r.front
    read_stats (g.stats a more) =
        let r = read_stat a in
        let v = read_more_stats more in
        (seq (omega arith) r.0 v.0 v.1, above_on 5 r.0.front v.0.front r.1 (above_less 5 7 v.0.front (omega arith) v.1))

    read_more_stats : {d : ℕ} {a : List Stat} {ts rest : List Token} → IsMoreStats may d a ts rest → Going 8 7 (m.more_stats d) ts rest
    read_more_stats (g.no_more_stats {d = d} {ts = ts}) = (leaves 8 (m.more_stats d) (loose_more_stats d) refl ts, tt)
    read_more_stats (g.another_stat {d = d} (n.word is fits) a more) =
        let r = read_stat a in
        let v = read_more_stats more in
        (takes 8 (m.more_stats d) d (m.stats d) (ap (m.after_more_stats d) is) fits (seq (omega arith) r.0 v.0 v.1), joins_at 7 is (lit< tt))

    read_stat : {d : ℕ} {a : Stat} {ts rest : List Token} → IsStat may d a ts rest → Going 7 5 (m.stat d) ts rest
    read_stat (g.empty {d = d} {ts = ts}) = (leaves 7 (m.stat d) (loose_stat d) refl ts, tt)
    read_stat (g.assign a set value) = read_named a (g.option set value)
    read_stat (g.call a) = read_named a g.no_option
    read_stat (g.block {d = d} {ts = ts} {rest = rest} a) =
        let r : Reads 7 (m.block (d + 1) ∷ []) ts rest = wider 7 (omega arith) (read_block a) in
        let h = begun_by (one_of k.KwBegin) 7 (m.block (d + 1)) (d + 1) ts rest refl r (block_starts a) in (
          w.enter m.table joins may (one_of k.KwBegin) 7 (m.stat d ∷ []) (m.block (d + 1) ∷ []) ts rest (λ c j st. by.stat_block d c (one_is k.KwBegin c st) j) r h,
          above_one 5 k.KwBegin r.front (lit< tt) h,
        )
    read_stat (g.exit {d = d} (n.word {ts = us} is fits)) = (takes 7 (m.stat d) (d + 1) [] (ap (m.after_stat d) is) fits (nil 7 us), joins_at 5 is (lit< tt))
    read_stat (g.return {d = d} (n.word {ts = us} is fits)) =
        (takes 7 (m.stat d) (d + 1) (m.returned (d + 1) ∷ []) (ap (m.after_stat d) is) fits (leaves 7 (m.returned (d + 1)) (λ c h. by.no_returned (d + 1) c (loose_start c h)) refl us), joins_at 5 is (lit< tt))
    read_stat (g.return_of {d = d} {rest = rest} (n.word {ts = us} is fits) a) =
        let r = read_expr a in (
          takes 7 (m.stat d) (d + 1) (m.returned (d + 1) ∷ []) (ap (m.after_stat d) is) fits
              (w.enter m.table joins may e.starts_expr 7 (m.returned (d + 1) ∷ []) (m.expr (d + 1) ∷ []) us rest (λ c j st. by.returned_at (d + 1) c j st) (wider 7 (omega arith) r.0) r.1),
          joins_at 5 is (lit< tt),
        )
    read_stat (g.await {d = d} (n.word is fits) (n.word start fit) a (n.word {ts = us} end last)) = (
      takes 7 (m.stat d) (d + 1) (m.await_rest (d + 1)) (ap (m.after_stat d) is) fits
          (word_then (d + 1) k.OpenParen start fit (omega arith) (read_expr a).0 (closing (d + 1) k.CloseParen end last (nil 7 us)) (joins_at 4 end (lit< tt))),
      joins_at 5 is (lit< tt),
    )
    read_stat (g.if_then {d = d} (n.word is fits) a (n.word thn fit) body elsifs other (n.word {ts = us} end last)) =
        let b = then_word (d + 1) k.KwThen (lit< tt) (read_expr a).0 thn fit (read_stats body).0 in
        let s = read_elsifs elsifs in
        let o = read_else other in (
          takes 7 (m.stat d) (d + 1) (m.if_rest (d + 1)) (ap (m.after_stat d) is) fits
              (then_word (d + 1) k.KwEnd (lit< tt) (seq {l = 9} {l' = 10} (omega arith) (seq {l = 8} {l' = 9} (omega arith) b s.0 s.1) o.0 o.1) end last (nil 7 us)),
          joins_at 5 is (lit< tt),
        )
    read_stat (g.case {d = d} (n.word is fits) a (n.word of' fit) first more other (n.word {ts = us} end last)) =
        let b = then_word (d + 1) k.KwOf (lit< tt) (read_expr a).0 of' fit (read_case first) in
        let s = read_more_cases more in
        let o = read_else other in (
          takes 7 (m.stat d) (d + 1) (m.case_rest (d + 1)) (ap (m.after_stat d) is) fits
              (then_word (d + 1) k.KwEnd (lit< tt) (seq {l = 9} {l' = 10} (omega arith) (seq {l = 8} {l' = 9} (omega arith) b s.0 s.1) o.0 o.1) end last (nil 7 us)),
          joins_at 5 is (lit< tt),
        )
    read_stat (g.while {d = d} (n.word is fits) a (n.word do' fit) body (n.word {ts = us} end last)) = (
      takes 7 (m.stat d) (d + 1) (m.while_rest (d + 1)) (ap (m.after_stat d) is) fits
          (then_word (d + 1) k.KwDo (lit< tt) (read_expr a).0 do' fit (then_word (d + 1) k.KwEnd (lit< tt) (read_stats body).0 end last (nil 7 us))),
      joins_at 5 is (lit< tt),
    )
    read_stat (g.repeat {d = d} {rest = rest} (n.word is fits) body (n.word {t = t} {ts = us} till fit) a) =
        let q = word_then (d + 1) k.KwUntil till fit (omega arith) (read_expr a).0 (nil 7 rest) tt in (
          takes 7 (m.stat d) (d + 1) (m.repeat_rest (d + 1)) (ap (m.after_stat d) is) fits
              (w.seq_on m.table joins may 8 7 (m.stats (d + 1)) (m.word_expr (d + 1) k.KwUntil ∷ []) _ t us _ rest (read_stats body).0 (joins_at 8 till (lit< tt)) q refl),
          joins_at 5 is (lit< tt),
        )
    read_stat (g.loop {d = d} (n.word is fits) body (n.word {ts = us} end last)) =
        (takes 7 (m.stat d) (d + 1) (m.body_rest (d + 1)) (ap (m.after_stat d) is) fits (then_word (d + 1) k.KwEnd (lit< tt) (read_stats body).0 end last (nil 7 us)), joins_at 5 is (lit< tt))
    read_stat (g.for {d = d} (n.word is fits) (n.ident name at) (n.word set fit) from (n.word to' fit2) to by' (n.word {t = u} do' fit3) body (n.word {ts = us} end last)) =
        let o = read_option 5 4 (omega arith) (omega arith) (omega arith) by' in
        let b = then_word (d + 1) k.KwEnd (lit< tt) (read_stats body).0 end last (nil 7 us) in
        let q = then_word (d + 1) k.KwDo (lit< tt) o.0 do' fit3 b in
        let a = word_then (d + 1) k.KwTo to' fit2 (omega arith) (read_expr to).0 q (above_on 4 o.0.front (u ∷ b.front) o.1 (joins_at 4 do' (lit< tt))) in (
          takes 7 (m.stat d) (d + 1) (m.for_rest (d + 1)) (ap (m.after_stat d) is) fits
              (closing (d + 1) k.Ident name at (word_then (d + 1) k.Becomes set fit (omega arith) (read_expr from).0 a (joins_at 4 to' (lit< tt)))),
          joins_at 5 is (lit< tt),
        )
    read_stat (g.with {d = d} (n.word is fits) a (n.word colon fit) b (n.word do' fit2) body (n.word {ts = us} end last)) = (
      takes 7 (m.stat d) (d + 1) (m.with_rest (d + 1)) (ap (m.after_stat d) is) fits
          (then_word (d + 1) k.Colon (lit< tt) (read_qualident a) colon fit
          (then_word (d + 1) k.KwDo (lit< tt) (read_qualident b) do' fit2 (then_word (d + 1) k.KwEnd (lit< tt) (read_stats body).0 end last (nil 7 us)))),
      joins_at 5 is (lit< tt),
    )

    read_elsifs : {d : ℕ} {a : List Elsif} {ts rest : List Token} → IsElsifs may d a ts rest → Going 9 8 (m.elsifs d) ts rest
    read_elsifs (g.no_elsifs {d = d} {ts = ts}) = (leaves 9 (m.elsifs d) (loose_elsifs d) refl ts, tt)
    read_elsifs (g.elsif {d = d} (n.word is fits) a (n.word thn fit) body more) =
        let b = then_word d k.KwThen (lit< tt) (read_expr a).0 thn fit (read_stats body).0 in
        let v = read_elsifs more in
        (takes 9 (m.elsifs d) d (m.branch d ++ m.elsifs d ∷ []) (ap (m.after_elsifs d) is) fits (seq {l = 8} {l' = 9} (omega arith) b v.0 v.1), joins_at 8 is (lit< tt))

    read_else : {d : ℕ} {a : Option StatSeq} {ts rest : List Token} → IsElse may d a ts rest → Going 10 9 (m.otherwise d) ts rest
    read_else (g.no_else {d = d} {ts = ts}) = (leaves 10 (m.otherwise d) (loose_otherwise d) refl ts, tt)
    read_else (g.else {d = d} (n.word is fits) body) =
        (takes 10 (m.otherwise d) d (m.stats d) (ap (m.after_otherwise d) is) fits (wider 10 (omega arith) (read_stats body).0), joins_at 9 is (lit< tt))

    read_case : {d : ℕ} {a : Case} {ts rest : List Token} → IsCase may d a ts rest → Reads 8 (m.case d ∷ []) ts rest
    read_case (g.no_arm {d = d} {ts = ts}) = leaves 8 (m.case d) (λ c h. by.no_case d c (loose_start c (omega arith))) refl ts
    read_case (g.arm {d = d} {ts = ts} {rest = rest} all (n.word {t = t} colon fit) body) =
        let r = read_labels all in
        let b = read_stats body in
        w.enter m.table joins may e.starts_expr 8 (m.case d ∷ []) (m.labels d ++ m.tok d k.Colon ∷ m.stats d) ts rest (λ c j st. by.case_at d c j st)
        (then_word d k.Colon (lit< tt) r.0 colon fit b.0) (starts_on e.starts_expr r.0.front (t ∷ b.0.front) r.1)

    read_more_cases : {d : ℕ} {a : List Case} {ts rest : List Token} → IsMoreCases may d a ts rest → Going 9 8 (m.more_cases d) ts rest
    read_more_cases (g.no_more_cases {d = d} {ts = ts}) = (leaves 9 (m.more_cases d) (loose_more_cases d) refl ts, tt)
    read_more_cases (g.another_case {d = d} (n.word is fits) a more) =
        let v = read_more_cases more in
        (takes 9 (m.more_cases d) d (m.cases d) (ap (m.after_more_cases d) is) fits (seq {l = 8} {l' = 9} (omega arith) (read_case a) v.0 v.1), joins_at 8 is (lit< tt))

    pub read_block : {d : ℕ} {a : Block} {ts rest : List Token} → IsBlock may d a ts rest → Reads 1 (m.block d ∷ []) ts rest
    read_block (g.unmodified {d = d} {rest = rest} (n.word {ts = bs} is fits) body (n.word {t = t} {ts = us} end last)) =
        let b = read_stats body in
        takes 1 (m.block d) d (m.block_rest d) (ap (m.after_block d) is) fits
        (w.enter m.table joins may no_brace 1 (m.block_rest d) (m.body_rest d) bs rest (λ c j st. by.unmarked_at d c (m.body_rest d ++ j) (brace_not c st)) (then_word d k.KwEnd (lit< tt) b.0 end last (nil 1 us))
        (unbraced b.0.front (t ∷ []) b.1 (above_no_brace t.kind (joins_at 5 end (lit< tt)))))
    read_block (g.modified {d = d} {rest = rest} (n.word is fits) (n.word {t = o} {ts = ms} start fit) all body (n.word {t = t} {ts = us} end last)) =
        let b = read_stats body in
        let q = seq {l = 1} {l' = 1} (omega arith) (read_modifiers all) (then_word d k.KwEnd (lit< tt) b.0 end last (nil 1 us)) (above_on 1 b.0.front (t ∷ []) (above_less 1 5 b.0.front (omega arith) b.1) (joins_at 1 end (lit< tt))) in
        takes 1 (m.block d) d (m.block_rest d) (ap (m.after_block d) is) fits
        (w.takes m.table joins may 1 (m.marking d) d (m.modifiers d) (m.body_rest d) o ms rest (ap (m.after_marking d) start) fit q)
