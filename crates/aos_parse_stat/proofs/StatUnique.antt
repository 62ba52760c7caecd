-- Tokens have at most one tree: two trees that read the same tokens, each up to a token that joins more loosely, are equal
-- and end at one place.
use Rattle.std.proofs.Common.{◌≡◌, ℕ, ◌+◌, ◌≤◌, ◌<◌, List, [], ◌∷◌, false, Option, Some, None, refl, sym, ap, ◌∙◌, subst, arith, lit<}
use Rattle.aos_base.specs.declared.text.Pos.{Pos}
use Rattle.aos_scan.specs.declared.token.Token.{Token}
use Rattle.aos_scan.specs.declared.token.TokenKind.{TokenKind}
use Rattle.aos_scan.specs.declared.token.TokenKind.TheVariants as k
use Rattle.aos_tree.specs.declared.name.Name.{Name}
use Rattle.aos_tree.specs.declared.name.Qualident.{Qualident}
use Rattle.aos_tree.specs.declared.expr.Expr.{Expr}
use Rattle.aos_tree.specs.declared.expr.Desig.{Desig}
use Rattle.aos_tree.specs.declared.stat.StatSeq.{StatSeq}
use Rattle.aos_tree.specs.declared.stat.Stat.{Stat}
use Rattle.aos_tree.specs.declared.stat.Stat.TheVariants as s
use Rattle.aos_tree.specs.declared.stat.Elsif.{Elsif}
use Rattle.aos_tree.specs.declared.stat.Case.{Case}
use Rattle.aos_tree.specs.declared.stat.Label.{Label}
use Rattle.aos_tree.specs.declared.stat.Block.{Block}
use Rattle.aos_tree.specs.declared.stat.Modifier.{Modifier}
use Rattle.aos_tree.specs.Nesting.{Rule}
use Rattle.aos_tree.specs.ExprGrammar as x
use Rattle.aos_tree.specs.ExprGrammar.{IsExpr, IsDesig}
use Rattle.aos_tree.specs.StatGrammar as g
use Rattle.aos_tree.specs.StatGrammar.{IsOption, IsLabel, IsLabels, IsMoreLabels, IsModifier, IsModifiers, IsMoreModifiers, IsStatSeq, IsMoreStats, IsStat, IsElsifs, IsElse, IsCase, IsMoreCases, IsBlock}
use Rattle.aos_tree.specs.Words as words
use Rattle.aos_tree.specs.Words.{IsWord, IsName, IsQualident}
use Rattle.aos_parse_expr.specs.Symbols as e
use Rattle.aos_parse_expr.proofs.ExprWalk as low
use Rattle.aos_parse_expr.proofs.Unique as unique
use Rattle.aos_parse_expr.proofs.Walk.{Starts, starts_on}
use Rattle.aos_parse_stat.proofs.StatWalk.{joins, joins_at, looser, loose_start}

-- the next token joins more loosely than l
abbrev pub Loose : ℕ → List Token → Type 0
Loose l [] = ⊥
Loose l (t ∷ ts) = l < joins t.kind

less : (l j : ℕ) (ts : List Token) → j ≤ l → Loose l ts → Loose j ts
less l j [] le h = h
less l j (t ∷ ts) le h = omega arith

-- the same in the grammar of expressions
below : (l : ℕ) (ts : List Token) → l < 5 → Loose l ts → unique.Loose l ts
below l [] small h = h
below l (t ∷ ts) small h = looser l t.kind small h

-- the same value, and the same rest
abbrev pub Same : {A : Type 0} → A → A → List Token → List Token → Type 0
Same a b r s = (a ≡ b) × (r ≡ s)

-- a token that goes on can't stand where none goes on
not_here : (l : ℕ) (c : TokenKind) {t : Token} {rest ts : List Token} → Loose l rest → rest ≡ t ∷ ts → t.kind ≡ c → joins c ≤ l → ⊥
not_here l c {t} loose at is le = let h : l < joins t.kind = subst (λ z. Loose l z) at loose in let a : joins t.kind ≡ joins c = ap joins is in omega arith

-- nor one that begins an expression
no_start : (ts : List Token) → Starts e.starts_expr ts → Loose 7 ts → ⊥
no_start [] h loose = h
no_start (t ∷ ts) h loose = let a : e.starts_expr t.kind ≡ false = loose_start t.kind loose in absurd (cc)

module _ (may : Rule) where
  expr_begins : {d : ℕ} {a : Expr} {ts rest : List Token} → IsExpr may d a ts rest → Starts e.starts_expr ts
  expr_begins {rest = rest} h = let r = low.read_expr may h in subst (λ z. Starts e.starts_expr z) (sym r.0.whole) (starts_on e.starts_expr r.0.front rest r.1)

  word_loose : {d : ℕ} {c : TokenKind} {p : Pos} {ts r : List Token} (l : ℕ) → IsWord may d c p ts r → l < joins c → Loose l ts
  word_loose l (words.word is fits) h = joins_at l is h

  word_not : {d : ℕ} {c : TokenKind} {p : Pos} {ts us r : List Token} (l : ℕ) → Loose l us → us ≡ ts → IsWord may d c p ts r → joins c ≤ l → ⊥
  word_not {c = c} l loose at (words.word is fits) le = not_here l c loose at is le

  unique_word : {d : ℕ} {c : TokenKind} {p q : Pos} {ts ts' r r' : List Token} → IsWord may d c p ts r → IsWord may d c q ts' r' → ts ≡ ts' → Same p q r r'
  unique_word (words.word {t = t} is fits) (words.word {t = u} is' fits') at = let a : t ≡ u = cc in (ap (λ z. z.pos) a, cc)

  unique_name : {d : ℕ} {a b : Name} {ts ts' r r' : List Token} → IsName may d a ts r → IsName may d b ts' r' → ts ≡ ts' → Same a b r r'
  unique_name (words.ident is fits) (words.ident is' fits') at = (cc, cc)

  unique_qualident : {d : ℕ} {a b : Qualident} {ts ts' r r' : List Token} → IsQualident may d a ts r → IsQualident may d b ts' r' → ts ≡ ts' → Loose 1 r → Loose 1 r' → Same a b r r'
  unique_qualident (words.plain a) (words.plain b) at l l' = let p = unique_name a b at in (cc, p.1)
  unique_qualident (words.plain a) (words.qualified b dot f) at l l' = let p = unique_name a b at in absurd (word_not 1 l p.1 dot (omega arith))
  unique_qualident (words.qualified b dot f) (words.plain a) at l l' = let p = unique_name b a at in absurd (word_not 1 l' (sym p.1) dot (omega arith))
  unique_qualident (words.qualified a dot f) (words.qualified b dot' f') at l l' =
      let p = unique_name a b at in let q = unique_word dot dot' p.1 in let o = unique_name f f' q.1 in (cc, o.1)

  unique_expr : {d : ℕ} {a b : Expr} {ts ts' r r' : List Token} → IsExpr may d a ts r → IsExpr may d b ts' r' → ts ≡ ts' → Loose 4 r → Loose 4 r' → Same a b r r'
  unique_expr {r = r} {r' = r'} a b at l l' = unique.unique_expr may a b at (below 4 r (omega arith) l) (below 4 r' (omega arith) l')

  unique_desig : {d : ℕ} {a b : Desig} {ts ts' r r' : List Token} → IsDesig may d a ts r → IsDesig may d b ts' r' → ts ≡ ts' → Loose 1 r → Loose 1 r' → Same a b r r'
  unique_desig {r = r} {r' = r'} a b at l l' = unique.unique_desig may a b at (below 1 r (omega arith) l) (below 1 r' (omega arith) l')

  -- an expression up to a word
  expr_word : {d : ℕ} {c : TokenKind} {p q : Pos} {a b : Expr} {ts ts' m m' r r' : List Token} → 4 < joins c → IsExpr may d a ts m → IsWord may d c p m r → IsExpr may d b ts' m' → IsWord may d c q m' r' → ts ≡ ts' → Same a b r r'
  expr_word h a w b w' at =
      let o = unique_expr a b at (word_loose 4 w h) (word_loose 4 w' h) in let q = unique_word w w' o.1 in (o.0, q.1)

  front_option : {d : ℕ} {c : TokenKind} {a : Option Expr} {ts r : List Token} (l j : ℕ) → j ≤ l → j < joins c → IsOption may d c a ts r → Loose l r → Loose j ts
  front_option l j le h (g.no_option {ts = ts}) loose = less l j ts le loose
  front_option l j le h (g.option w a) loose = word_loose j w h

  unique_option : {d : ℕ} {c : TokenKind} {a b : Option Expr} {ts ts' r r' : List Token} (l : ℕ) → 4 ≤ l → joins c ≤ l → IsOption may d c a ts r → IsOption may d c b ts' r' → ts ≡ ts' → Loose l r → Loose l r' → Same a b r r'
  unique_option l big le g.no_option g.no_option at loose loose' = (refl, at)
  unique_option l big le g.no_option (g.option w a) at loose loose' = absurd (word_not l loose at w le)
  unique_option l big le (g.option w a) g.no_option at loose loose' = absurd (word_not l loose' (sym at) w le)
  unique_option l big le (g.option {rest = r} w a) (g.option {rest = r'} w' b) at loose loose' =
      let p = unique_word w w' at in let q = unique_expr a b p.1 (less l 4 r big loose) (less l 4 r' big loose') in (cc, q.1)

  unique_label : {d : ℕ} {a b : Label} {ts ts' r r' : List Token} → IsLabel may d a ts r → IsLabel may d b ts' r' → ts ≡ ts' → Loose 5 r → Loose 5 r' → Same a b r r'
  unique_label (g.label a f) (g.label b f') at l l' =
      let p = unique_expr a b at (front_option 5 4 (omega arith) (omega arith) f l) (front_option 5 4 (omega arith) (omega arith) f' l') in
      let q = unique_option 5 (omega arith) (omega arith) f f' p.1 l l' in (cc, q.1)

  front_more_labels : {d : ℕ} {a : List Label} {ts r : List Token} → IsMoreLabels may d a ts r → Loose 6 r → Loose 5 ts
  front_more_labels (g.no_more_labels {ts = ts}) l = less 6 5 ts (omega arith) l
  front_more_labels (g.another_label w a more) l = word_loose 5 w (lit< tt)

  unique_more_labels : {d : ℕ} {a b : List Label} {ts ts' r r' : List Token} → IsMoreLabels may d a ts r → IsMoreLabels may d b ts' r' → ts ≡ ts' → Loose 6 r → Loose 6 r' → Same a b r r'
  unique_more_labels g.no_more_labels g.no_more_labels at l l' = (refl, at)
  unique_more_labels g.no_more_labels (g.another_label w a more) at l l' = absurd (word_not 6 l at w (omega arith))
  unique_more_labels (g.another_label w a more) g.no_more_labels at l l' = absurd (word_not 6 l' (sym at) w (omega arith))
  unique_more_labels (g.another_label w a more) (g.another_label w' b more') at l l' =
      let o = unique_word w w' at in
      let p = unique_label a b o.1 (front_more_labels more l) (front_more_labels more' l') in
      let q = unique_more_labels more more' p.1 l l' in (cc, q.1)

  unique_labels : {d : ℕ} {a b : List Label} {ts ts' r r' : List Token} → IsLabels may d a ts r → IsLabels may d b ts' r' → ts ≡ ts' → Loose 6 r → Loose 6 r' → Same a b r r'
  unique_labels (g.labels a more) (g.labels b more') at l l' =
      let p = unique_label a b at (front_more_labels more l) (front_more_labels more' l') in
      let q = unique_more_labels more more' p.1 l l' in (cc, q.1)

  labels_begin : {d : ℕ} {a : List Label} {ts r : List Token} → IsLabels may d a ts r → Starts e.starts_expr ts
  labels_begin (g.labels (g.label a f) more) = expr_begins a

  unique_modifier : {d : ℕ} {a b : Modifier} {ts ts' r r' : List Token} → IsModifier may d a ts r → IsModifier may d b ts' r' → ts ≡ ts' → Loose 1 r → Loose 1 r' → Same a b r r'
  unique_modifier (g.flag a) (g.flag b) at l l' = let p = unique_name a b at in (cc, p.1)
  unique_modifier (g.flag a) (g.valued b w f end) at l l' = let p = unique_name a b at in absurd (word_not 1 l p.1 w (omega arith))
  unique_modifier (g.valued b w f end) (g.flag a) at l l' = let p = unique_name b a at in absurd (word_not 1 l' (sym p.1) w (omega arith))
  unique_modifier (g.valued a w f end) (g.valued b w' f' end') at l l' =
      let p = unique_name a b at in let q = unique_word w w' p.1 in let o = expr_word (lit< tt) f end f' end' q.1 in (cc, o.1)

  front_more_modifiers : {d : ℕ} {a : List Modifier} {ts r : List Token} → IsMoreModifiers may d a ts r → Loose 1 ts
  front_more_modifiers (g.no_more_modifiers w) = word_loose 1 w (lit< tt)
  front_more_modifiers (g.another_modifier w a more) = word_loose 1 w (lit< tt)

  two_words : {d : ℕ} {b c : TokenKind} {p q : Pos} {ts ts' r r' : List Token} → IsWord may d b p ts r → IsWord may d c q ts' r' → ts ≡ ts' → b ≡ c
  two_words (words.word {t = t} is fits) (words.word {t = u} is' fits') at = let a : t ≡ u = cc in sym is ∙ ap (λ z. z.kind) a ∙ is'

  unique_more_modifiers : {d : ℕ} {a b : List Modifier} {ts ts' r r' : List Token} → IsMoreModifiers may d a ts r → IsMoreModifiers may d b ts' r' → ts ≡ ts' → Same a b r r'
  unique_more_modifiers (g.no_more_modifiers w) (g.no_more_modifiers w') at = (refl, (unique_word w w' at).1)
  unique_more_modifiers (g.no_more_modifiers w) (g.another_modifier w' b more) at = let no = two_words w w' at in absurd (cc)
  unique_more_modifiers (g.another_modifier w' b more) (g.no_more_modifiers w) at = let no = two_words w' w at in absurd (cc)
  unique_more_modifiers (g.another_modifier w a more) (g.another_modifier w' b more') at =
      let o = unique_word w w' at in
      let p = unique_modifier a b o.1 (front_more_modifiers more) (front_more_modifiers more') in
      let q = unique_more_modifiers more more' p.1 in (cc, q.1)

  unique_modifiers : {d : ℕ} {a b : List Modifier} {ts ts' r r' : List Token} → IsModifiers may d a ts r → IsModifiers may d b ts' r' → ts ≡ ts' → Same a b r r'
  unique_modifiers (g.modifiers a more) (g.modifiers b more') at =
      let p = unique_modifier a b at (front_more_modifiers more) (front_more_modifiers more') in
      let q = unique_more_modifiers more more' p.1 in (cc, q.1)

  -- the same for any tree that reads the same tokens
  abbrev Again : {A : Type 0} → (A → List Token → List Token → Type 0) → ℕ → A → List Token → List Token → Type 0
  Again {A} reads l a ts rest = (b : A) (us vs : List Token) → reads b us vs → ts ≡ us → Loose l vs → Same a b rest vs

  -- a statement by the kind of its first token
  data Form (d : ℕ) : TokenKind → Stat → List Token → List Token → Type 0 where
    f_assign : {a : Desig} {p : Pos} {value : Expr} {ts mid from rest : List Token} → IsDesig may (d + 1) a ts mid → IsWord may (d + 1) k.Becomes p mid from → IsExpr may (d + 1) value from rest → Form d k.Ident (s.Assign a p value) ts rest
    f_call : {a : Desig} {ts rest : List Token} → IsDesig may (d + 1) a ts rest → Form d k.Ident (s.Call a) ts rest
    f_block : {a : Block} {ts rest : List Token} → IsBlock may (d + 1) a ts rest → Form d k.KwBegin (s.Block a) ts rest
    f_exit : {p : Pos} {ts rest : List Token} → IsWord may (d + 1) k.KwExit p ts rest → Form d k.KwExit (s.Exit p) ts rest
    f_return : {p : Pos} {ts rest : List Token} → IsWord may (d + 1) k.KwReturn p ts rest → Form d k.KwReturn (s.Return p None) ts rest
    f_return_of : {p : Pos} {a : Expr} {ts mid rest : List Token} → IsWord may (d + 1) k.KwReturn p ts mid → IsExpr may (d + 1) a mid rest → Form d k.KwReturn (s.Return p (Some a)) ts rest
    f_await : {p q r : Pos} {a : Expr} {ts from mid to rest : List Token} → IsWord may (d + 1) k.KwAwait p ts from → IsWord may (d + 1) k.OpenParen q from mid → IsExpr may (d + 1) a mid to → IsWord may (d + 1) k.CloseParen r to rest → Form d k.KwAwait (s.Await p a) ts rest
    f_if : {p q r : Pos} {a : Expr} {body : StatSeq} {elsifs : List Elsif} {other : Option StatSeq} {ts t1 t2 t3 t4 t5 t6 rest : List Token} →
        IsWord may (d + 1) k.KwIf p ts t1 → IsExpr may (d + 1) a t1 t2 → IsWord may (d + 1) k.KwThen q t2 t3 → IsStatSeq may (d + 1) body t3 t4 → IsElsifs may (d + 1) elsifs t4 t5 → IsElse may (d + 1) other t5 t6 → IsWord may (d + 1) k.KwEnd r t6 rest →
        Form d k.KwIf (s.If p a body elsifs other) ts rest
    f_case : {p q r : Pos} {a : Expr} {first : Case} {more : List Case} {other : Option StatSeq} {ts t1 t2 t3 t4 t5 t6 rest : List Token} →
        IsWord may (d + 1) k.KwCase p ts t1 → IsExpr may (d + 1) a t1 t2 → IsWord may (d + 1) k.KwOf q t2 t3 → IsCase may (d + 1) first t3 t4 → IsMoreCases may (d + 1) more t4 t5 → IsElse may (d + 1) other t5 t6 → IsWord may (d + 1) k.KwEnd r t6 rest →
        Form d k.KwCase (s.Case p a (first ∷ more) other) ts rest
    f_while : {p q r : Pos} {a : Expr} {body : StatSeq} {ts t1 t2 t3 t4 rest : List Token} →
        IsWord may (d + 1) k.KwWhile p ts t1 → IsExpr may (d + 1) a t1 t2 → IsWord may (d + 1) k.KwDo q t2 t3 → IsStatSeq may (d + 1) body t3 t4 → IsWord may (d + 1) k.KwEnd r t4 rest → Form d k.KwWhile (s.While p a body) ts rest
    f_repeat : {p q : Pos} {body : StatSeq} {a : Expr} {ts t1 t2 t3 rest : List Token} →
        IsWord may (d + 1) k.KwRepeat p ts t1 → IsStatSeq may (d + 1) body t1 t2 → IsWord may (d + 1) k.KwUntil q t2 t3 → IsExpr may (d + 1) a t3 rest → Form d k.KwRepeat (s.Repeat p body a) ts rest
    f_loop : {p q : Pos} {body : StatSeq} {ts t1 t2 rest : List Token} →
        IsWord may (d + 1) k.KwLoop p ts t1 → IsStatSeq may (d + 1) body t1 t2 → IsWord may (d + 1) k.KwEnd q t2 rest → Form d k.KwLoop (s.Loop p body) ts rest
    f_for : {p q r u v : Pos} {name : Name} {from to : Expr} {by : Option Expr} {body : StatSeq} {ts t1 t2 t3 t4 t5 t6 t7 t8 t9 rest : List Token} →
        IsWord may (d + 1) k.KwFor p ts t1 → IsName may (d + 1) name t1 t2 → IsWord may (d + 1) k.Becomes q t2 t3 → IsExpr may (d + 1) from t3 t4 → IsWord may (d + 1) k.KwTo r t4 t5 → IsExpr may (d + 1) to t5 t6 →
        IsOption may (d + 1) k.KwBy by t6 t7 → IsWord may (d + 1) k.KwDo u t7 t8 → IsStatSeq may (d + 1) body t8 t9 → IsWord may (d + 1) k.KwEnd v t9 rest → Form d k.KwFor (s.For p name q from to by body) ts rest
    f_with : {p q r u : Pos} {guarded of : Qualident} {body : StatSeq} {ts t1 t2 t3 t4 t5 t6 rest : List Token} →
        IsWord may (d + 1) k.KwWith p ts t1 → IsQualident may (d + 1) guarded t1 t2 → IsWord may (d + 1) k.Colon q t2 t3 → IsQualident may (d + 1) of t3 t4 → IsWord may (d + 1) k.KwDo r t4 t5 → IsStatSeq may (d + 1) body t5 t6 → IsWord may (d + 1) k.KwEnd u t6 rest →
        Form d k.KwWith (s.With p guarded q of body) ts rest

  by_word : {d : ℕ} {b : Stat} {c c' : TokenKind} {p : Pos} {t : Token} {us ts r rest : List Token} → IsWord may (d + 1) c p ts r → ts ≡ t ∷ us → t.kind ≡ c' → Form d c b ts rest → Form d c' b ts rest
  by_word {d} {b} {t = t} {ts = ts} {rest = rest} (words.word {t = u} is fits) at is' f = subst (λ z. Form d z b ts rest) (let q : u ≡ t = cc in sym is ∙ ap (λ z. z.kind) q ∙ is') f

  form_of : {d : ℕ} {b : Stat} {c : TokenKind} {t : Token} {us ts rest : List Token} → IsStat may d b ts rest → ts ≡ t ∷ us → t.kind ≡ c → joins c ≤ 7 → Loose 7 rest → Form d c b ts rest
  form_of {c = c} g.empty at is le loose = absurd (not_here 7 c loose at is le)
  form_of {d} {b} {t = t} {ts = ts} {rest = rest} (g.assign (x.named {t = u} h fits more) set value) at is le loose = subst (λ z. Form d z b ts rest) (let q : u ≡ t = cc in sym h ∙ ap (λ z. z.kind) q ∙ is) (f_assign (x.named h fits more) set value)
  form_of {d} {b} {t = t} {ts = ts} {rest = rest} (g.call (x.named {t = u} h fits more)) at is le loose = subst (λ z. Form d z b ts rest) (let q : u ≡ t = cc in sym h ∙ ap (λ z. z.kind) q ∙ is) (f_call (x.named h fits more))
  form_of (g.block (g.unmodified w body end)) at is le loose = by_word w at is (f_block (g.unmodified w body end))
  form_of (g.block (g.modified w start all body end)) at is le loose = by_word w at is (f_block (g.modified w start all body end))
  form_of (g.exit w) at is le loose = by_word w at is (f_exit w)
  form_of (g.return w) at is le loose = by_word w at is (f_return w)
  form_of (g.return_of w a) at is le loose = by_word w at is (f_return_of w a)
  form_of (g.await w start a end) at is le loose = by_word w at is (f_await w start a end)
  form_of (g.if_then w a thn body elsifs other end) at is le loose = by_word w at is (f_if w a thn body elsifs other end)
  form_of (g.case w a of' first more other end) at is le loose = by_word w at is (f_case w a of' first more other end)
  form_of (g.while w a do' body end) at is le loose = by_word w at is (f_while w a do' body end)
  form_of (g.repeat w body till a) at is le loose = by_word w at is (f_repeat w body till a)
  form_of (g.loop w body end) at is le loose = by_word w at is (f_loop w body end)
  form_of (g.for w name set a to b by' do' body end) at is le loose = by_word w at is (f_for w name set a to b by' do' body end)
  form_of (g.with w a colon b do' body end) at is le loose = by_word w at is (f_with w a colon b do' body end)

  -- the empty statement is alone where none goes on
  only_empty : {d : ℕ} {b : Stat} {us ts rest : List Token} → IsStat may d b ts rest → us ≡ ts → Loose 7 us → Same s.Empty b us rest
  only_empty g.empty at loose = (refl, at)
  only_empty (g.assign (x.named h fits more) set value) at loose = absurd (not_here 7 k.Ident loose at h (omega arith))
  only_empty (g.call (x.named h fits more)) at loose = absurd (not_here 7 k.Ident loose at h (omega arith))
  only_empty (g.block (g.unmodified w body end)) at loose = absurd (word_not 7 loose at w (omega arith))
  only_empty (g.block (g.modified w start all body end)) at loose = absurd (word_not 7 loose at w (omega arith))
  only_empty (g.exit w) at loose = absurd (word_not 7 loose at w (omega arith))
  only_empty (g.return w) at loose = absurd (word_not 7 loose at w (omega arith))
  only_empty (g.return_of w a) at loose = absurd (word_not 7 loose at w (omega arith))
  only_empty (g.await w start a end) at loose = absurd (word_not 7 loose at w (omega arith))
  only_empty (g.if_then w a thn body es other end) at loose = absurd (word_not 7 loose at w (omega arith))
  only_empty (g.case w a of' first more other end) at loose = absurd (word_not 7 loose at w (omega arith))
  only_empty (g.while w a do' body end) at loose = absurd (word_not 7 loose at w (omega arith))
  only_empty (g.repeat w body till a) at loose = absurd (word_not 7 loose at w (omega arith))
  only_empty (g.loop w body end) at loose = absurd (word_not 7 loose at w (omega arith))
  only_empty (g.for w name set a to b by' do' body end) at loose = absurd (word_not 7 loose at w (omega arith))
  only_empty (g.with w a colon b do' body end) at loose = absurd (word_not 7 loose at w (omega arith))

  -- what a part begins by, where it may be left out
  front_stat : {d : ℕ} {a : Stat} {ts r : List Token} → IsStat may d a ts r → Loose 7 r → Loose 5 ts
  front_stat (g.empty {ts = ts}) l = less 7 5 ts (omega arith) l
  front_stat (g.assign (x.named h fits more) set value) l = joins_at 5 h (lit< tt)
  front_stat (g.call (x.named h fits more)) l = joins_at 5 h (lit< tt)
  front_stat (g.block (g.unmodified w body end)) l = word_loose 5 w (lit< tt)
  front_stat (g.block (g.modified w start all body end)) l = word_loose 5 w (lit< tt)
  front_stat (g.exit w) l = word_loose 5 w (lit< tt)
  front_stat (g.return w) l = word_loose 5 w (lit< tt)
  front_stat (g.return_of w a) l = word_loose 5 w (lit< tt)
  front_stat (g.await w start a end) l = word_loose 5 w (lit< tt)
  front_stat (g.if_then w a thn body es other end) l = word_loose 5 w (lit< tt)
  front_stat (g.case w a of' first more other end) l = word_loose 5 w (lit< tt)
  front_stat (g.while w a do' body end) l = word_loose 5 w (lit< tt)
  front_stat (g.repeat w body till a) l = word_loose 5 w (lit< tt)
  front_stat (g.loop w body end) l = word_loose 5 w (lit< tt)
  front_stat (g.for w name set a to b by' do' body end) l = word_loose 5 w (lit< tt)
  front_stat (g.with w a colon b do' body end) l = word_loose 5 w (lit< tt)

  front_more_stats : {d : ℕ} {a : List Stat} {ts r : List Token} → IsMoreStats may d a ts r → Loose 8 r → Loose 7 ts
  front_more_stats (g.no_more_stats {ts = ts}) l = less 8 7 ts (omega arith) l
  front_more_stats (g.another_stat w a more) l = word_loose 7 w (lit< tt)

  front_stats : {d : ℕ} {a : StatSeq} {ts r : List Token} → IsStatSeq may d a ts r → Loose 8 r → Loose 5 ts
  front_stats (g.stats a more) l = front_stat a (front_more_stats more l)

  front_elsifs : {d : ℕ} {a : List Elsif} {ts r : List Token} → IsElsifs may d a ts r → Loose 9 r → Loose 8 ts
  front_elsifs (g.no_elsifs {ts = ts}) l = less 9 8 ts (omega arith) l
  front_elsifs (g.elsif w a thn body more) l = word_loose 8 w (lit< tt)

  front_else : {d : ℕ} {a : Option StatSeq} {ts r : List Token} → IsElse may d a ts r → Loose 10 r → Loose 9 ts
  front_else (g.no_else {ts = ts}) l = less 10 9 ts (omega arith) l
  front_else (g.else w body) l = word_loose 9 w (lit< tt)

  front_more_cases : {d : ℕ} {a : List Case} {ts r : List Token} → IsMoreCases may d a ts r → Loose 9 r → Loose 8 ts
  front_more_cases (g.no_more_cases {ts = ts}) l = less 9 8 ts (omega arith) l
  front_more_cases (g.another_case w a more) l = word_loose 8 w (lit< tt)

  -- two statements of one form
  same_assign : {d : ℕ} {a : Desig} {p : Pos} {value : Expr} {b : Stat} {ts mid from rest ts' r' : List Token} → IsDesig may (d + 1) a ts mid → IsWord may (d + 1) k.Becomes p mid from → IsExpr may (d + 1) value from rest → Form d k.Ident b ts' r' → ts ≡ ts' → Loose 7 rest → Loose 7 r' → Same (s.Assign a p value) b rest r'
  same_assign {rest = r} {r' = r'} a w v (f_assign a' w' v') at l l' =
      let p = unique_desig a a' at (word_loose 1 w (lit< tt)) (word_loose 1 w' (lit< tt)) in
      let o = unique_word w w' p.1 in
      let q = unique_expr v v' o.1 (less 7 4 r (omega arith) l) (less 7 4 r' (omega arith) l') in (cc, q.1)
  same_assign {r' = r'} a w v (f_call a') at l l' =
      let p = unique_desig a a' at (word_loose 1 w (lit< tt)) (less 7 1 r' (omega arith) l') in absurd (word_not 7 l' (sym p.1) w (omega arith))

  same_call : {d : ℕ} {a : Desig} {b : Stat} {ts rest ts' r' : List Token} → IsDesig may (d + 1) a ts rest → Form d k.Ident b ts' r' → ts ≡ ts' → Loose 7 rest → Loose 7 r' → Same (s.Call a) b rest r'
  same_call {rest = r} {r' = r'} a (f_call a') at l l' = let p = unique_desig a a' at (less 7 1 r (omega arith) l) (less 7 1 r' (omega arith) l') in (cc, p.1)
  same_call {rest = r} a (f_assign a' w' v') at l l' =
      let p = unique_desig a a' at (less 7 1 r (omega arith) l) (word_loose 1 w' (lit< tt)) in absurd (word_not 7 l p.1 w' (omega arith))

  same_exit : {d : ℕ} {p : Pos} {b : Stat} {ts rest ts' r' : List Token} → IsWord may (d + 1) k.KwExit p ts rest → Form d k.KwExit b ts' r' → ts ≡ ts' → Same (s.Exit p) b rest r'
  same_exit w (f_exit w') at = let o = unique_word w w' at in (cc, o.1)

  same_return : {d : ℕ} {p : Pos} {b : Stat} {ts rest ts' r' : List Token} → IsWord may (d + 1) k.KwReturn p ts rest → Form d k.KwReturn b ts' r' → ts ≡ ts' → Loose 7 rest → Same (s.Return p None) b rest r'
  same_return w (f_return w') at l = let o = unique_word w w' at in (cc, o.1)
  same_return w (f_return_of w' a) at l = let o = unique_word w w' at in absurd (no_start _ (expr_begins a) (subst (λ z. Loose 7 z) o.1 l))

  same_return_of : {d : ℕ} {p : Pos} {a : Expr} {b : Stat} {ts mid rest ts' r' : List Token} → IsWord may (d + 1) k.KwReturn p ts mid → IsExpr may (d + 1) a mid rest → Form d k.KwReturn b ts' r' → ts ≡ ts' → Loose 7 rest → Loose 7 r' → Same (s.Return p (Some a)) b rest r'
  same_return_of w a (f_return w') at l l' = let o = unique_word w w' at in absurd (no_start _ (expr_begins a) (subst (λ z. Loose 7 z) (sym o.1) l'))
  same_return_of {rest = r} {r' = r'} w a (f_return_of w' a') at l l' =
      let o = unique_word w w' at in let p = unique_expr a a' o.1 (less 7 4 r (omega arith) l) (less 7 4 r' (omega arith) l') in (cc, p.1)

  same_await : {d : ℕ} {p q r : Pos} {a : Expr} {b : Stat} {ts from mid to rest ts' r' : List Token} → IsWord may (d + 1) k.KwAwait p ts from → IsWord may (d + 1) k.OpenParen q from mid → IsExpr may (d + 1) a mid to → IsWord may (d + 1) k.CloseParen r to rest →
      Form d k.KwAwait b ts' r' → ts ≡ ts' → Same (s.Await p a) b rest r'
  same_await w start a end (f_await w' start' a' end') at =
      let o = unique_word w w' at in let p = unique_word start start' o.1 in let q = expr_word (lit< tt) a end a' end' p.1 in (cc, q.1)

  same_if : {d : ℕ} {p q r : Pos} {a : Expr} {body : StatSeq} {elsifs : List Elsif} {other : Option StatSeq} {b : Stat} {ts t1 t2 t3 t4 t5 t6 rest ts' r' : List Token} →
      IsWord may (d + 1) k.KwIf p ts t1 → IsExpr may (d + 1) a t1 t2 → IsWord may (d + 1) k.KwThen q t2 t3 → IsWord may (d + 1) k.KwEnd r t6 rest → Form d k.KwIf b ts' r' → ts ≡ ts' →
      Again (IsStatSeq may (d + 1)) 8 body t3 t4 → Again (IsElsifs may (d + 1)) 9 elsifs t4 t5 → Again (IsElse may (d + 1)) 10 other t5 t6 → Same (s.If p a body elsifs other) b rest r'
  same_if w a thn end (f_if w' a' thn' body' elsifs' other' end') at again again2 again3 =
      let o = unique_word w w' at in
      let p = expr_word (lit< tt) a thn a' thn' o.1 in
      let q = again _ _ _ body' p.1 (front_elsifs elsifs' (front_else other' (word_loose 10 end' (lit< tt)))) in
      let u = again2 _ _ _ elsifs' q.1 (front_else other' (word_loose 10 end' (lit< tt))) in
      let v = again3 _ _ _ other' u.1 (word_loose 10 end' (lit< tt)) in
      let z = unique_word end end' v.1 in (cc, z.1)

  same_case : {d : ℕ} {p q r : Pos} {a : Expr} {first : Case} {more : List Case} {other : Option StatSeq} {b : Stat} {ts t1 t2 t3 t4 t5 t6 rest ts' r' : List Token} →
      IsWord may (d + 1) k.KwCase p ts t1 → IsExpr may (d + 1) a t1 t2 → IsWord may (d + 1) k.KwOf q t2 t3 → IsWord may (d + 1) k.KwEnd r t6 rest → Form d k.KwCase b ts' r' → ts ≡ ts' →
      Again (IsCase may (d + 1)) 8 first t3 t4 → Again (IsMoreCases may (d + 1)) 9 more t4 t5 → Again (IsElse may (d + 1)) 10 other t5 t6 → Same (s.Case p a (first ∷ more) other) b rest r'
  same_case w a of' end (f_case w' a' of'' first' more' other' end') at again again2 again3 =
      let o = unique_word w w' at in
      let p = expr_word (lit< tt) a of' a' of'' o.1 in
      let q = again _ _ _ first' p.1 (front_more_cases more' (front_else other' (word_loose 10 end' (lit< tt)))) in
      let u = again2 _ _ _ more' q.1 (front_else other' (word_loose 10 end' (lit< tt))) in
      let v = again3 _ _ _ other' u.1 (word_loose 10 end' (lit< tt)) in
      let z = unique_word end end' v.1 in (cc, z.1)

  same_while : {d : ℕ} {p q r : Pos} {a : Expr} {body : StatSeq} {b : Stat} {ts t1 t2 t3 t4 rest ts' r' : List Token} →
      IsWord may (d + 1) k.KwWhile p ts t1 → IsExpr may (d + 1) a t1 t2 → IsWord may (d + 1) k.KwDo q t2 t3 → IsWord may (d + 1) k.KwEnd r t4 rest → Form d k.KwWhile b ts' r' → ts ≡ ts' → Again (IsStatSeq may (d + 1)) 8 body t3 t4 → Same (s.While p a body) b rest r'
  same_while w a do' end (f_while w' a' do'' body' end') at again =
      let o = unique_word w w' at in
      let p = expr_word (lit< tt) a do' a' do'' o.1 in
      let q = again _ _ _ body' p.1 (word_loose 8 end' (lit< tt)) in
      let z = unique_word end end' q.1 in (cc, z.1)

  same_repeat : {d : ℕ} {p q : Pos} {body : StatSeq} {a : Expr} {b : Stat} {ts t1 t2 t3 rest ts' r' : List Token} →
      IsWord may (d + 1) k.KwRepeat p ts t1 → IsWord may (d + 1) k.KwUntil q t2 t3 → IsExpr may (d + 1) a t3 rest → Form d k.KwRepeat b ts' r' → ts ≡ ts' → Again (IsStatSeq may (d + 1)) 8 body t1 t2 → Loose 7 rest → Loose 7 r' → Same (s.Repeat p body a) b rest r'
  same_repeat {rest = r} {r' = r'} w till a (f_repeat w' body' till' a') at again l l' =
      let o = unique_word w w' at in
      let q = again _ _ _ body' o.1 (word_loose 8 till' (lit< tt)) in
      let z = unique_word till till' q.1 in
      let v = unique_expr a a' z.1 (less 7 4 r (omega arith) l) (less 7 4 r' (omega arith) l') in (cc, v.1)

  same_loop : {d : ℕ} {p q : Pos} {body : StatSeq} {b : Stat} {ts t1 t2 rest ts' r' : List Token} →
      IsWord may (d + 1) k.KwLoop p ts t1 → IsWord may (d + 1) k.KwEnd q t2 rest → Form d k.KwLoop b ts' r' → ts ≡ ts' → Again (IsStatSeq may (d + 1)) 8 body t1 t2 → Same (s.Loop p body) b rest r'
  same_loop w end (f_loop w' body' end') at again =
      let o = unique_word w w' at in
      let q = again _ _ _ body' o.1 (word_loose 8 end' (lit< tt)) in
      let z = unique_word end end' q.1 in (cc, z.1)

  same_for : {d : ℕ} {p q r u v : Pos} {name : Name} {from to : Expr} {by : Option Expr} {body : StatSeq} {b : Stat} {ts t1 t2 t3 t4 t5 t6 t7 t8 t9 rest ts' r' : List Token} →
      IsWord may (d + 1) k.KwFor p ts t1 → IsName may (d + 1) name t1 t2 → IsWord may (d + 1) k.Becomes q t2 t3 → IsExpr may (d + 1) from t3 t4 → IsWord may (d + 1) k.KwTo r t4 t5 → IsExpr may (d + 1) to t5 t6 →
      IsOption may (d + 1) k.KwBy by t6 t7 → IsWord may (d + 1) k.KwDo u t7 t8 → IsWord may (d + 1) k.KwEnd v t9 rest → Form d k.KwFor b ts' r' → ts ≡ ts' → Again (IsStatSeq may (d + 1)) 8 body t8 t9 → Same (s.For p name q from to by body) b rest r'
  same_for w n set a to b step do' end (f_for w' n' set' a' to' b' step' do'' body' end') at again =
      let o = unique_word w w' at in
      let p = unique_name n n' o.1 in
      let q = unique_word set set' p.1 in
      let f = expr_word (lit< tt) a to a' to' q.1 in
      let l = word_loose 5 do' (lit< tt) in
      let l' = word_loose 5 do'' (lit< tt) in
      let c = unique_expr b b' f.1 (front_option 5 4 (omega arith) (omega arith) step l) (front_option 5 4 (omega arith) (omega arith) step' l') in
      let i = unique_option 5 (omega arith) (omega arith) step step' c.1 l l' in
      let u = unique_word do' do'' i.1 in
      let v = again _ _ _ body' u.1 (word_loose 8 end' (lit< tt)) in
      let z = unique_word end end' v.1 in (cc, z.1)

  same_with : {d : ℕ} {p q r u : Pos} {guarded of : Qualident} {body : StatSeq} {b : Stat} {ts t1 t2 t3 t4 t5 t6 rest ts' r' : List Token} →
      IsWord may (d + 1) k.KwWith p ts t1 → IsQualident may (d + 1) guarded t1 t2 → IsWord may (d + 1) k.Colon q t2 t3 → IsQualident may (d + 1) of t3 t4 → IsWord may (d + 1) k.KwDo r t4 t5 → IsWord may (d + 1) k.KwEnd u t6 rest →
      Form d k.KwWith b ts' r' → ts ≡ ts' → Again (IsStatSeq may (d + 1)) 8 body t5 t6 → Same (s.With p guarded q of body) b rest r'
  same_with w a colon b do' end (f_with w' a' colon' b' do'' body' end') at again =
      let o = unique_word w w' at in
      let p = unique_qualident a a' o.1 (word_loose 1 colon (lit< tt)) (word_loose 1 colon' (lit< tt)) in
      let q = unique_word colon colon' p.1 in
      let f = unique_qualident b b' q.1 (word_loose 1 do' (lit< tt)) (word_loose 1 do'' (lit< tt)) in
      let u = unique_word do' do'' f.1 in
      let v = again _ _ _ body' u.1 (word_loose 8 end' (lit< tt)) in
      let z = unique_word end end' v.1 in (cc, z.1)

  same_block : {d : ℕ} {a : Block} {b : Stat} {ts rest ts' r' : List Token} → Form d k.KwBegin b ts' r' → ts ≡ ts' → ((c : Block) (us vs : List Token) → IsBlock may (d + 1) c us vs → ts ≡ us → Same a c rest vs) → Same (s.Block a) b rest r'
  same_block (f_block b) at again = let p = again _ _ _ b at in (cc, p.1)

  mutual
    pub unique_stats : {d : ℕ} {a b : StatSeq} {ts ts' r r' : List Token} → IsStatSeq may d a ts r → IsStatSeq may d b ts' r' → ts ≡ ts' → Loose 8 r → Loose 8 r' → Same a b r r'
    unique_stats (g.stats a more) (g.stats b more') at l l' =
        let p = unique_stat a b at (front_more_stats more l) (front_more_stats more' l') in
        let q = unique_more_stats more more' p.1 l l' in (cc, q.1)

    unique_more_stats : {d : ℕ} {a b : List Stat} {ts ts' r r' : List Token} → IsMoreStats may d a ts r → IsMoreStats may d b ts' r' → ts ≡ ts' → Loose 8 r → Loose 8 r' → Same a b r r'
    unique_more_stats g.no_more_stats g.no_more_stats at l l' = (refl, at)
    unique_more_stats g.no_more_stats (g.another_stat w a more) at l l' = absurd (word_not 8 l at w (omega arith))
    unique_more_stats (g.another_stat w a more) g.no_more_stats at l l' = absurd (word_not 8 l' (sym at) w (omega arith))
    unique_more_stats (g.another_stat w a more) (g.another_stat w' b more') at l l' =
        let o = unique_word w w' at in
        let p = unique_stat a b o.1 (front_more_stats more l) (front_more_stats more' l') in
        let q = unique_more_stats more more' p.1 l l' in (cc, q.1)

    pub unique_stat : {d : ℕ} {a b : Stat} {ts ts' r r' : List Token} → IsStat may d a ts r → IsStat may d b ts' r' → ts ≡ ts' → Loose 7 r → Loose 7 r' → Same a b r r'
    unique_stat g.empty h at l l' = only_empty h at l
    unique_stat (g.assign (x.named is fits more) set value) h at l l' = same_assign (x.named is fits more) set value (form_of h (sym at) is (omega arith) l') at l l'
    unique_stat (g.call (x.named is fits more)) h at l l' = same_call (x.named is fits more) (form_of h (sym at) is (omega arith) l') at l l'
    unique_stat (g.block (g.unmodified (words.word is fits) body end)) h at l l' = same_block (form_of h (sym at) is (omega arith) l') at (λ c us vs q e. unique_block (g.unmodified (words.word is fits) body end) q e)
    unique_stat (g.block (g.modified (words.word is fits) start all body end)) h at l l' = same_block (form_of h (sym at) is (omega arith) l') at (λ c us vs q e. unique_block (g.modified (words.word is fits) start all body end) q e)
    unique_stat (g.exit (words.word is fits)) h at l l' = same_exit (words.word is fits) (form_of h (sym at) is (omega arith) l') at
    unique_stat (g.return (words.word is fits)) h at l l' = same_return (words.word is fits) (form_of h (sym at) is (omega arith) l') at l
    unique_stat (g.return_of (words.word is fits) a) h at l l' = same_return_of (words.word is fits) a (form_of h (sym at) is (omega arith) l') at l l'
    unique_stat (g.await (words.word is fits) start a end) h at l l' = same_await (words.word is fits) start a end (form_of h (sym at) is (omega arith) l') at
    unique_stat (g.if_then (words.word is fits) a thn body elsifs other end) h at l l' =
        same_if (words.word is fits) a thn end (form_of h (sym at) is (omega arith) l') at
        (λ b us vs q e v. unique_stats body q e (front_elsifs elsifs (front_else other (word_loose 10 end (lit< tt)))) v)
        (λ b us vs q e v. unique_elsifs elsifs q e (front_else other (word_loose 10 end (lit< tt))) v)
        (λ b us vs q e v. unique_else other q e (word_loose 10 end (lit< tt)) v)
    unique_stat (g.case (words.word is fits) a of' first more other end) h at l l' =
        same_case (words.word is fits) a of' end (form_of h (sym at) is (omega arith) l') at
        (λ b us vs q e v. unique_case first q e (front_more_cases more (front_else other (word_loose 10 end (lit< tt)))) v)
        (λ b us vs q e v. unique_more_cases more q e (front_else other (word_loose 10 end (lit< tt))) v)
        (λ b us vs q e v. unique_else other q e (word_loose 10 end (lit< tt)) v)
    unique_stat (g.while (words.word is fits) a do' body end) h at l l' =
        same_while (words.word is fits) a do' end (form_of h (sym at) is (omega arith) l') at (λ b us vs q e v. unique_stats body q e (word_loose 8 end (lit< tt)) v)
    unique_stat (g.repeat (words.word is fits) body till a) h at l l' =
        same_repeat (words.word is fits) till a (form_of h (sym at) is (omega arith) l') at (λ b us vs q e v. unique_stats body q e (word_loose 8 till (lit< tt)) v) l l'
    unique_stat (g.loop (words.word is fits) body end) h at l l' =
        same_loop (words.word is fits) end (form_of h (sym at) is (omega arith) l') at (λ b us vs q e v. unique_stats body q e (word_loose 8 end (lit< tt)) v)
    unique_stat (g.for (words.word is fits) n set a to b step do' body end) h at l l' =
        same_for (words.word is fits) n set a to b step do' end (form_of h (sym at) is (omega arith) l') at (λ c us vs q e v. unique_stats body q e (word_loose 8 end (lit< tt)) v)
    unique_stat (g.with (words.word is fits) a colon b do' body end) h at l l' =
        same_with (words.word is fits) a colon b do' end (form_of h (sym at) is (omega arith) l') at (λ c us vs q e v. unique_stats body q e (word_loose 8 end (lit< tt)) v)

    unique_elsifs : {d : ℕ} {a b : List Elsif} {ts ts' r r' : List Token} → IsElsifs may d a ts r → IsElsifs may d b ts' r' → ts ≡ ts' → Loose 9 r → Loose 9 r' → Same a b r r'
    unique_elsifs g.no_elsifs g.no_elsifs at l l' = (refl, at)
    unique_elsifs g.no_elsifs (g.elsif w a thn body more) at l l' = absurd (word_not 9 l at w (omega arith))
    unique_elsifs (g.elsif w a thn body more) g.no_elsifs at l l' = absurd (word_not 9 l' (sym at) w (omega arith))
    unique_elsifs (g.elsif w a thn body more) (g.elsif w' a' thn' body' more') at l l' =
        let o = unique_word w w' at in
        let p = expr_word (lit< tt) a thn a' thn' o.1 in
        let q = unique_stats body body' p.1 (front_elsifs more l) (front_elsifs more' l') in
        let u = unique_elsifs more more' q.1 l l' in (cc, u.1)

    unique_else : {d : ℕ} {a b : Option StatSeq} {ts ts' r r' : List Token} → IsElse may d a ts r → IsElse may d b ts' r' → ts ≡ ts' → Loose 10 r → Loose 10 r' → Same a b r r'
    unique_else g.no_else g.no_else at l l' = (refl, at)
    unique_else g.no_else (g.else w body) at l l' = absurd (word_not 10 l at w (omega arith))
    unique_else (g.else w body) g.no_else at l l' = absurd (word_not 10 l' (sym at) w (omega arith))
    unique_else (g.else {rest = r} w body) (g.else {rest = r'} w' body') at l l' =
        let o = unique_word w w' at in
        let q = unique_stats body body' o.1 (less 10 8 r (omega arith) l) (less 10 8 r' (omega arith) l') in (cc, q.1)

    unique_case : {d : ℕ} {a b : Case} {ts ts' r r' : List Token} → IsCase may d a ts r → IsCase may d b ts' r' → ts ≡ ts' → Loose 8 r → Loose 8 r' → Same a b r r'
    unique_case g.no_arm g.no_arm at l l' = (refl, at)
    unique_case (g.no_arm {ts = ts}) (g.arm all colon body) at l l' = absurd (no_start _ (labels_begin all) (subst (λ z. Loose 7 z) at (less 8 7 ts (omega arith) l)))
    unique_case (g.arm all colon body) (g.no_arm {ts = ts}) at l l' = absurd (no_start _ (labels_begin all) (subst (λ z. Loose 7 z) (sym at) (less 8 7 ts (omega arith) l')))
    unique_case (g.arm all colon body) (g.arm all' colon' body') at l l' =
        let o = unique_labels all all' at (word_loose 6 colon (lit< tt)) (word_loose 6 colon' (lit< tt)) in
        let p = unique_word colon colon' o.1 in
        let q = unique_stats body body' p.1 l l' in (cc, q.1)

    unique_more_cases : {d : ℕ} {a b : List Case} {ts ts' r r' : List Token} → IsMoreCases may d a ts r → IsMoreCases may d b ts' r' → ts ≡ ts' → Loose 9 r → Loose 9 r' → Same a b r r'
    unique_more_cases g.no_more_cases g.no_more_cases at l l' = (refl, at)
    unique_more_cases g.no_more_cases (g.another_case w a more) at l l' = absurd (word_not 9 l at w (omega arith))
    unique_more_cases (g.another_case w a more) g.no_more_cases at l l' = absurd (word_not 9 l' (sym at) w (omega arith))
    unique_more_cases (g.another_case w a more) (g.another_case w' b more') at l l' =
        let o = unique_word w w' at in
        let p = unique_case a b o.1 (front_more_cases more l) (front_more_cases more' l') in
        let q = unique_more_cases more more' p.1 l l' in (cc, q.1)

    pub unique_block : {d : ℕ} {a b : Block} {ts ts' r r' : List Token} → IsBlock may d a ts r → IsBlock may d b ts' r' → ts ≡ ts' → Same a b r r'
    unique_block (g.unmodified w body end) (g.unmodified w' body' end') at =
        let o = unique_word w w' at in
        let p = unique_stats body body' o.1 (word_loose 8 end (lit< tt)) (word_loose 8 end' (lit< tt)) in
        let q = unique_word end end' p.1 in (cc, q.1)
    unique_block (g.unmodified w body end) (g.modified w' start all body' end') at =
        let o = unique_word w w' at in absurd (word_not 5 (front_stats body (word_loose 8 end (lit< tt))) o.1 start (omega arith))
    unique_block (g.modified w start all body end) (g.unmodified w' body' end') at =
        let o = unique_word w w' at in absurd (word_not 5 (front_stats body' (word_loose 8 end' (lit< tt))) (sym o.1) start (omega arith))
    unique_block (g.modified w start all body end) (g.modified w' start' all' body' end') at =
        let o = unique_word w w' at in
        let i = unique_word start start' o.1 in
        let m = unique_modifiers all all' i.1 in
        let p = unique_stats body body' m.1 (word_loose 8 end (lit< tt)) (word_loose 8 end' (lit< tt)) in
        let q = unique_word end end' p.1 in (cc, q.1)
