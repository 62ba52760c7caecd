-- What the grammar of expressions reads, the machine walks. How loosely a token joins what stands before it: 1 a selector,
-- 2 a product, 3 an addition, 4 a relation, 5 `..`, 6 a comma, 7 the rest.
use Rattle.std.proofs.Common.{◌≡◌, ℕ, ◌+◌, ◌≤◌, ◌<◌, ◌++◌, List, [], ◌∷◌, true, Option, Some, None, refl, sym, ap, subst, arith, lit<}
use Rattle.aos_scan.specs.declared.token.Token.{Token}
use Rattle.aos_scan.specs.declared.token.TokenKind.{TokenKind}
use Rattle.aos_scan.specs.declared.token.TokenKind.TheVariants as k
use Rattle.aos_tree.specs.declared.expr.RelationOp.{RelationOp}
use Rattle.aos_tree.specs.declared.expr.AddOp.{AddOp}
use Rattle.aos_tree.specs.declared.expr.MulOp.{MulOp}
use Rattle.aos_tree.specs.declared.expr.Sign.{Sign}
use Rattle.aos_tree.specs.declared.expr.Expr.{Expr}
use Rattle.aos_tree.specs.declared.expr.Simple.{Simple}
use Rattle.aos_tree.specs.declared.expr.Addition.{Addition}
use Rattle.aos_tree.specs.declared.expr.Term.{Term}
use Rattle.aos_tree.specs.declared.expr.Product.{Product}
use Rattle.aos_tree.specs.declared.expr.Factor.{Factor}
use Rattle.aos_tree.specs.declared.expr.Elem.{Elem}
use Rattle.aos_tree.specs.declared.expr.Desig.{Desig}
use Rattle.aos_tree.specs.declared.expr.Selector.{Selector}
use Rattle.aos_tree.specs.Nesting.{Rule}
use Rattle.aos_tree.specs.Operators.{relation_of, addition_of, product_of, sign_of}
use Rattle.aos_tree.specs.ExprGrammar as g
use Rattle.aos_tree.specs.ExprGrammar.{IsExpr, IsSimple, IsAdditions, IsTerm, IsProducts, IsFactor, IsMembers, IsElems, IsMoreElems, IsElem, IsDesig, IsSelectors, IsSelector, IsArguments, IsExprs, IsMoreExprs}
use Rattle.aos_parse_expr.specs.Symbols as m
use Rattle.aos_parse_expr.specs.Symbols.{Sym, Stack}
use Rattle.aos_parse_expr.proofs.Productions as by
use Rattle.aos_parse_expr.proofs.Words.{tok_is}
use Rattle.aos_parse_expr.proofs.Walk as w
use Rattle.aos_parse_expr.proofs.Walk.{starts_on}

abbrev pub joins : TokenKind → ℕ
joins k.Period = 1
joins k.OpenBracket = 1
joins k.Caret = 1
joins k.OpenParen = 1
joins k.Star = 2
joins k.Slash = 2
joins k.KwDiv = 2
joins k.KwMod = 2
joins k.Ampersand = 2
joins k.Plus = 3
joins k.Minus = 3
joins k.KwOr = 3
joins k.Equals = 4
joins k.NotEquals = 4
joins k.Less = 4
joins k.LessEqual = 4
joins k.Greater = 4
joins k.GreaterEqual = 4
joins k.KwIn = 4
joins k.KwIs = 4
joins k.Range = 5
joins k.Comma = 6
joins _ = 7

pub joins_at : {x c : TokenKind} (n : ℕ) → x ≡ c → n < joins c → n < joins x
joins_at n is h = subst (λ y. n < joins y) (sym is) h

-- an operator joins as loosely as its kind
pub product_joins : (c : TokenKind) (op : MulOp) → product_of c ≡ Some op → joins c ≡ 2
product_joins k.Star op h = refl
product_joins k.Slash op h = refl
product_joins k.KwDiv op h = refl
product_joins k.KwMod op h = refl
product_joins k.Ampersand op h = refl
product_joins _ op h = absurd (cc)

pub addition_joins : (c : TokenKind) (op : AddOp) → addition_of c ≡ Some op → joins c ≡ 3
addition_joins k.Plus op h = refl
addition_joins k.Minus op h = refl
addition_joins k.KwOr op h = refl
addition_joins _ op h = absurd (cc)

pub relation_joins : (c : TokenKind) (op : RelationOp) → relation_of c ≡ Some op → joins c ≡ 4
relation_joins k.Equals op h = refl
relation_joins k.NotEquals op h = refl
relation_joins k.Less op h = refl
relation_joins k.LessEqual op h = refl
relation_joins k.Greater op h = refl
relation_joins k.GreaterEqual op h = refl
relation_joins k.KwIn op h = refl
relation_joins k.KwIs op h = refl
relation_joins _ op h = absurd (cc)

-- a tail does not take what joins more loosely
loose_selectors : (d : ℕ) (c : TokenKind) → 1 < joins c → m.after_selectors d c ≡ None
loose_selectors d k.Period h = absurd (omega arith)
loose_selectors d k.OpenBracket h = absurd (omega arith)
loose_selectors d k.Caret h = absurd (omega arith)
loose_selectors d k.OpenParen h = absurd (omega arith)
loose_selectors d _ h = refl

none_by : {A : Type 0} (q : Option A) → ((a : A) → q ≡ Some a → ⊥) → q ≡ None
none_by None h = refl
none_by (Some a) h = absurd (h a refl)

loose_products : (d : ℕ) (c : TokenKind) → 2 < joins c → m.after_products d c ≡ None
loose_products d c h = by.no_operator d (m.factor d ∷ m.products d ∷ []) (none_by (product_of c) (λ op is. let a = product_joins c op is in omega arith))

loose_additions : (d : ℕ) (c : TokenKind) → 3 < joins c → m.after_additions d c ≡ None
loose_additions d c h = by.no_operator d (m.term d ∷ m.additions d ∷ []) (none_by (addition_of c) (λ op is. let a = addition_joins c op is in omega arith))

loose_relation : (d : ℕ) (c : TokenKind) → 4 < joins c → m.after_relation d c ≡ None
loose_relation d c h = by.no_operator d (m.simple d ∷ []) (none_by (relation_of c) (λ op is. let a = relation_joins c op is in omega arith))

loose_upper : (d : ℕ) (c : TokenKind) → 5 < joins c → m.after_upper d c ≡ None
loose_upper d k.Range h = absurd (omega arith)
loose_upper d _ h = refl

loose_more_elems : (d : ℕ) (c : TokenKind) → 6 < joins c → m.after_more_elems d c ≡ None
loose_more_elems d k.Comma h = absurd (omega arith)
loose_more_elems d _ h = refl

loose_more_exprs : (d : ℕ) (c : TokenKind) → 6 < joins c → m.after_more_exprs d c ≡ None
loose_more_exprs d k.Comma h = absurd (omega arith)
loose_more_exprs d _ h = refl

pub factor_starts_expr : (c : TokenKind) → m.starts_factor c ≡ true → m.starts_expr c ≡ true
factor_starts_expr k.Plus h = absurd (cc)
factor_starts_expr k.Minus h = absurd (cc)
factor_starts_expr _ h = h

sign_starts : (c : TokenKind) (s : Sign) → sign_of c ≡ Some s → m.starts_expr c ≡ true
sign_starts k.Plus s h = refl
sign_starts k.Minus s h = refl
sign_starts _ s h = absurd (cc)

abbrev pub StartsFactor : List Token → Type 0
StartsFactor ts = w.Starts m.starts_factor ts

abbrev pub StartsExpr : List Token → Type 0
StartsExpr ts = w.Starts m.starts_expr ts

pub starts_either : (ts : List Token) → StartsFactor ts → StartsExpr ts
starts_either [] h = h
starts_either (t ∷ ts) h = factor_starts_expr t.kind h

module _ (may : Rule) where
  abbrev pub Reads : ℕ → Stack → List Token → List Token → Type 0
  Reads l xs ts rest = w.Reads m.table joins may l xs ts rest

  -- a symbol that must come, and one that may go on
  abbrev pub Begun : ℕ → Sym → List Token → List Token → Type 0
  Begun l x ts rest = (r : w.Reads m.table joins may l (x ∷ []) ts rest) × StartsExpr r.front

  abbrev pub Factored : ℕ → Sym → List Token → List Token → Type 0
  Factored l x ts rest = (r : w.Reads m.table joins may l (x ∷ []) ts rest) × StartsFactor r.front

  abbrev pub Going : ℕ → ℕ → Sym → List Token → List Token → Type 0
  Going l j x ts rest = (r : w.Reads m.table joins may l (x ∷ []) ts rest) × w.Above joins j r.front

  abbrev seq : (l l' : ℕ) (xs ys : Stack) (ts mid rest : List Token) → l ≤ l' → (a : Reads l xs ts mid) → (b : Reads l' ys mid rest) → w.Above joins l b.front → Reads l' (xs ++ ys) ts rest
  seq l l' xs ys ts mid rest le a b above = w.seq m.table joins may l l' xs ys ts mid rest le a b above

  abbrev takes : (l : ℕ) (x : Sym) (n : ℕ) (ys zs : Stack) (t : Token) (us rest : List Token) → m.after x t.kind ≡ Some (n, ys) → may n us ≡ true → Reads l (ys ++ zs) us rest → Reads l (x ∷ zs) (t ∷ us) rest
  takes l x n ys zs t us rest is fits r = w.takes m.table joins may l x n ys zs t us rest is fits r

  abbrev leaves : (l : ℕ) (y : Sym) → ((c : TokenKind) → l < joins c → m.after y c ≡ None) → m.needs y ≡ None → (rest : List Token) → Reads l (y ∷ []) rest rest
  leaves l y none free rest = w.leaves m.table joins may l y none free rest

  abbrev enter : (l : ℕ) (xs ys : Stack) (ts rest : List Token) → ((c : TokenKind) (j : Stack) → m.starts_expr c ≡ true → by.step (xs ++ j) c ≡ by.step (ys ++ j) c) → (r : Reads l ys ts rest) → StartsExpr r.front → Reads l xs ts rest
  enter l xs ys ts rest same r begun = w.enter m.table joins may m.starts_expr l xs ys ts rest same r begun

  abbrev wider : (l l' : ℕ) (xs : Stack) (ts rest : List Token) → l ≤ l' → Reads l xs ts rest → Reads l' xs ts rest
  wider l l' xs ts rest le r = w.wider m.table joins may l l' xs ts rest le r

  -- a token of a kind, and then ys
  abbrev closing : (l : ℕ) (t : Token) (us rest : List Token) (d : ℕ) (c : TokenKind) (ys : Stack) → t.kind ≡ c → may d us ≡ true → Reads l ys us rest → Reads l (m.tok d c ∷ ys) (t ∷ us) rest
  closing l t us rest d c ys is fits r = w.takes m.table joins may l (m.tok d c) d [] ys t us rest (tok_is d c t.kind is) fits r

  abbrev closed : (l : ℕ) (t : Token) (rest : List Token) (d : ℕ) (c : TokenKind) → t.kind ≡ c → may d rest ≡ true → Reads l (m.tok d c ∷ []) (t ∷ rest) rest
  closed l t rest d c is fits = closing l t rest rest d c [] is fits (w.nil m.table joins may l rest)

  mutual
    pub read_expr : {d : ℕ} {a : Expr} {ts rest : List Token} → IsExpr may d a ts rest → Begun 4 (m.expr d) ts rest
    read_expr (g.alone {d = d} {t = t} {ts = ts} {rest = rest} a) =
        let r = read_simple a in
        let q = seq 3 4 (m.simple (d + 1) ∷ []) (m.relation (d + 1) ∷ []) (t ∷ ts) rest rest (omega arith) r.0 (leaves 4 (m.relation (d + 1)) (loose_relation (d + 1)) refl rest) tt in
        let h = starts_on m.starts_expr r.0.front [] r.1 in
        (enter 4 (m.expr d ∷ []) (m.simple (d + 1) ∷ m.relation (d + 1) ∷ []) (t ∷ ts) rest (λ c j _. by.expr_at d c j) q h, h)
    read_expr (g.related {d = d} {op = op} {t = t} {u = u} {ts = ts} {mid = mid} {rest = rest} a is fits b) =
        let r = read_simple a in
        let q = read_simple b in
        let v = takes 4 (m.relation (d + 1)) (d + 1) (m.simple (d + 1) ∷ []) [] u mid rest (by.operator_by (d + 1) (m.simple (d + 1) ∷ []) is) fits (wider 3 4 (m.simple (d + 1) ∷ []) mid rest (omega arith) q.0) in
        let n = relation_joins u.kind op is in
        let s = seq 3 4 (m.simple (d + 1) ∷ []) (m.relation (d + 1) ∷ []) (t ∷ ts) (u ∷ mid) rest (omega arith) r.0 v (omega arith) in
        let h = starts_on m.starts_expr r.0.front v.front r.1 in
        (enter 4 (m.expr d ∷ []) (m.simple (d + 1) ∷ m.relation (d + 1) ∷ []) (t ∷ ts) rest (λ c j _. by.expr_at d c j) s h, h)

    read_simple : {d : ℕ} {a : Simple} {ts rest : List Token} → IsSimple may d a ts rest → Begun 3 (m.simple d) ts rest
    read_simple (g.unsigned {d = d} {t = t} {ts = ts} {mid = mid} {rest = rest} a more) =
        let r = read_term a in
        let v = read_additions more in
        let s = seq 2 3 (m.term d ∷ []) (m.additions d ∷ []) (t ∷ ts) mid rest (omega arith) r.0 v.0 v.1 in
        let h = starts_on m.starts_factor r.0.front v.0.front r.1 in
        (w.enter m.table joins may m.starts_factor 3 (m.simple d ∷ []) (m.term d ∷ m.additions d ∷ []) (t ∷ ts) rest (λ c j st. by.simple_at d c j st) s h, starts_either s.front h)
    read_simple (g.signed {d = d} {sign = sign} {t = t} {ts = ts} {mid = mid} {rest = rest} is fits a more) =
        let r = read_term a in
        let v = read_additions more in
        let s = seq 2 3 (m.term d ∷ []) (m.additions d ∷ []) ts mid rest (omega arith) r.0 v.0 v.1 in
        (takes 3 (m.simple d) d (m.term d ∷ m.additions d ∷ []) [] t ts rest (by.sign_by d t.kind is) fits s, sign_starts t.kind sign is)

    read_additions : {d : ℕ} {a : List Addition} {ts rest : List Token} → IsAdditions may d a ts rest → Going 3 2 (m.additions d) ts rest
    read_additions (g.no_additions {d = d} {ts = ts}) = (leaves 3 (m.additions d) (loose_additions d) refl ts, tt)
    read_additions (g.addition {d = d} {op = op} {t = t} {ts = ts} {mid = mid} {rest = rest} is fits a more) =
        let r = read_term a in
        let v = read_additions more in
        let s = seq 2 3 (m.term d ∷ []) (m.additions d ∷ []) ts mid rest (omega arith) r.0 v.0 v.1 in
        let n = addition_joins t.kind op is in
        (takes 3 (m.additions d) d (m.term d ∷ m.additions d ∷ []) [] t ts rest (by.operator_by d (m.term d ∷ m.additions d ∷ []) is) fits s, omega arith)

    read_term : {d : ℕ} {a : Term} {ts rest : List Token} → IsTerm may d a ts rest → Factored 2 (m.term d) ts rest
    read_term (g.term {d = d} {t = t} {ts = ts} {mid = mid} {rest = rest} a more) =
        let r = read_factor a in
        let v = read_products more in
        let s = seq 1 2 (m.factor d ∷ []) (m.products d ∷ []) (t ∷ ts) mid rest (omega arith) r.0 v.0 v.1 in
        let h = starts_on m.starts_factor r.0.front v.0.front r.1 in
        (enter 2 (m.term d ∷ []) (m.factor d ∷ m.products d ∷ []) (t ∷ ts) rest (λ c j _. by.term_at d c j) s (starts_either s.front h), h)

    read_products : {d : ℕ} {a : List Product} {ts rest : List Token} → IsProducts may d a ts rest → Going 2 1 (m.products d) ts rest
    read_products (g.no_products {d = d} {ts = ts}) = (leaves 2 (m.products d) (loose_products d) refl ts, tt)
    read_products (g.product {d = d} {op = op} {t = t} {ts = ts} {mid = mid} {rest = rest} is fits a more) =
        let r = read_factor a in
        let v = read_products more in
        let s = seq 1 2 (m.factor d ∷ []) (m.products d ∷ []) ts mid rest (omega arith) r.0 v.0 v.1 in
        let n = product_joins t.kind op is in
        (takes 2 (m.products d) d (m.factor d ∷ m.products d ∷ []) [] t ts rest (by.operator_by d (m.factor d ∷ m.products d ∷ []) is) fits s, omega arith)

    read_factor : {d : ℕ} {a : Factor} {ts rest : List Token} → IsFactor may d a ts rest → Factored 1 (m.factor d) ts rest
    read_factor (g.desig {d = d} (g.named {t = t} {ts = ts} {rest = rest} is fits more)) =
        let v = read_selectors more in
        (takes 1 (m.factor d) (d + 1) (m.selectors (d + 1) ∷ []) [] t ts rest (ap (m.after_factor d) is) fits v, ap m.starts_factor is)
    read_factor (g.number {d = d} {t = t} {ts = ts} is fits) = (takes 1 (m.factor d) (d + 1) [] [] t ts ts (ap (m.after_factor d) is) fits (w.nil m.table joins may 1 ts), ap m.starts_factor is)
    read_factor (g.char {d = d} {t = t} {ts = ts} is fits) = (takes 1 (m.factor d) (d + 1) [] [] t ts ts (ap (m.after_factor d) is) fits (w.nil m.table joins may 1 ts), ap m.starts_factor is)
    read_factor (g.text {d = d} {t = t} {ts = ts} is fits) = (takes 1 (m.factor d) (d + 1) [] [] t ts ts (ap (m.after_factor d) is) fits (w.nil m.table joins may 1 ts), ap m.starts_factor is)
    read_factor (g.nil {d = d} {t = t} {ts = ts} is fits) = (takes 1 (m.factor d) (d + 1) [] [] t ts ts (ap (m.after_factor d) is) fits (w.nil m.table joins may 1 ts), ap m.starts_factor is)
    read_factor (g.set {d = d} {t = t} {ts = ts} {rest = rest} is fits all) =
        (takes 1 (m.factor d) (d + 1) (m.members (d + 1) ∷ []) [] t ts rest (ap (m.after_factor d) is) fits (read_members all), ap m.starts_factor is)
    read_factor (g.paren {d = d} {t = t} {u = u} {ts = ts} {rest = rest} is fits a end fit) =
        let r = read_expr a in
        let v = w.seq_on m.table joins may 4 1 (m.expr (d + 1) ∷ []) (m.tok (d + 1) k.CloseParen ∷ []) ts u rest [] rest r.0 (joins_at 4 end (lit< tt)) (closed 1 u rest (d + 1) k.CloseParen end fit) refl in
        (takes 1 (m.factor d) (d + 1) (m.expr (d + 1) ∷ m.tok (d + 1) k.CloseParen ∷ []) [] t ts rest (ap (m.after_factor d) is) fits v, ap m.starts_factor is)
    read_factor (g.not {d = d} {t = t} {ts = ts} {rest = rest} is fits a) =
        let r = read_factor a in
        (takes 1 (m.factor d) (d + 1) (m.factor (d + 1) ∷ []) [] t ts rest (ap (m.after_factor d) is) fits r.0, ap m.starts_factor is)

    read_members : {d : ℕ} {a : List Elem} {ts rest : List Token} → IsMembers may d a ts rest → Reads 1 (m.members d ∷ []) ts rest
    read_members (g.no_members {d = d} {t = t} {ts = ts} is fits) = takes 1 (m.members d) d [] [] t ts ts (ap (m.after_members d) is) fits (w.nil m.table joins may 1 ts)
    read_members (g.members {d = d} {t = t} {ts = ts} {rest = rest} all end fit) =
        let r = read_elems all in
        let v = w.seq_on m.table joins may 6 1 (m.elems d ∷ []) (m.tok d k.CloseBrace ∷ []) ts t rest [] rest r.0 (joins_at 6 end (lit< tt)) (closed 1 t rest d k.CloseBrace end fit) refl in
        enter 1 (m.members d ∷ []) (m.elems d ∷ m.tok d k.CloseBrace ∷ []) ts rest (λ c j st. by.members_at d c j st) v (starts_on m.starts_expr r.0.front (t ∷ []) r.1)

    read_elems : {d : ℕ} {a : List Elem} {ts rest : List Token} → IsElems may d a ts rest → Begun 6 (m.elems d) ts rest
    read_elems (g.elems {d = d} {ts = ts} {mid = mid} {rest = rest} a more) =
        let r = read_elem a in
        let v = read_more_elems more in
        let s = seq 5 6 (m.elem d ∷ []) (m.more_elems d ∷ []) ts mid rest (omega arith) r.0 v.0 v.1 in
        let h = starts_on m.starts_expr r.0.front v.0.front r.1 in
        (enter 6 (m.elems d ∷ []) (m.elem d ∷ m.more_elems d ∷ []) ts rest (λ c j _. by.elems_at d c j) s h, h)

    read_more_elems : {d : ℕ} {a : List Elem} {ts rest : List Token} → IsMoreElems may d a ts rest → Going 6 5 (m.more_elems d) ts rest
    read_more_elems (g.no_more_elems {d = d} {ts = ts}) = (leaves 6 (m.more_elems d) (loose_more_elems d) refl ts, tt)
    read_more_elems (g.another_elem {d = d} {t = t} {ts = ts} {mid = mid} {rest = rest} is fits a more) =
        let r = read_elem a in
        let v = read_more_elems more in
        let s = seq 5 6 (m.elem d ∷ []) (m.more_elems d ∷ []) ts mid rest (omega arith) r.0 v.0 v.1 in
        (takes 6 (m.more_elems d) d (m.elem d ∷ m.more_elems d ∷ []) [] t ts rest (ap (m.after_more_elems d) is) fits s, joins_at 5 is (lit< tt))

    read_elem : {d : ℕ} {a : Elem} {ts rest : List Token} → IsElem may d a ts rest → Begun 5 (m.elem d) ts rest
    read_elem (g.single {d = d} {ts = ts} {rest = rest} a) =
        let r = read_expr a in
        let q = seq 4 5 (m.expr d ∷ []) (m.upper d ∷ []) ts rest rest (omega arith) r.0 (leaves 5 (m.upper d) (loose_upper d) refl rest) tt in
        let h = starts_on m.starts_expr r.0.front [] r.1 in
        (enter 5 (m.elem d ∷ []) (m.expr d ∷ m.upper d ∷ []) ts rest (λ c j _. by.elem_at d c j) q h, h)
    read_elem (g.range {d = d} {t = t} {ts = ts} {mid = mid} {rest = rest} a is fits b) =
        let r = read_expr a in
        let q = read_expr b in
        let v = takes 5 (m.upper d) d (m.expr d ∷ []) [] t mid rest (ap (m.after_upper d) is) fits (wider 4 5 (m.expr d ∷ []) mid rest (omega arith) q.0) in
        let s = seq 4 5 (m.expr d ∷ []) (m.upper d ∷ []) ts (t ∷ mid) rest (omega arith) r.0 v (joins_at 4 is (lit< tt)) in
        let h = starts_on m.starts_expr r.0.front v.front r.1 in
        (enter 5 (m.elem d ∷ []) (m.expr d ∷ m.upper d ∷ []) ts rest (λ c j _. by.elem_at d c j) s h, h)

    pub read_desig : {d : ℕ} {a : Desig} {ts rest : List Token} → IsDesig may d a ts rest → Reads 1 (m.desig d ∷ []) ts rest
    read_desig (g.named {d = d} {t = t} {ts = ts} {rest = rest} is fits more) =
        takes 1 (m.desig d) d (m.selectors d ∷ []) [] t ts rest (ap (m.after_desig d) is) fits (read_selectors more)

    read_selectors : {d : ℕ} {a : List Selector} {ts rest : List Token} → IsSelectors may d a ts rest → Reads 1 (m.selectors d ∷ []) ts rest
    read_selectors (g.no_selectors {d = d} {ts = ts}) = leaves 1 (m.selectors d) (loose_selectors d) refl ts
    read_selectors (g.selected {d = d} {rest = rest} a more) = read_selector a rest (read_selectors more)

    read_selector : {d : ℕ} {a : Selector} {ts mid : List Token} → IsSelector may d a ts mid → (rest : List Token) → Reads 1 (m.selectors d ∷ []) mid rest → Reads 1 (m.selectors d ∷ []) ts rest
    read_selector (g.field {d = d} {t = t} {u = u} {ts = ts} is fits end fit) rest r =
        takes 1 (m.selectors d) d (m.tok d k.Ident ∷ m.selectors d ∷ []) [] t (u ∷ ts) rest (ap (m.after_selectors d) is) fits (closing 1 u ts rest d k.Ident (m.selectors d ∷ []) end fit r)
    read_selector (g.index {d = d} {t = t} {u = u} {ts = ts} {rest = us} is fits all end fit) rest r =
        takes 1 (m.selectors d) d (m.exprs d ∷ m.tok d k.CloseBracket ∷ m.selectors d ∷ []) [] t ts rest (ap (m.after_selectors d) is) fits
        (w.seq_on m.table joins may 6 1 (m.exprs d ∷ []) (m.tok d k.CloseBracket ∷ m.selectors d ∷ []) ts u us r.front rest (read_exprs all).0 (joins_at 6 end (lit< tt)) (closing 1 u us rest d k.CloseBracket (m.selectors d ∷ []) end fit r) refl)
    read_selector (g.follow {d = d} {t = t} {ts = ts} is fits) rest r = takes 1 (m.selectors d) d (m.selectors d ∷ []) [] t ts rest (ap (m.after_selectors d) is) fits r
    read_selector (g.applied {d = d} {t = t} {ts = ts} {rest = us} is fits all) rest r =
        takes 1 (m.selectors d) d (m.arguments d ∷ m.selectors d ∷ []) [] t ts rest (ap (m.after_selectors d) is) fits (read_arguments all rest r)

    read_arguments : {d : ℕ} {a : List Expr} {ts mid : List Token} → IsArguments may d a ts mid → (rest : List Token) → Reads 1 (m.selectors d ∷ []) mid rest → Reads 1 (m.arguments d ∷ m.selectors d ∷ []) ts rest
    read_arguments (g.no_arguments {d = d} {t = t} {ts = ts} is fits) rest r = takes 1 (m.arguments d) d [] (m.selectors d ∷ []) t ts rest (ap (m.after_arguments d) is) fits r
    read_arguments (g.arguments {d = d} {t = t} {ts = ts} {rest = us} all end fit) rest r =
        let q = read_exprs all in
        let v = w.seq_on m.table joins may 6 1 (m.exprs d ∷ []) (m.tok d k.CloseParen ∷ m.selectors d ∷ []) ts t us r.front rest q.0 (joins_at 6 end (lit< tt)) (closing 1 t us rest d k.CloseParen (m.selectors d ∷ []) end fit r) refl in
        enter 1 (m.arguments d ∷ m.selectors d ∷ []) (m.exprs d ∷ m.tok d k.CloseParen ∷ m.selectors d ∷ []) ts rest (λ c j st. by.arguments_at d c (m.selectors d ∷ j) st) v (starts_on m.starts_expr q.0.front (t ∷ r.front) q.1)

    read_exprs : {d : ℕ} {a : List Expr} {ts rest : List Token} → IsExprs may d a ts rest → Begun 6 (m.exprs d) ts rest
    read_exprs (g.exprs {d = d} {ts = ts} {mid = mid} {rest = rest} a more) =
        let r = read_expr a in
        let v = read_more_exprs more in
        let s = seq 4 6 (m.expr d ∷ []) (m.more_exprs d ∷ []) ts mid rest (omega arith) r.0 v.0 v.1 in
        let h = starts_on m.starts_expr r.0.front v.0.front r.1 in
        (enter 6 (m.exprs d ∷ []) (m.expr d ∷ m.more_exprs d ∷ []) ts rest (λ c j _. by.exprs_at d c j) s h, h)

    read_more_exprs : {d : ℕ} {a : List Expr} {ts rest : List Token} → IsMoreExprs may d a ts rest → Going 6 4 (m.more_exprs d) ts rest
    read_more_exprs (g.no_more_exprs {d = d} {ts = ts}) = (leaves 6 (m.more_exprs d) (loose_more_exprs d) refl ts, tt)
    read_more_exprs (g.another_expr {d = d} {t = t} {ts = ts} {mid = mid} {rest = rest} is fits a more) =
        let r = read_expr a in
        let v = read_more_exprs more in
        let s = seq 4 6 (m.expr d ∷ []) (m.more_exprs d ∷ []) ts mid rest (omega arith) r.0 v.0 v.1 in
        (takes 6 (m.more_exprs d) d (m.expr d ∷ m.more_exprs d ∷ []) [] t ts rest (ap (m.after_more_exprs d) is) fits s, joins_at 4 is (lit< tt))
