-- Tokens have at most one tree: two trees that read the same tokens, each up to a token that joins more loosely, are equal
-- and end at one place.
use Rattle.std.proofs.Common.{◌≡◌, ℕ, ◌≤◌, ◌<◌, List, [], ◌∷◌, Bool, true, false, Some, refl, sym, ap, ◌∙◌, subst, arith, lit<}
use Rattle.aos_scan.specs.declared.token.Token.{Token}
use Rattle.aos_scan.specs.declared.token.TokenKind.{TokenKind}
use Rattle.aos_scan.specs.declared.token.TokenKind.TheVariants as k
use Rattle.aos_tree.specs.declared.expr.Sign.{Sign}
use Rattle.aos_tree.specs.declared.expr.Expr.{Expr}
use Rattle.aos_tree.specs.declared.expr.Simple.{Simple}
use Rattle.aos_tree.specs.declared.expr.Addition.{Addition}
use Rattle.aos_tree.specs.declared.expr.Term.{Term}
use Rattle.aos_tree.specs.declared.expr.Product.{Product}
use Rattle.aos_tree.specs.declared.expr.Factor.{Factor}
use Rattle.aos_tree.specs.declared.expr.Elem.{Elem}
use Rattle.aos_tree.specs.declared.expr.Desig.{Desig}
use Rattle.aos_tree.specs.declared.expr.Selector.{Selector}
use Rattle.aos_tree.specs.Nesting.{Rule}
use Rattle.aos_tree.specs.Operators.{sign_of}
use Rattle.aos_tree.specs.ExprGrammar as g
use Rattle.aos_tree.specs.ExprGrammar.{IsExpr, IsSimple, IsAdditions, IsTerm, IsProducts, IsFactor, IsMembers, IsElems, IsMoreElems, IsElem, IsDesig, IsSelectors, IsSelector, IsArguments, IsExprs, IsMoreExprs}
use Rattle.aos_parse_expr.specs.Symbols as m
use Rattle.aos_parse_expr.proofs.Walk.{Starts}
use Rattle.aos_parse_expr.proofs.ExprWalk.{joins, joins_at, product_joins, addition_joins, relation_joins, StartsFactor, StartsExpr, starts_either}

-- the next token joins more loosely than n
abbrev pub Loose : ℕ → List Token → Type 0
Loose n [] = ⊥
Loose n (t ∷ ts) = n < joins t.kind

looser : (n j : ℕ) (ts : List Token) → Loose n ts → j ≤ n → Loose j ts
looser n j [] h le = h
looser n j (t ∷ ts) h le = omega arith

-- the same value, and the same rest
abbrev Same : {A : Type 0} → A → A → List Token → List Token → Type 0
Same a b r s = (a ≡ b) × (r ≡ s)

-- a token that goes on can't stand where none goes on
no_token : (n : ℕ) {t : Token} {rest ts : List Token} → Loose n rest → rest ≡ t ∷ ts → joins t.kind ≡ n → ⊥
no_token n {t} loose is at = let h : n < joins t.kind = subst (λ s. Loose n s) is loose in omega arith

-- a sign begins no factor, and a bracket that closes no expression
sign_no_factor : (c : TokenKind) (s : Sign) → sign_of c ≡ Some s → m.starts_factor c ≡ true → ⊥
sign_no_factor k.Plus s h f = cc
sign_no_factor k.Minus s h f = cc
sign_no_factor _ s h f = absurd (cc)

first_of_two : (starts : TokenKind → Bool) (ts : List Token) {t : Token} {us : List Token} → Starts starts ts → ts ≡ t ∷ us → starts t.kind ≡ true
first_of_two starts [] h at = absurd h
first_of_two starts (u ∷ ts) {t} h at = let a : u.kind ≡ t.kind = cc in sym (ap starts a) ∙ h

signed_no_factor : (ts : List Token) {t : Token} {us : List Token} (s : Sign) → StartsFactor ts → ts ≡ t ∷ us → sign_of t.kind ≡ Some s → ⊥
signed_no_factor ts {t} s h at is = sign_no_factor t.kind s is (first_of_two m.starts_factor ts h at)

close_no_expr : (ts : List Token) {t : Token} {us : List Token} (c : TokenKind) → StartsExpr ts → ts ≡ t ∷ us → t.kind ≡ c → m.starts_expr c ≡ false → ⊥
close_no_expr ts {t} c h at is none =
    let a : m.starts_expr t.kind ≡ true = first_of_two m.starts_expr ts h at in
    let b : m.starts_expr t.kind ≡ false = ap m.starts_expr is ∙ none in
    cc

sign_starts : (c : TokenKind) (s : Sign) → sign_of c ≡ Some s → m.starts_expr c ≡ true
sign_starts k.Plus s h = refl
sign_starts k.Minus s h = refl
sign_starts _ s h = absurd (cc)

module _ (may : Rule) where
  first_factor : {d : ℕ} {a : Factor} {ts rest : List Token} → IsFactor may d a ts rest → StartsFactor ts
  first_factor (g.desig (g.named is fits more)) = ap m.starts_factor is
  first_factor (g.number is fits) = ap m.starts_factor is
  first_factor (g.char is fits) = ap m.starts_factor is
  first_factor (g.text is fits) = ap m.starts_factor is
  first_factor (g.nil is fits) = ap m.starts_factor is
  first_factor (g.set is fits all) = ap m.starts_factor is
  first_factor (g.paren is fits a end fit) = ap m.starts_factor is
  first_factor (g.not is fits a) = ap m.starts_factor is

  first_term : {d : ℕ} {a : Term} {ts rest : List Token} → IsTerm may d a ts rest → StartsFactor ts
  first_term (g.term a more) = first_factor a

  first_simple : {d : ℕ} {a : Simple} {ts rest : List Token} → IsSimple may d a ts rest → StartsExpr ts
  first_simple (g.unsigned {t = t} {ts = ts} a more) = starts_either (t ∷ ts) (first_term a)
  first_simple (g.signed {sign = s} {t = t} is fits a more) = sign_starts t.kind s is

  first_expr : {d : ℕ} {a : Expr} {ts rest : List Token} → IsExpr may d a ts rest → StartsExpr ts
  first_expr (g.alone a) = first_simple a
  first_expr (g.related a is fits b) = first_simple a

  first_exprs : {d : ℕ} {a : List Expr} {ts rest : List Token} → IsExprs may d a ts rest → StartsExpr ts
  first_exprs (g.exprs a more) = first_expr a

  first_elem : {d : ℕ} {a : Elem} {ts rest : List Token} → IsElem may d a ts rest → StartsExpr ts
  first_elem (g.single a) = first_expr a
  first_elem (g.range a is fits b) = first_expr a

  first_elems : {d : ℕ} {a : List Elem} {ts rest : List Token} → IsElems may d a ts rest → StartsExpr ts
  first_elems (g.elems a more) = first_elem a

  front_products : {d : ℕ} {a : List Product} {ts rest : List Token} → IsProducts may d a ts rest → Loose 2 rest → Loose 1 ts
  front_products (g.no_products {ts = ts}) loose = looser 2 1 ts loose (omega arith)
  front_products (g.product {op = op} {t = t} is fits a more) loose = let n = product_joins t.kind op is in omega arith

  front_additions : {d : ℕ} {a : List Addition} {ts rest : List Token} → IsAdditions may d a ts rest → Loose 3 rest → Loose 2 ts
  front_additions (g.no_additions {ts = ts}) loose = looser 3 2 ts loose (omega arith)
  front_additions (g.addition {op = op} {t = t} is fits a more) loose = let n = addition_joins t.kind op is in omega arith

  front_more_exprs : {d : ℕ} {a : List Expr} {ts rest : List Token} → IsMoreExprs may d a ts rest → Loose 6 rest → Loose 4 ts
  front_more_exprs (g.no_more_exprs {ts = ts}) loose = looser 6 4 ts loose (omega arith)
  front_more_exprs (g.another_expr is fits a more) loose = joins_at 4 is (lit< tt)

  front_more_elems : {d : ℕ} {a : List Elem} {ts rest : List Token} → IsMoreElems may d a ts rest → Loose 6 rest → Loose 5 ts
  front_more_elems (g.no_more_elems {ts = ts}) loose = looser 6 5 ts loose (omega arith)
  front_more_elems (g.another_elem is fits a more) loose = joins_at 5 is (lit< tt)

  opens : {d : ℕ} {a : Selector} {ts r us : List Token} → IsSelector may d a ts r → Loose 1 us → us ≡ ts → ⊥
  opens (g.field {t = t} is fits end fit) l at = no_token 1 l at (ap joins is)
  opens (g.index {t = t} is fits x end fit) l at = no_token 1 l at (ap joins is)
  opens (g.follow {t = t} is fits) l at = no_token 1 l at (ap joins is)
  opens (g.applied {t = t} is fits x) l at = no_token 1 l at (ap joins is)

  mutual
    pub unique_expr : {d : ℕ} {a b : Expr} {ts ts' r r' : List Token} → IsExpr may d a ts r → IsExpr may d b ts' r' → ts ≡ ts' → Loose 4 r → Loose 4 r' → Same a b r r'
    unique_expr (g.alone {rest = r} x) (g.alone {rest = r'} y) at l l' =
        let p = unique_simple x y at (looser 4 3 r l (omega arith)) (looser 4 3 r' l' (omega arith)) in (cc, p.1)
    unique_expr (g.alone {rest = r} x) (g.related {op = op} {u = u} y is fits z) at l l' =
        let n = relation_joins u.kind op is in
        let p = unique_simple x y at (looser 4 3 r l (omega arith)) (omega arith) in absurd (no_token 4 l p.1 n)
    unique_expr (g.related {op = op} {u = u} y is fits z) (g.alone {rest = r'} x) at l l' =
        let n = relation_joins u.kind op is in
        let p = unique_simple y x at (omega arith) (looser 4 3 r' l' (omega arith)) in absurd (no_token 4 l' (sym p.1) n)
    unique_expr (g.related {op = op} {u = u} {mid = mid} {rest = r} y is fits z) (g.related {op = op'} {u = u'} {mid = mid'} {rest = r'} y' is' fits' z') at l l' =
        let n = relation_joins u.kind op is in
        let n' = relation_joins u'.kind op' is' in
        let p = unique_simple y y' at (omega arith) (omega arith) in
        let e : mid ≡ mid' = cc in
        let q = unique_simple z z' e (looser 4 3 r l (omega arith)) (looser 4 3 r' l' (omega arith)) in
        let f : op ≡ op' = cc in
        (cc, q.1)

    pub unique_simple : {d : ℕ} {a b : Simple} {ts ts' r r' : List Token} → IsSimple may d a ts r → IsSimple may d b ts' r' → ts ≡ ts' → Loose 3 r → Loose 3 r' → Same a b r r'
    unique_simple (g.unsigned x xs) (g.unsigned y ys) at l l' =
        let p = unique_term x y at (front_additions xs l) (front_additions ys l') in
        let q = unique_additions xs ys p.1 l l' in (cc, q.1)
    unique_simple (g.unsigned {t = u} {ts = us} x xs) (g.signed {sign = s} {t = t} is fits y ys) at l l' = absurd (signed_no_factor (u ∷ us) s (first_term x) at is)
    unique_simple (g.signed {sign = s} {t = t} is fits y ys) (g.unsigned {t = u} {ts = us} x xs) at l l' = absurd (signed_no_factor (u ∷ us) s (first_term x) (sym at) is)
    unique_simple (g.signed {sign = s} {ts = ts} is fits x xs) (g.signed {sign = s'} {ts = ts'} is' fits' y ys) at l l' =
        let e : ts ≡ ts' = cc in
        let f : s ≡ s' = cc in
        let p = unique_term x y e (front_additions xs l) (front_additions ys l') in
        let q = unique_additions xs ys p.1 l l' in (cc, q.1)

    pub unique_additions : {d : ℕ} {a b : List Addition} {ts ts' r r' : List Token} → IsAdditions may d a ts r → IsAdditions may d b ts' r' → ts ≡ ts' → Loose 3 r → Loose 3 r' → Same a b r r'
    unique_additions g.no_additions g.no_additions at l l' = (refl, at)
    unique_additions g.no_additions (g.addition {op = op} {t = t} is fits x xs) at l l' = absurd (no_token 3 l at (addition_joins t.kind op is))
    unique_additions (g.addition {op = op} {t = t} is fits x xs) g.no_additions at l l' = absurd (no_token 3 l' (sym at) (addition_joins t.kind op is))
    unique_additions (g.addition {op = op} {ts = ts} is fits x xs) (g.addition {op = op'} {ts = ts'} is' fits' y ys) at l l' =
        let e : ts ≡ ts' = cc in
        let f : op ≡ op' = cc in
        let p = unique_term x y e (front_additions xs l) (front_additions ys l') in
        let q = unique_additions xs ys p.1 l l' in (cc, q.1)

    pub unique_term : {d : ℕ} {a b : Term} {ts ts' r r' : List Token} → IsTerm may d a ts r → IsTerm may d b ts' r' → ts ≡ ts' → Loose 2 r → Loose 2 r' → Same a b r r'
    unique_term (g.term x xs) (g.term y ys) at l l' =
        let p = unique_factor x y at (front_products xs l) (front_products ys l') in
        let q = unique_products xs ys p.1 l l' in (cc, q.1)

    pub unique_products : {d : ℕ} {a b : List Product} {ts ts' r r' : List Token} → IsProducts may d a ts r → IsProducts may d b ts' r' → ts ≡ ts' → Loose 2 r → Loose 2 r' → Same a b r r'
    unique_products g.no_products g.no_products at l l' = (refl, at)
    unique_products g.no_products (g.product {op = op} {t = t} is fits x xs) at l l' = absurd (no_token 2 l at (product_joins t.kind op is))
    unique_products (g.product {op = op} {t = t} is fits x xs) g.no_products at l l' = absurd (no_token 2 l' (sym at) (product_joins t.kind op is))
    unique_products (g.product {op = op} {ts = ts} is fits x xs) (g.product {op = op'} {ts = ts'} is' fits' y ys) at l l' =
        let e : ts ≡ ts' = cc in
        let f : op ≡ op' = cc in
        let p = unique_factor x y e (front_products xs l) (front_products ys l') in
        let q = unique_products xs ys p.1 l l' in (cc, q.1)

    pub unique_factor : {d : ℕ} {a b : Factor} {ts ts' r r' : List Token} → IsFactor may d a ts r → IsFactor may d b ts' r' → ts ≡ ts' → Loose 1 r → Loose 1 r' → Same a b r r'
    unique_factor (g.desig x) (g.desig y) at l l' = let p = unique_desig x y at l l' in (cc, p.1)
    unique_factor (g.number is fits) (g.number is' fits') at l l' = (cc, cc)
    unique_factor (g.char is fits) (g.char is' fits') at l l' = (cc, cc)
    unique_factor (g.text is fits) (g.text is' fits') at l l' = (cc, cc)
    unique_factor (g.nil is fits) (g.nil is' fits') at l l' = (cc, cc)
    unique_factor (g.set {ts = ts} is fits x) (g.set {ts = ts'} is' fits' x') at l l' =
        let e : ts ≡ ts' = cc in
        let p = unique_members x x' e in (cc, p.1)
    unique_factor (g.paren {ts = ts} is fits x end fit) (g.paren {ts = ts'} is' fits' x' end' fit') at l l' =
        let e : ts ≡ ts' = cc in
        let p = unique_expr x x' e (joins_at 4 end (lit< tt)) (joins_at 4 end' (lit< tt)) in (cc, cc)
    unique_factor (g.not {ts = ts} is fits x) (g.not {ts = ts'} is' fits' x') at l l' =
        let e : ts ≡ ts' = cc in
        let p = unique_factor x x' e l l' in (cc, p.1)
    unique_factor (g.desig (g.named is fits xs)) (g.number is' fits') at l l' = absurd (cc)
    unique_factor (g.desig (g.named is fits xs)) (g.char is' fits') at l l' = absurd (cc)
    unique_factor (g.desig (g.named is fits xs)) (g.text is' fits') at l l' = absurd (cc)
    unique_factor (g.desig (g.named is fits xs)) (g.nil is' fits') at l l' = absurd (cc)
    unique_factor (g.desig (g.named is fits xs)) (g.set is' fits' x') at l l' = absurd (cc)
    unique_factor (g.desig (g.named is fits xs)) (g.paren is' fits' x' end' fit') at l l' = absurd (cc)
    unique_factor (g.desig (g.named is fits xs)) (g.not is' fits' x') at l l' = absurd (cc)
    unique_factor (g.number is fits) (g.desig (g.named is' fits' xs')) at l l' = absurd (cc)
    unique_factor (g.number is fits) (g.char is' fits') at l l' = absurd (cc)
    unique_factor (g.number is fits) (g.text is' fits') at l l' = absurd (cc)
    unique_factor (g.number is fits) (g.nil is' fits') at l l' = absurd (cc)
    unique_factor (g.number is fits) (g.set is' fits' x') at l l' = absurd (cc)
    unique_factor (g.number is fits) (g.paren is' fits' x' end' fit') at l l' = absurd (cc)
    unique_factor (g.number is fits) (g.not is' fits' x') at l l' = absurd (cc)
    unique_factor (g.char is fits) (g.desig (g.named is' fits' xs')) at l l' = absurd (cc)
    unique_factor (g.char is fits) (g.number is' fits') at l l' = absurd (cc)
    unique_factor (g.char is fits) (g.text is' fits') at l l' = absurd (cc)
    unique_factor (g.char is fits) (g.nil is' fits') at l l' = absurd (cc)
    unique_factor (g.char is fits) (g.set is' fits' x') at l l' = absurd (cc)
    unique_factor (g.char is fits) (g.paren is' fits' x' end' fit') at l l' = absurd (cc)
    unique_factor (g.char is fits) (g.not is' fits' x') at l l' = absurd (cc)
    unique_factor (g.text is fits) (g.desig (g.named is' fits' xs')) at l l' = absurd (cc)
    unique_factor (g.text is fits) (g.number is' fits') at l l' = absurd (cc)
    unique_factor (g.text is fits) (g.char is' fits') at l l' = absurd (cc)
    unique_factor (g.text is fits) (g.nil is' fits') at l l' = absurd (cc)
    unique_factor (g.text is fits) (g.set is' fits' x') at l l' = absurd (cc)
    unique_factor (g.text is fits) (g.paren is' fits' x' end' fit') at l l' = absurd (cc)
    unique_factor (g.text is fits) (g.not is' fits' x') at l l' = absurd (cc)
    unique_factor (g.nil is fits) (g.desig (g.named is' fits' xs')) at l l' = absurd (cc)
    unique_factor (g.nil is fits) (g.number is' fits') at l l' = absurd (cc)
    unique_factor (g.nil is fits) (g.char is' fits') at l l' = absurd (cc)
    unique_factor (g.nil is fits) (g.text is' fits') at l l' = absurd (cc)
    unique_factor (g.nil is fits) (g.set is' fits' x') at l l' = absurd (cc)
    unique_factor (g.nil is fits) (g.paren is' fits' x' end' fit') at l l' = absurd (cc)
    unique_factor (g.nil is fits) (g.not is' fits' x') at l l' = absurd (cc)
    unique_factor (g.set is fits x) (g.desig (g.named is' fits' xs')) at l l' = absurd (cc)
    unique_factor (g.set is fits x) (g.number is' fits') at l l' = absurd (cc)
    unique_factor (g.set is fits x) (g.char is' fits') at l l' = absurd (cc)
    unique_factor (g.set is fits x) (g.text is' fits') at l l' = absurd (cc)
    unique_factor (g.set is fits x) (g.nil is' fits') at l l' = absurd (cc)
    unique_factor (g.set is fits x) (g.paren is' fits' x' end' fit') at l l' = absurd (cc)
    unique_factor (g.set is fits x) (g.not is' fits' x') at l l' = absurd (cc)
    unique_factor (g.paren is fits x end fit) (g.desig (g.named is' fits' xs')) at l l' = absurd (cc)
    unique_factor (g.paren is fits x end fit) (g.number is' fits') at l l' = absurd (cc)
    unique_factor (g.paren is fits x end fit) (g.char is' fits') at l l' = absurd (cc)
    unique_factor (g.paren is fits x end fit) (g.text is' fits') at l l' = absurd (cc)
    unique_factor (g.paren is fits x end fit) (g.nil is' fits') at l l' = absurd (cc)
    unique_factor (g.paren is fits x end fit) (g.set is' fits' x') at l l' = absurd (cc)
    unique_factor (g.paren is fits x end fit) (g.not is' fits' x') at l l' = absurd (cc)
    unique_factor (g.not is fits x) (g.desig (g.named is' fits' xs')) at l l' = absurd (cc)
    unique_factor (g.not is fits x) (g.number is' fits') at l l' = absurd (cc)
    unique_factor (g.not is fits x) (g.char is' fits') at l l' = absurd (cc)
    unique_factor (g.not is fits x) (g.text is' fits') at l l' = absurd (cc)
    unique_factor (g.not is fits x) (g.nil is' fits') at l l' = absurd (cc)
    unique_factor (g.not is fits x) (g.set is' fits' x') at l l' = absurd (cc)
    unique_factor (g.not is fits x) (g.paren is' fits' x' end' fit') at l l' = absurd (cc)

    pub unique_members : {d : ℕ} {a b : List Elem} {ts ts' r r' : List Token} → IsMembers may d a ts r → IsMembers may d b ts' r' → ts ≡ ts' → Same a b r r'
    unique_members (g.no_members is fits) (g.no_members is' fits') at = (refl, cc)
    unique_members (g.no_members {t = t} is fits) (g.members {ts = ts} xs end fit) at = absurd (close_no_expr ts k.CloseBrace (first_elems xs) (sym at) is refl)
    unique_members (g.members {ts = ts} xs end fit) (g.no_members {t = t} is fits) at = absurd (close_no_expr ts k.CloseBrace (first_elems xs) at is refl)
    unique_members (g.members xs end fit) (g.members ys end' fit') at =
        let p = unique_elems xs ys at (joins_at 6 end (lit< tt)) (joins_at 6 end' (lit< tt)) in (p.0, cc)

    pub unique_elems : {d : ℕ} {a b : List Elem} {ts ts' r r' : List Token} → IsElems may d a ts r → IsElems may d b ts' r' → ts ≡ ts' → Loose 6 r → Loose 6 r' → Same a b r r'
    unique_elems (g.elems x xs) (g.elems y ys) at l l' =
        let p = unique_elem x y at (front_more_elems xs l) (front_more_elems ys l') in
        let q = unique_more_elems xs ys p.1 l l' in (cc, q.1)

    pub unique_more_elems : {d : ℕ} {a b : List Elem} {ts ts' r r' : List Token} → IsMoreElems may d a ts r → IsMoreElems may d b ts' r' → ts ≡ ts' → Loose 6 r → Loose 6 r' → Same a b r r'
    unique_more_elems g.no_more_elems g.no_more_elems at l l' = (refl, at)
    unique_more_elems g.no_more_elems (g.another_elem {t = t} is fits x xs) at l l' = absurd (no_token 6 l at (ap joins is))
    unique_more_elems (g.another_elem {t = t} is fits x xs) g.no_more_elems at l l' = absurd (no_token 6 l' (sym at) (ap joins is))
    unique_more_elems (g.another_elem {ts = ts} is fits x xs) (g.another_elem {ts = ts'} is' fits' y ys) at l l' =
        let e : ts ≡ ts' = cc in
        let p = unique_elem x y e (front_more_elems xs l) (front_more_elems ys l') in
        let q = unique_more_elems xs ys p.1 l l' in (cc, q.1)

    pub unique_elem : {d : ℕ} {a b : Elem} {ts ts' r r' : List Token} → IsElem may d a ts r → IsElem may d b ts' r' → ts ≡ ts' → Loose 5 r → Loose 5 r' → Same a b r r'
    unique_elem (g.single {rest = r} x) (g.single {rest = r'} y) at l l' =
        let p = unique_expr x y at (looser 5 4 r l (omega arith)) (looser 5 4 r' l' (omega arith)) in (cc, p.1)
    unique_elem (g.single {rest = r} x) (g.range {t = t} y is fits z) at l l' =
        let p = unique_expr x y at (looser 5 4 r l (omega arith)) (joins_at 4 is (lit< tt)) in absurd (no_token 5 l p.1 (ap joins is))
    unique_elem (g.range {t = t} y is fits z) (g.single {rest = r'} x) at l l' =
        let p = unique_expr y x at (joins_at 4 is (lit< tt)) (looser 5 4 r' l' (omega arith)) in absurd (no_token 5 l' (sym p.1) (ap joins is))
    unique_elem (g.range {mid = mid} {rest = r} y is fits z) (g.range {mid = mid'} {rest = r'} y' is' fits' z') at l l' =
        let p = unique_expr y y' at (joins_at 4 is (lit< tt)) (joins_at 4 is' (lit< tt)) in
        let e : mid ≡ mid' = cc in
        let q = unique_expr z z' e (looser 5 4 r l (omega arith)) (looser 5 4 r' l' (omega arith)) in
        (cc, q.1)

    pub unique_desig : {d : ℕ} {a b : Desig} {ts ts' r r' : List Token} → IsDesig may d a ts r → IsDesig may d b ts' r' → ts ≡ ts' → Loose 1 r → Loose 1 r' → Same a b r r'
    unique_desig (g.named {ts = ts} is fits xs) (g.named {ts = ts'} is' fits' ys) at l l' =
        let e : ts ≡ ts' = cc in
        let p = unique_selectors xs ys e l l' in (cc, p.1)

    pub unique_selectors : {d : ℕ} {a b : List Selector} {ts ts' r r' : List Token} → IsSelectors may d a ts r → IsSelectors may d b ts' r' → ts ≡ ts' → Loose 1 r → Loose 1 r' → Same a b r r'
    unique_selectors g.no_selectors g.no_selectors at l l' = (refl, at)
    unique_selectors g.no_selectors (g.selected y ys) at l l' = absurd (opens y l at)
    unique_selectors (g.selected x xs) g.no_selectors at l l' = absurd (opens x l' (sym at))
    unique_selectors (g.selected x xs) (g.selected y ys) at l l' =
        let p = unique_selector x y at in
        let q = unique_selectors xs ys p.1 l l' in (cc, q.1)

    pub unique_selector : {d : ℕ} {a b : Selector} {ts ts' r r' : List Token} → IsSelector may d a ts r → IsSelector may d b ts' r' → ts ≡ ts' → Same a b r r'
    unique_selector (g.field is fits end fit) (g.field is' fits' end' fit') at = (cc, cc)
    unique_selector (g.index {ts = ts} is fits x end fit) (g.index {ts = ts'} is' fits' x' end' fit') at =
        let e : ts ≡ ts' = cc in
        let p = unique_exprs x x' e (joins_at 6 end (lit< tt)) (joins_at 6 end' (lit< tt)) in (cc, cc)
    unique_selector (g.follow is fits) (g.follow is' fits') at = (cc, cc)
    unique_selector (g.applied {ts = ts} is fits x) (g.applied {ts = ts'} is' fits' x') at =
        let e : ts ≡ ts' = cc in
        let p = unique_arguments x x' e in (cc, p.1)
    unique_selector (g.field is fits end fit) (g.index is' fits' x' end' fit') at = absurd (cc)
    unique_selector (g.field is fits end fit) (g.follow is' fits') at = absurd (cc)
    unique_selector (g.field is fits end fit) (g.applied is' fits' x') at = absurd (cc)
    unique_selector (g.index is fits x end fit) (g.field is' fits' end' fit') at = absurd (cc)
    unique_selector (g.index is fits x end fit) (g.follow is' fits') at = absurd (cc)
    unique_selector (g.index is fits x end fit) (g.applied is' fits' x') at = absurd (cc)
    unique_selector (g.follow is fits) (g.field is' fits' end' fit') at = absurd (cc)
    unique_selector (g.follow is fits) (g.index is' fits' x' end' fit') at = absurd (cc)
    unique_selector (g.follow is fits) (g.applied is' fits' x') at = absurd (cc)
    unique_selector (g.applied is fits x) (g.field is' fits' end' fit') at = absurd (cc)
    unique_selector (g.applied is fits x) (g.index is' fits' x' end' fit') at = absurd (cc)
    unique_selector (g.applied is fits x) (g.follow is' fits') at = absurd (cc)

    pub unique_arguments : {d : ℕ} {a b : List Expr} {ts ts' r r' : List Token} → IsArguments may d a ts r → IsArguments may d b ts' r' → ts ≡ ts' → Same a b r r'
    unique_arguments (g.no_arguments is fits) (g.no_arguments is' fits') at = (refl, cc)
    unique_arguments (g.no_arguments {t = t} is fits) (g.arguments {ts = ts} xs end fit) at = absurd (close_no_expr ts k.CloseParen (first_exprs xs) (sym at) is refl)
    unique_arguments (g.arguments {ts = ts} xs end fit) (g.no_arguments {t = t} is fits) at = absurd (close_no_expr ts k.CloseParen (first_exprs xs) at is refl)
    unique_arguments (g.arguments xs end fit) (g.arguments ys end' fit') at =
        let p = unique_exprs xs ys at (joins_at 6 end (lit< tt)) (joins_at 6 end' (lit< tt)) in (p.0, cc)

    pub unique_exprs : {d : ℕ} {a b : List Expr} {ts ts' r r' : List Token} → IsExprs may d a ts r → IsExprs may d b ts' r' → ts ≡ ts' → Loose 6 r → Loose 6 r' → Same a b r r'
    unique_exprs (g.exprs x xs) (g.exprs y ys) at l l' =
        let p = unique_expr x y at (front_more_exprs xs l) (front_more_exprs ys l') in
        let q = unique_more_exprs xs ys p.1 l l' in (cc, q.1)

    pub unique_more_exprs : {d : ℕ} {a b : List Expr} {ts ts' r r' : List Token} → IsMoreExprs may d a ts r → IsMoreExprs may d b ts' r' → ts ≡ ts' → Loose 6 r → Loose 6 r' → Same a b r r'
    unique_more_exprs g.no_more_exprs g.no_more_exprs at l l' = (refl, at)
    unique_more_exprs g.no_more_exprs (g.another_expr {t = t} is fits x xs) at l l' = absurd (no_token 6 l at (ap joins is))
    unique_more_exprs (g.another_expr {t = t} is fits x xs) g.no_more_exprs at l l' = absurd (no_token 6 l' (sym at) (ap joins is))
    unique_more_exprs (g.another_expr {ts = ts} is fits x xs) (g.another_expr {ts = ts'} is' fits' y ys) at l l' =
        let e : ts ≡ ts' = cc in
        let p = unique_expr x y e (front_more_exprs xs l) (front_more_exprs ys l') in
        let q = unique_more_exprs xs ys p.1 l l' in (cc, q.1)
