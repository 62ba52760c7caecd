-- A tree reads the same tokens whatever comes behind them: nothing in the grammar looks past its end. So two trees that read
-- the same tokens up to one rest read them up to the end of a text, too, and are one.
use Rattle.std.proofs.Common.{◌≡◌, ℕ, ◌+◌, ◌++◌, List, [], ◌∷◌, true, refl, sym, ap, ◌∙◌, subst, lit<}
use Rattle.aos_scan.specs.declared.token.Token.{Token}
use Rattle.aos_tree.specs.declared.expr.Expr.{Expr}
use Rattle.aos_tree.specs.declared.expr.Simple.{Simple}
use Rattle.aos_tree.specs.declared.expr.Addition.{Addition}
use Rattle.aos_tree.specs.declared.expr.Term.{Term}
use Rattle.aos_tree.specs.declared.expr.Product.{Product}
use Rattle.aos_tree.specs.declared.expr.Factor.{Factor}
use Rattle.aos_tree.specs.declared.expr.Elem.{Elem}
use Rattle.aos_tree.specs.declared.expr.Desig.{Desig}
use Rattle.aos_tree.specs.declared.expr.Selector.{Selector}
use Rattle.aos_tree.specs.Nesting.{Rule, anywhere}
use Rattle.aos_tree.specs.ExprGrammar as g
use Rattle.aos_tree.specs.ExprGrammar.{IsExpr, IsSimple, IsAdditions, IsTerm, IsProducts, IsFactor, IsMembers, IsElems, IsMoreElems, IsElem, IsDesig, IsSelectors, IsSelector, IsArguments, IsExprs, IsMoreExprs}
use Rattle.aos_parse_expr.proofs.Places.{same_split, end_token}
use Rattle.aos_parse_expr.proofs.Unique.{unique_expr, unique_desig}

-- `Other us vs`: the tokens vs are us with another rest
module _ (may : Rule) (Other : List Token → List Token → Type 0) (there : (t : Token) (us vs : List Token) → Other us vs → Other (t ∷ us) (t ∷ vs)) where
  -- with the rest s the production reads other tokens in place of ts
  abbrev Moved : (List Token → List Token → Type 0) → List Token → List Token → Type 0
  Moved reads ts s = (vs : List Token) × Other ts vs × reads vs s

  -- and these begin by the same token
  abbrev Begun : (List Token → List Token → Type 0) → List Token → List Token → Type 0
  Begun reads ts s = (t : Token) × (us : List Token) × (vs : List Token) × (ts ≡ t ∷ us) × Other us vs × reads (t ∷ vs) s

  plain : (reads : List Token → List Token → Type 0) (ts s : List Token) → Begun reads ts s → Moved reads ts s
  plain reads ts s b = (b.0 ∷ b.2, subst (λ z. Other z (b.0 ∷ b.2)) (sym b.3) (there b.0 b.1 b.2 b.4), b.5)

  headed : (reads : List Token → List Token → Type 0) (t : Token) (ts s : List Token) → Begun reads (t ∷ ts) s → (vs : List Token) × Other ts vs × reads (t ∷ vs) s
  headed reads t ts s b =
      let at : t ∷ ts ≡ b.0 ∷ b.1 = b.3 in
      let e : b.0 ≡ t = cc in
      let n : b.1 ≡ ts = cc in
      (b.2, subst (λ z. Other z b.2) n b.4, subst (λ z. reads (z ∷ b.2) s) e b.5)

  mutual
    expr : {d : ℕ} {a : Expr} {ts rest : List Token} → IsExpr may d a ts rest → (s : List Token) → Other rest s → Begun (IsExpr anywhere d a) ts s
    expr (g.alone {d = d} {a = a} {t = t} {ts = ts} x) s h = let p = headed (IsSimple anywhere (d + 1) a) t ts s (simple x s h) in (t, ts, p.0, refl, p.1, g.alone p.2)
    expr (g.related {d = d} {a = a} {b = b} {t = t} {u = u} {ts = ts} {mid = mid} x is fits y) s h =
        let q = plain (IsSimple anywhere (d + 1) b) mid s (simple y s h) in
        let p = headed (IsSimple anywhere (d + 1) a) t ts (u ∷ q.0) (simple x (u ∷ q.0) (there u mid q.0 q.1)) in
        (t, ts, p.0, refl, p.1, g.related p.2 is refl q.2)

    simple : {d : ℕ} {a : Simple} {ts rest : List Token} → IsSimple may d a ts rest → (s : List Token) → Other rest s → Begun (IsSimple anywhere d a) ts s
    simple (g.unsigned {d = d} {a = a} {t = t} {ts = ts} x more) s h =
        let q = additions more s h in
        let p = headed (IsTerm anywhere d a) t ts q.0 (term x q.0 q.1) in
        (t, ts, p.0, refl, p.1, g.unsigned p.2 q.2)
    simple (g.signed {d = d} {a = a} {t = t} {ts = ts} is fits x more) s h =
        let q = additions more s h in
        let p = plain (IsTerm anywhere d a) ts q.0 (term x q.0 q.1) in
        (t, ts, p.0, refl, p.1, g.signed is refl p.2 q.2)

    additions : {d : ℕ} {a : List Addition} {ts rest : List Token} → IsAdditions may d a ts rest → (s : List Token) → Other rest s → Moved (IsAdditions anywhere d a) ts s
    additions g.no_additions s h = (s, h, g.no_additions)
    additions (g.addition {d = d} {a = a} {t = t} {ts = ts} is fits x more) s h =
        let q = additions more s h in
        let p = plain (IsTerm anywhere d a) ts q.0 (term x q.0 q.1) in
        (t ∷ p.0, there t ts p.0 p.1, g.addition is refl p.2 q.2)

    term : {d : ℕ} {a : Term} {ts rest : List Token} → IsTerm may d a ts rest → (s : List Token) → Other rest s → Begun (IsTerm anywhere d a) ts s
    term (g.term {d = d} {a = a} {t = t} {ts = ts} x more) s h =
        let q = products more s h in
        let p = headed (IsFactor anywhere d a) t ts q.0 (factor x q.0 q.1) in
        (t, ts, p.0, refl, p.1, g.term p.2 q.2)

    products : {d : ℕ} {a : List Product} {ts rest : List Token} → IsProducts may d a ts rest → (s : List Token) → Other rest s → Moved (IsProducts anywhere d a) ts s
    products g.no_products s h = (s, h, g.no_products)
    products (g.product {d = d} {a = a} {t = t} {ts = ts} is fits x more) s h =
        let q = products more s h in
        let p = plain (IsFactor anywhere d a) ts q.0 (factor x q.0 q.1) in
        (t ∷ p.0, there t ts p.0 p.1, g.product is refl p.2 q.2)

    factor : {d : ℕ} {a : Factor} {ts rest : List Token} → IsFactor may d a ts rest → (s : List Token) → Other rest s → Begun (IsFactor anywhere d a) ts s
    factor (g.desig x) s h = let p = desig x s h in (p.0, p.1, p.2, p.3, p.4, g.desig p.5)
    factor (g.number {t = t} {ts = ts} is fits) s h = (t, ts, s, refl, h, g.number is refl)
    factor (g.char {t = t} {ts = ts} is fits) s h = (t, ts, s, refl, h, g.char is refl)
    factor (g.text {t = t} {ts = ts} is fits) s h = (t, ts, s, refl, h, g.text is refl)
    factor (g.nil {t = t} {ts = ts} is fits) s h = (t, ts, s, refl, h, g.nil is refl)
    factor (g.set {t = t} {ts = ts} is fits all) s h = let p = members all s h in (t, ts, p.0, refl, p.1, g.set is refl p.2)
    factor (g.paren {d = d} {a = a} {t = t} {u = u} {ts = ts} {rest = rest} is fits x end fit) s h =
        let p = plain (IsExpr anywhere (d + 1) a) ts (u ∷ s) (expr x (u ∷ s) (there u rest s h)) in (t, ts, p.0, refl, p.1, g.paren is refl p.2 end refl)
    factor (g.not {d = d} {a = a} {t = t} {ts = ts} is fits x) s h =
        let p = plain (IsFactor anywhere (d + 1) a) ts s (factor x s h) in (t, ts, p.0, refl, p.1, g.not is refl p.2)

    members : {d : ℕ} {a : List Elem} {ts rest : List Token} → IsMembers may d a ts rest → (s : List Token) → Other rest s → Moved (IsMembers anywhere d a) ts s
    members (g.no_members {t = t} {ts = ts} is fits) s h = (t ∷ s, there t ts s h, g.no_members is refl)
    members (g.members {t = t} {rest = rest} all end fit) s h = let p = elems all (t ∷ s) (there t rest s h) in (p.0, p.1, g.members p.2 end refl)

    elems : {d : ℕ} {a : List Elem} {ts rest : List Token} → IsElems may d a ts rest → (s : List Token) → Other rest s → Moved (IsElems anywhere d a) ts s
    elems (g.elems x more) s h = let q = more_elems more s h in let p = elem x q.0 q.1 in (p.0, p.1, g.elems p.2 q.2)

    more_elems : {d : ℕ} {a : List Elem} {ts rest : List Token} → IsMoreElems may d a ts rest → (s : List Token) → Other rest s → Moved (IsMoreElems anywhere d a) ts s
    more_elems g.no_more_elems s h = (s, h, g.no_more_elems)
    more_elems (g.another_elem {t = t} {ts = ts} is fits x more) s h =
        let q = more_elems more s h in let p = elem x q.0 q.1 in (t ∷ p.0, there t ts p.0 p.1, g.another_elem is refl p.2 q.2)

    elem : {d : ℕ} {a : Elem} {ts rest : List Token} → IsElem may d a ts rest → (s : List Token) → Other rest s → Moved (IsElem anywhere d a) ts s
    elem (g.single {d = d} {a = a} {ts = ts} x) s h = let p = plain (IsExpr anywhere d a) ts s (expr x s h) in (p.0, p.1, g.single p.2)
    elem (g.range {d = d} {a = a} {b = b} {t = t} {ts = ts} {mid = mid} x is fits y) s h =
        let q = plain (IsExpr anywhere d b) mid s (expr y s h) in
        let p = plain (IsExpr anywhere d a) ts (t ∷ q.0) (expr x (t ∷ q.0) (there t mid q.0 q.1)) in
        (p.0, p.1, g.range p.2 is refl q.2)

    desig : {d : ℕ} {a : Desig} {ts rest : List Token} → IsDesig may d a ts rest → (s : List Token) → Other rest s → Begun (IsDesig anywhere d a) ts s
    desig (g.named {t = t} {ts = ts} is fits more) s h = let q = selectors more s h in (t, ts, q.0, refl, q.1, g.named is refl q.2)

    selectors : {d : ℕ} {a : List Selector} {ts rest : List Token} → IsSelectors may d a ts rest → (s : List Token) → Other rest s → Moved (IsSelectors anywhere d a) ts s
    selectors g.no_selectors s h = (s, h, g.no_selectors)
    selectors (g.selected x more) s h = let q = selectors more s h in let p = selector x q.0 q.1 in (p.0, p.1, g.selected p.2 q.2)

    selector : {d : ℕ} {a : Selector} {ts rest : List Token} → IsSelector may d a ts rest → (s : List Token) → Other rest s → Moved (IsSelector anywhere d a) ts s
    selector (g.field {t = t} {u = u} {ts = ts} is fits name fit) s h = (t ∷ u ∷ s, there t (u ∷ ts) (u ∷ s) (there u ts s h), g.field is refl name refl)
    selector (g.index {t = t} {u = u} {ts = ts} {rest = rest} is fits all end fit) s h =
        let p = exprs all (u ∷ s) (there u rest s h) in (t ∷ p.0, there t ts p.0 p.1, g.index is refl p.2 end refl)
    selector (g.follow {t = t} {ts = ts} is fits) s h = (t ∷ s, there t ts s h, g.follow is refl)
    selector (g.applied {t = t} {ts = ts} is fits all) s h = let p = arguments all s h in (t ∷ p.0, there t ts p.0 p.1, g.applied is refl p.2)

    arguments : {d : ℕ} {a : List Expr} {ts rest : List Token} → IsArguments may d a ts rest → (s : List Token) → Other rest s → Moved (IsArguments anywhere d a) ts s
    arguments (g.no_arguments {t = t} {ts = ts} is fits) s h = (t ∷ s, there t ts s h, g.no_arguments is refl)
    arguments (g.arguments {t = t} {rest = rest} all end fit) s h = let p = exprs all (t ∷ s) (there t rest s h) in (p.0, p.1, g.arguments p.2 end refl)

    exprs : {d : ℕ} {a : List Expr} {ts rest : List Token} → IsExprs may d a ts rest → (s : List Token) → Other rest s → Moved (IsExprs anywhere d a) ts s
    exprs (g.exprs {d = d} {a = a} {ts = ts} x more) s h =
        let q = more_exprs more s h in let p = plain (IsExpr anywhere d a) ts q.0 (expr x q.0 q.1) in (p.0, p.1, g.exprs p.2 q.2)

    more_exprs : {d : ℕ} {a : List Expr} {ts rest : List Token} → IsMoreExprs may d a ts rest → (s : List Token) → Other rest s → Moved (IsMoreExprs anywhere d a) ts s
    more_exprs g.no_more_exprs s h = (s, h, g.no_more_exprs)
    more_exprs (g.another_expr {d = d} {a = a} {t = t} {ts = ts} is fits x more) s h =
        let q = more_exprs more s h in
        let p = plain (IsExpr anywhere d a) ts q.0 (expr x q.0 q.1) in
        (t ∷ p.0, there t ts p.0 p.1, g.another_expr is refl p.2 q.2)

module _ (may : Rule) (rest : List Token) where
  -- the end of a text in place of the rest
  abbrev Ends : List Token → List Token → Type 0
  Ends us vs = (front : List Token) × (us ≡ front ++ rest) × (vs ≡ front ++ (end_token ∷ []))

  further : (t : Token) (us vs : List Token) → Ends us vs → Ends (t ∷ us) (t ∷ vs)
  further t us vs h = (t ∷ h.0, ap (λ z. t ∷ z) h.1, ap (λ z. t ∷ z) h.2)

  ends : Ends rest (end_token ∷ [])
  ends = ([], refl, refl)

  -- both read one list of tokens up to the end
  one_list : (us us' vs vs' : List Token) → us ≡ us' → Ends us vs → Ends us' vs' → vs ≡ vs'
  one_list us us' vs vs' at h h' =
      let p = same_split h.0 h'.0 rest rest (sym h.1 ∙ at ∙ h'.1) refl in
      h.2 ∙ ap (λ z. z ++ (end_token ∷ [])) p.0 ∙ sym h'.2

  pub one_expr : {d : ℕ} {a b : Expr} {ts : List Token} → IsExpr may d a ts rest → IsExpr may d b ts rest → a ≡ b
  one_expr {d} {a} {b} {ts} x y =
      let p = plain may Ends further (IsExpr anywhere d a) ts (end_token ∷ []) (expr may Ends further x (end_token ∷ []) ends) in
      let q = plain may Ends further (IsExpr anywhere d b) ts (end_token ∷ []) (expr may Ends further y (end_token ∷ []) ends) in
      (unique_expr anywhere p.2 q.2 (one_list ts ts p.0 q.0 refl p.1 q.1) (lit< tt) (lit< tt)).0

  pub one_desig : {d : ℕ} {a b : Desig} {ts : List Token} → IsDesig may d a ts rest → IsDesig may d b ts rest → a ≡ b
  one_desig {d} {a} {b} {ts} x y =
      let p = plain may Ends further (IsDesig anywhere d a) ts (end_token ∷ []) (desig may Ends further x (end_token ∷ []) ends) in
      let q = plain may Ends further (IsDesig anywhere d b) ts (end_token ∷ []) (desig may Ends further y (end_token ∷ []) ends) in
      (unique_desig anywhere p.2 q.2 (one_list ts ts p.0 q.0 refl p.1 q.1) (lit< tt) (lit< tt)).0
