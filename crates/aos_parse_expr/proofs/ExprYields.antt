-- What the machine reads of an expression, the grammar reads; what can come in each symbol's place; and how nestings fall.
use Rattle.std.proofs.Common.{◌≡◌, ℕ, ◌+◌, ◌≤◌, List, [], ◌∷◌, length, Bool, true, false, Option, Some, None, refl, sym, subst, arith}
use Rattle.std.specs.Prelude.{⊤, ◌≢◌, IfSome, if◌then◌else◌, unwrap_or}
use Rattle.aos_scan.specs.declared.token.Token.{Token}
use Rattle.aos_scan.specs.declared.token.TokenKind.{TokenKind}
use Rattle.aos_scan.specs.declared.token.TokenKind.TheVariants as k
use Rattle.aos_tree.specs.declared.expr.RelationOp.{RelationOp}
use Rattle.aos_tree.specs.declared.expr.AddOp.{AddOp}
use Rattle.aos_tree.specs.declared.expr.MulOp.{MulOp}
use Rattle.aos_tree.specs.declared.expr.Sign.{Sign}
use Rattle.aos_tree.specs.declared.expr.Expr.{Expr}
use Rattle.aos_tree.specs.declared.expr.Simple.{Simple}
use Rattle.aos_tree.specs.declared.expr.Addition.{Addition}
use Rattle.aos_tree.specs.declared.expr.Term.{Term}
use Rattle.aos_tree.specs.declared.expr.Product.{Product}
use Rattle.aos_tree.specs.declared.expr.Factor.{Factor}
use Rattle.aos_tree.specs.declared.expr.Elem.{Elem}
use Rattle.aos_tree.specs.declared.expr.Desig.{Desig}
use Rattle.aos_tree.specs.declared.expr.Selector.{Selector}
use Rattle.aos_tree.specs.Nesting.{Rule}
use Rattle.aos_tree.specs.Operators.{relation_of, addition_of, product_of, sign_of}
use Rattle.aos_tree.specs.ExprGrammar as g
use Rattle.aos_tree.specs.ExprGrammar.{IsExpr, IsSimple, IsAdditions, IsTerm, IsProducts, IsFactor, IsMembers, IsElems, IsMoreElems, IsElem, IsDesig, IsSelectors, IsSelector, IsArguments, IsExprs, IsMoreExprs}
use Rattle.aos_parse_expr.specs.Symbols as m
use Rattle.aos_parse_expr.specs.Symbols.{Sym, Stack, Move, onward, by_operator, by_sign}
use Rattle.aos_parse_expr.proofs.Words.{same_code, tok_is}
use Rattle.aos_parse_expr.proofs.Yields as y
use Rattle.aos_parse_expr.proofs.Yields.{split, Free}
use Rattle.aos_parse_expr.proofs.Falling as falling

pub data Yields (may : Rule) : Sym → List Token → List Token → Type 0 where
  a_tok : {d : ℕ} {c : TokenKind} {t : Token} {rest : List Token} → t.kind ≡ c → may d rest ≡ true → Yields may (m.tok d c) (t ∷ rest) rest
  an_expr : {d : ℕ} {a : Expr} {ts rest : List Token} → IsExpr may d a ts rest → Yields may (m.expr d) ts rest
  no_relation : {d : ℕ} {ts : List Token} → Yields may (m.relation d) ts ts
  a_relation : {d : ℕ} {a : Simple} {op : RelationOp} {t : Token} {ts rest : List Token} → relation_of t.kind ≡ Some op → may d ts ≡ true → IsSimple may d a ts rest → Yields may (m.relation d) (t ∷ ts) rest
  a_simple : {d : ℕ} {a : Simple} {ts rest : List Token} → IsSimple may d a ts rest → Yields may (m.simple d) ts rest
  some_additions : {d : ℕ} {a : List Addition} {ts rest : List Token} → IsAdditions may d a ts rest → Yields may (m.additions d) ts rest
  a_term : {d : ℕ} {a : Term} {ts rest : List Token} → IsTerm may d a ts rest → Yields may (m.term d) ts rest
  some_products : {d : ℕ} {a : List Product} {ts rest : List Token} → IsProducts may d a ts rest → Yields may (m.products d) ts rest
  a_factor : {d : ℕ} {a : Factor} {ts rest : List Token} → IsFactor may d a ts rest → Yields may (m.factor d) ts rest
  some_members : {d : ℕ} {a : List Elem} {ts rest : List Token} → IsMembers may d a ts rest → Yields may (m.members d) ts rest
  some_elems : {d : ℕ} {a : List Elem} {ts rest : List Token} → IsElems may d a ts rest → Yields may (m.elems d) ts rest
  some_more_elems : {d : ℕ} {a : List Elem} {ts rest : List Token} → IsMoreElems may d a ts rest → Yields may (m.more_elems d) ts rest
  an_elem : {d : ℕ} {a : Elem} {ts rest : List Token} → IsElem may d a ts rest → Yields may (m.elem d) ts rest
  no_upper : {d : ℕ} {ts : List Token} → Yields may (m.upper d) ts ts
  an_upper : {d : ℕ} {a : Expr} {t : Token} {ts rest : List Token} → t.kind ≡ k.Range → may d ts ≡ true → IsExpr may d a ts rest → Yields may (m.upper d) (t ∷ ts) rest
  a_desig : {d : ℕ} {a : Desig} {ts rest : List Token} → IsDesig may d a ts rest → Yields may (m.desig d) ts rest
  some_selectors : {d : ℕ} {a : List Selector} {ts rest : List Token} → IsSelectors may d a ts rest → Yields may (m.selectors d) ts rest
  a_selector : {d : ℕ} {a : Selector} {ts rest : List Token} → IsSelector may d a ts rest → Yields may (m.selector d) ts rest
  some_arguments : {d : ℕ} {a : List Expr} {ts rest : List Token} → IsArguments may d a ts rest → Yields may (m.arguments d) ts rest
  some_exprs : {d : ℕ} {a : List Expr} {ts rest : List Token} → IsExprs may d a ts rest → Yields may (m.exprs d) ts rest
  some_more_exprs : {d : ℕ} {a : List Expr} {ts rest : List Token} → IsMoreExprs may d a ts rest → Yields may (m.more_exprs d) ts rest

module _ (may : Rule) where
  abbrev All : Stack → List Token → List Token → Type 0
  All xs ts rest = y.All (Yields may) xs ts rest

  -- a move from x is by its production
  abbrev Sound : Sym → Token → List Token → List Token → Move → Type 0
  Sound x t ts rest move = IfSome move (λ p. may p.0 ts ≡ true → y.All (Yields may) p.1 ts rest → Yields may x (t ∷ ts) rest)

  onwards : (x z : Sym) (t : Token) (ts rest : List Token) (move : Move) (xs : Stack) → ((mid : List Token) → Sound x t ts mid move) →
      ((mid : List Token) → Yields may x (t ∷ ts) mid → All xs mid rest → Yields may z (t ∷ ts) rest) → Sound z t ts rest (onward move xs)
  onwards x z t ts rest None xs sound joined = tt
  onwards x z t ts rest (Some p) xs sound joined = λ fits all. let s = split p.1 all in joined s.0 (sound s.0 fits s.1) s.2

  operators : {A : Type 0} (z : Sym) (t : Token) (ts rest : List Token) (q : Option A) (d : ℕ) (xs : Stack) →
      ((op : A) → q ≡ Some op → may d ts ≡ true → All xs ts rest → Yields may z (t ∷ ts) rest) → Sound z t ts rest (by_operator q d xs)
  operators z t ts rest None d xs joined = tt
  operators z t ts rest (Some op) d xs joined = joined op refl

  factor_ident : {d : ℕ} {t : Token} {ts rest : List Token} → t.kind ≡ k.Ident → may (d + 1) ts ≡ true → All (m.selectors (d + 1) ∷ []) ts rest → Yields may (m.factor d) (t ∷ ts) rest
  factor_ident is fits (y.next (some_selectors s) y.done) = a_factor (g.desig (g.named is fits s))

  factor_number : {d : ℕ} {t : Token} {ts rest : List Token} → t.kind ≡ k.Number → may (d + 1) ts ≡ true → All [] ts rest → Yields may (m.factor d) (t ∷ ts) rest
  factor_number is fits y.done = a_factor (g.number is fits)

  factor_char : {d : ℕ} {t : Token} {ts rest : List Token} → t.kind ≡ k.Char → may (d + 1) ts ≡ true → All [] ts rest → Yields may (m.factor d) (t ∷ ts) rest
  factor_char is fits y.done = a_factor (g.char is fits)

  factor_text : {d : ℕ} {t : Token} {ts rest : List Token} → t.kind ≡ k.Text → may (d + 1) ts ≡ true → All [] ts rest → Yields may (m.factor d) (t ∷ ts) rest
  factor_text is fits y.done = a_factor (g.text is fits)

  factor_nil : {d : ℕ} {t : Token} {ts rest : List Token} → t.kind ≡ k.KwNil → may (d + 1) ts ≡ true → All [] ts rest → Yields may (m.factor d) (t ∷ ts) rest
  factor_nil is fits y.done = a_factor (g.nil is fits)

  factor_set : {d : ℕ} {t : Token} {ts rest : List Token} → t.kind ≡ k.OpenBrace → may (d + 1) ts ≡ true → All (m.members (d + 1) ∷ []) ts rest → Yields may (m.factor d) (t ∷ ts) rest
  factor_set is fits (y.next (some_members s) y.done) = a_factor (g.set is fits s)

  factor_paren : {d : ℕ} {t : Token} {ts rest : List Token} → t.kind ≡ k.OpenParen → may (d + 1) ts ≡ true → All (m.expr (d + 1) ∷ m.tok (d + 1) k.CloseParen ∷ []) ts rest → Yields may (m.factor d) (t ∷ ts) rest
  factor_paren is fits (y.next (an_expr x) (y.next (a_tok end fit) y.done)) = a_factor (g.paren is fits x end fit)

  factor_not : {d : ℕ} {t : Token} {ts rest : List Token} → t.kind ≡ k.Tilde → may (d + 1) ts ≡ true → All (m.factor (d + 1) ∷ []) ts rest → Yields may (m.factor d) (t ∷ ts) rest
  factor_not is fits (y.next (a_factor x) y.done) = a_factor (g.not is fits x)

  sound_factor : (d : ℕ) (t : Token) (ts rest : List Token) (c : TokenKind) → t.kind ≡ c → Sound (m.factor d) t ts rest (m.after_factor d c)
  sound_factor d t ts rest k.Ident is = factor_ident is
  sound_factor d t ts rest k.Number is = factor_number is
  sound_factor d t ts rest k.Char is = factor_char is
  sound_factor d t ts rest k.Text is = factor_text is
  sound_factor d t ts rest k.KwNil is = factor_nil is
  sound_factor d t ts rest k.OpenBrace is = factor_set is
  sound_factor d t ts rest k.OpenParen is = factor_paren is
  sound_factor d t ts rest k.Tilde is = factor_not is
  sound_factor d t ts rest _ is = tt

  join_term : {d : ℕ} {t : Token} {us mid rest : List Token} → Yields may (m.factor d) (t ∷ us) mid → All (m.products d ∷ []) mid rest → Yields may (m.term d) (t ∷ us) rest
  join_term (a_factor x) (y.next (some_products xs) y.done) = a_term (g.term x xs)

  sound_term : (d : ℕ) (t : Token) (ts rest : List Token) (c : TokenKind) → t.kind ≡ c → Sound (m.term d) t ts rest (m.after_term d c)
  sound_term d t ts rest c is = onwards (m.factor d) (m.term d) t ts rest (m.after_factor d c) (m.products d ∷ []) (λ mid. sound_factor d t ts mid c is) (λ mid z all. join_term z all)

  join_simple : {d : ℕ} {t : Token} {us mid rest : List Token} → Yields may (m.term d) (t ∷ us) mid → All (m.additions d ∷ []) mid rest → Yields may (m.simple d) (t ∷ us) rest
  join_simple (a_term x) (y.next (some_additions xs) y.done) = a_simple (g.unsigned x xs)

  simple_signed : {d : ℕ} {t : Token} {ts rest : List Token} {s : Sign} → sign_of t.kind ≡ Some s → may d ts ≡ true → All (m.term d ∷ m.additions d ∷ []) ts rest → Yields may (m.simple d) (t ∷ ts) rest
  simple_signed is fits (y.next (a_term x) (y.next (some_additions xs) y.done)) = a_simple (g.signed is fits x xs)

  signs : (d : ℕ) (t : Token) (ts rest : List Token) (q : Option Sign) (other : Move) → sign_of t.kind ≡ q → Sound (m.simple d) t ts rest other → Sound (m.simple d) t ts rest (by_sign q d (m.term d ∷ m.additions d ∷ []) other)
  signs d t ts rest None other is sound = sound
  signs d t ts rest (Some s) other is sound = simple_signed is

  sound_simple : (d : ℕ) (t : Token) (ts rest : List Token) → Sound (m.simple d) t ts rest (m.after_simple d t.kind)
  sound_simple d t ts rest =
      signs d t ts rest (sign_of t.kind) (onward (m.after_term d t.kind) (m.additions d ∷ [])) refl
      (onwards (m.term d) (m.simple d) t ts rest (m.after_term d t.kind) (m.additions d ∷ []) (λ mid. sound_term d t ts mid t.kind refl) (λ mid z all. join_simple z all))

  join_expr : {d : ℕ} {t : Token} {us mid rest : List Token} → Yields may (m.simple (d + 1)) (t ∷ us) mid → All (m.relation (d + 1) ∷ []) mid rest → Yields may (m.expr d) (t ∷ us) rest
  join_expr (a_simple x) (y.next no_relation y.done) = an_expr (g.alone x)
  join_expr (a_simple x) (y.next (a_relation is fits z) y.done) = an_expr (g.related x is fits z)

  sound_expr : (d : ℕ) (t : Token) (ts rest : List Token) → Sound (m.expr d) t ts rest (m.after_expr d t.kind)
  sound_expr d t ts rest = onwards (m.simple (d + 1)) (m.expr d) t ts rest (m.after_simple (d + 1) t.kind) (m.relation (d + 1) ∷ []) (λ mid. sound_simple (d + 1) t ts mid) (λ mid z all. join_expr z all)

  join_exprs : {d : ℕ} {us mid rest : List Token} → Yields may (m.expr d) us mid → All (m.more_exprs d ∷ []) mid rest → Yields may (m.exprs d) us rest
  join_exprs (an_expr x) (y.next (some_more_exprs xs) y.done) = some_exprs (g.exprs x xs)

  sound_exprs : (d : ℕ) (t : Token) (ts rest : List Token) → Sound (m.exprs d) t ts rest (m.after_exprs d t.kind)
  sound_exprs d t ts rest = onwards (m.expr d) (m.exprs d) t ts rest (m.after_expr d t.kind) (m.more_exprs d ∷ []) (λ mid. sound_expr d t ts mid) (λ mid z all. join_exprs z all)

  join_elem : {d : ℕ} {us mid rest : List Token} → Yields may (m.expr d) us mid → All (m.upper d ∷ []) mid rest → Yields may (m.elem d) us rest
  join_elem (an_expr x) (y.next no_upper y.done) = an_elem (g.single x)
  join_elem (an_expr x) (y.next (an_upper is fits z) y.done) = an_elem (g.range x is fits z)

  sound_elem : (d : ℕ) (t : Token) (ts rest : List Token) → Sound (m.elem d) t ts rest (m.after_elem d t.kind)
  sound_elem d t ts rest = onwards (m.expr d) (m.elem d) t ts rest (m.after_expr d t.kind) (m.upper d ∷ []) (λ mid. sound_expr d t ts mid) (λ mid z all. join_elem z all)

  join_elems : {d : ℕ} {us mid rest : List Token} → Yields may (m.elem d) us mid → All (m.more_elems d ∷ []) mid rest → Yields may (m.elems d) us rest
  join_elems (an_elem x) (y.next (some_more_elems xs) y.done) = some_elems (g.elems x xs)

  sound_elems : (d : ℕ) (t : Token) (ts rest : List Token) → Sound (m.elems d) t ts rest (m.after_elems d t.kind)
  sound_elems d t ts rest = onwards (m.elem d) (m.elems d) t ts rest (m.after_elem d t.kind) (m.more_elems d ∷ []) (λ mid. sound_elem d t ts mid) (λ mid z all. join_elems z all)

  join_members : {d : ℕ} {us mid rest : List Token} → Yields may (m.elems d) us mid → All (m.tok d k.CloseBrace ∷ []) mid rest → Yields may (m.members d) us rest
  join_members (some_elems xs) (y.next (a_tok end fit) y.done) = some_members (g.members xs end fit)

  members_none : {d : ℕ} {t : Token} {ts rest : List Token} → t.kind ≡ k.CloseBrace → may d ts ≡ true → All [] ts rest → Yields may (m.members d) (t ∷ ts) rest
  members_none is fits y.done = some_members (g.no_members is fits)

  members_by : (d : ℕ) (t : Token) (ts rest : List Token) (c : TokenKind) → t.kind ≡ c → Sound (m.members d) t ts rest (onward (m.after_elems d c) (m.tok d k.CloseBrace ∷ [])) → Sound (m.members d) t ts rest (m.after_members d c)
  members_by d t ts rest k.CloseBrace is other = members_none is
  members_by d t ts rest _ is other = other

  sound_members : (d : ℕ) (t : Token) (ts rest : List Token) → Sound (m.members d) t ts rest (m.after_members d t.kind)
  sound_members d t ts rest = members_by d t ts rest t.kind refl
      (onwards (m.elems d) (m.members d) t ts rest (m.after_elems d t.kind) (m.tok d k.CloseBrace ∷ []) (λ mid. sound_elems d t ts mid) (λ mid z all. join_members z all))

  join_arguments : {d : ℕ} {us mid rest : List Token} → Yields may (m.exprs d) us mid → All (m.tok d k.CloseParen ∷ []) mid rest → Yields may (m.arguments d) us rest
  join_arguments (some_exprs xs) (y.next (a_tok end fit) y.done) = some_arguments (g.arguments xs end fit)

  arguments_none : {d : ℕ} {t : Token} {ts rest : List Token} → t.kind ≡ k.CloseParen → may d ts ≡ true → All [] ts rest → Yields may (m.arguments d) (t ∷ ts) rest
  arguments_none is fits y.done = some_arguments (g.no_arguments is fits)

  arguments_by : (d : ℕ) (t : Token) (ts rest : List Token) (c : TokenKind) → t.kind ≡ c → Sound (m.arguments d) t ts rest (onward (m.after_exprs d c) (m.tok d k.CloseParen ∷ [])) → Sound (m.arguments d) t ts rest (m.after_arguments d c)
  arguments_by d t ts rest k.CloseParen is other = arguments_none is
  arguments_by d t ts rest _ is other = other

  sound_arguments : (d : ℕ) (t : Token) (ts rest : List Token) → Sound (m.arguments d) t ts rest (m.after_arguments d t.kind)
  sound_arguments d t ts rest = arguments_by d t ts rest t.kind refl
      (onwards (m.exprs d) (m.arguments d) t ts rest (m.after_exprs d t.kind) (m.tok d k.CloseParen ∷ []) (λ mid. sound_exprs d t ts mid) (λ mid z all. join_arguments z all))

  relation_on : {d : ℕ} {t : Token} {ts rest : List Token} (op : RelationOp) → relation_of t.kind ≡ Some op → may d ts ≡ true → All (m.simple d ∷ []) ts rest → Yields may (m.relation d) (t ∷ ts) rest
  relation_on op is fits (y.next (a_simple x) y.done) = a_relation is fits x

  additions_on : {d : ℕ} {t : Token} {ts rest : List Token} (op : AddOp) → addition_of t.kind ≡ Some op → may d ts ≡ true → All (m.term d ∷ m.additions d ∷ []) ts rest → Yields may (m.additions d) (t ∷ ts) rest
  additions_on op is fits (y.next (a_term x) (y.next (some_additions xs) y.done)) = some_additions (g.addition is fits x xs)

  products_on : {d : ℕ} {t : Token} {ts rest : List Token} (op : MulOp) → product_of t.kind ≡ Some op → may d ts ≡ true → All (m.factor d ∷ m.products d ∷ []) ts rest → Yields may (m.products d) (t ∷ ts) rest
  products_on op is fits (y.next (a_factor x) (y.next (some_products xs) y.done)) = some_products (g.product is fits x xs)

  more_exprs_on : {d : ℕ} {t : Token} {ts rest : List Token} → t.kind ≡ k.Comma → may d ts ≡ true → All (m.expr d ∷ m.more_exprs d ∷ []) ts rest → Yields may (m.more_exprs d) (t ∷ ts) rest
  more_exprs_on is fits (y.next (an_expr x) (y.next (some_more_exprs xs) y.done)) = some_more_exprs (g.another_expr is fits x xs)

  sound_more_exprs : (d : ℕ) (t : Token) (ts rest : List Token) (c : TokenKind) → t.kind ≡ c → Sound (m.more_exprs d) t ts rest (m.after_more_exprs d c)
  sound_more_exprs d t ts rest k.Comma is = more_exprs_on is
  sound_more_exprs d t ts rest _ is = tt

  more_elems_on : {d : ℕ} {t : Token} {ts rest : List Token} → t.kind ≡ k.Comma → may d ts ≡ true → All (m.elem d ∷ m.more_elems d ∷ []) ts rest → Yields may (m.more_elems d) (t ∷ ts) rest
  more_elems_on is fits (y.next (an_elem x) (y.next (some_more_elems xs) y.done)) = some_more_elems (g.another_elem is fits x xs)

  sound_more_elems : (d : ℕ) (t : Token) (ts rest : List Token) (c : TokenKind) → t.kind ≡ c → Sound (m.more_elems d) t ts rest (m.after_more_elems d c)
  sound_more_elems d t ts rest k.Comma is = more_elems_on is
  sound_more_elems d t ts rest _ is = tt

  upper_on : {d : ℕ} {t : Token} {ts rest : List Token} → t.kind ≡ k.Range → may d ts ≡ true → All (m.expr d ∷ []) ts rest → Yields may (m.upper d) (t ∷ ts) rest
  upper_on is fits (y.next (an_expr x) y.done) = an_upper is fits x

  sound_upper : (d : ℕ) (t : Token) (ts rest : List Token) (c : TokenKind) → t.kind ≡ c → Sound (m.upper d) t ts rest (m.after_upper d c)
  sound_upper d t ts rest k.Range is = upper_on is
  sound_upper d t ts rest _ is = tt

  desig_on : {d : ℕ} {t : Token} {ts rest : List Token} → t.kind ≡ k.Ident → may d ts ≡ true → All (m.selectors d ∷ []) ts rest → Yields may (m.desig d) (t ∷ ts) rest
  desig_on is fits (y.next (some_selectors xs) y.done) = a_desig (g.named is fits xs)

  sound_desig : (d : ℕ) (t : Token) (ts rest : List Token) (c : TokenKind) → t.kind ≡ c → Sound (m.desig d) t ts rest (m.after_desig d c)
  sound_desig d t ts rest k.Ident is = desig_on is
  sound_desig d t ts rest _ is = tt

  field_on : {d : ℕ} {t : Token} {ts rest : List Token} → t.kind ≡ k.Period → may d ts ≡ true → All (m.tok d k.Ident ∷ []) ts rest → Yields may (m.selector d) (t ∷ ts) rest
  field_on is fits (y.next (a_tok end fit) y.done) = a_selector (g.field is fits end fit)

  index_on : {d : ℕ} {t : Token} {ts rest : List Token} → t.kind ≡ k.OpenBracket → may d ts ≡ true → All (m.exprs d ∷ m.tok d k.CloseBracket ∷ []) ts rest → Yields may (m.selector d) (t ∷ ts) rest
  index_on is fits (y.next (some_exprs xs) (y.next (a_tok end fit) y.done)) = a_selector (g.index is fits xs end fit)

  follow_on : {d : ℕ} {t : Token} {ts rest : List Token} → t.kind ≡ k.Caret → may d ts ≡ true → All [] ts rest → Yields may (m.selector d) (t ∷ ts) rest
  follow_on is fits y.done = a_selector (g.follow is fits)

  applied_on : {d : ℕ} {t : Token} {ts rest : List Token} → t.kind ≡ k.OpenParen → may d ts ≡ true → All (m.arguments d ∷ []) ts rest → Yields may (m.selector d) (t ∷ ts) rest
  applied_on is fits (y.next (some_arguments xs) y.done) = a_selector (g.applied is fits xs)

  sound_selector : (d : ℕ) (t : Token) (ts rest : List Token) (c : TokenKind) → t.kind ≡ c → Sound (m.selector d) t ts rest (m.after_selector d c)
  sound_selector d t ts rest k.Period is = field_on is
  sound_selector d t ts rest k.OpenBracket is = index_on is
  sound_selector d t ts rest k.Caret is = follow_on is
  sound_selector d t ts rest k.OpenParen is = applied_on is
  sound_selector d t ts rest _ is = tt

  join_selectors : {d : ℕ} {us mid rest : List Token} → Yields may (m.selector d) us mid → All (m.selectors d ∷ []) mid rest → Yields may (m.selectors d) us rest
  join_selectors (a_selector x) (y.next (some_selectors xs) y.done) = some_selectors (g.selected x xs)

  tok_done : {d : ℕ} {want : TokenKind} {t : Token} {ts rest : List Token} → t.kind ≡ want → may d ts ≡ true → All [] ts rest → Yields may (m.tok d want) (t ∷ ts) rest
  tok_done is fits y.done = a_tok is fits

  sound_tok : (d : ℕ) (want : TokenKind) (t : Token) (ts rest : List Token) (same : Bool) → (same ≡ true → t.kind ≡ want) → Sound (m.tok d want) t ts rest (if same then Some (d, []) else None)
  sound_tok d want t ts rest false is = tt
  sound_tok d want t ts rest true is = λ fits all. tok_done (is refl) fits all

  sound_at : (x : Sym) (t : Token) (ts rest : List Token) → Sound x t ts rest (m.after x t.kind)
  sound_at (m.tok d want) t ts rest = sound_tok d want t ts rest _ (λ h. sym (same_code want t.kind h))
  sound_at (m.expr d) t ts rest = sound_expr d t ts rest
  sound_at (m.relation d) t ts rest = operators (m.relation d) t ts rest (relation_of t.kind) d (m.simple d ∷ []) (λ op is fits all. relation_on op is fits all)
  sound_at (m.simple d) t ts rest = sound_simple d t ts rest
  sound_at (m.additions d) t ts rest = operators (m.additions d) t ts rest (addition_of t.kind) d (m.term d ∷ m.additions d ∷ []) (λ op is fits all. additions_on op is fits all)
  sound_at (m.term d) t ts rest = sound_term d t ts rest t.kind refl
  sound_at (m.products d) t ts rest = operators (m.products d) t ts rest (product_of t.kind) d (m.factor d ∷ m.products d ∷ []) (λ op is fits all. products_on op is fits all)
  sound_at (m.factor d) t ts rest = sound_factor d t ts rest t.kind refl
  sound_at (m.members d) t ts rest = sound_members d t ts rest
  sound_at (m.elems d) t ts rest = sound_elems d t ts rest
  sound_at (m.more_elems d) t ts rest = sound_more_elems d t ts rest t.kind refl
  sound_at (m.elem d) t ts rest = sound_elem d t ts rest
  sound_at (m.upper d) t ts rest = sound_upper d t ts rest t.kind refl
  sound_at (m.desig d) t ts rest = sound_desig d t ts rest t.kind refl
  sound_at (m.selectors d) t ts rest = onwards (m.selector d) (m.selectors d) t ts rest (m.after_selector d t.kind) (m.selectors d ∷ []) (λ mid. sound_selector d t ts mid t.kind refl) (λ mid z all. join_selectors z all)
  sound_at (m.selector d) t ts rest = sound_selector d t ts rest t.kind refl
  sound_at (m.arguments d) t ts rest = sound_arguments d t ts rest
  sound_at (m.exprs d) t ts rest = sound_exprs d t ts rest
  sound_at (m.more_exprs d) t ts rest = sound_more_exprs d t ts rest t.kind refl

pub sound : y.Sound m.table Yields
sound may x t ts rest p is fits all =
    let s : IfSome (Some p) (λ q. may q.0 ts ≡ true → y.All (Yields may) q.1 ts rest → Yields may x (t ∷ ts) rest) =
    subst (λ move. IfSome move (λ q. may q.0 ts ≡ true → y.All (Yields may) q.1 ts rest → Yields may x (t ∷ ts) rest)) is (sound_at may x t ts rest) in
    s fits all

pub empty : y.Empty m.table Yields
empty may (m.relation d) need us = no_relation
empty may (m.additions d) need us = some_additions g.no_additions
empty may (m.products d) need us = some_products g.no_products
empty may (m.more_elems d) need us = some_more_elems g.no_more_elems
empty may (m.upper d) need us = no_upper
empty may (m.selectors d) need us = some_selectors g.no_selectors
empty may (m.more_exprs d) need us = some_more_exprs g.no_more_exprs
empty may _ need us = absurd (cc)

-- what can come in a symbol's place, with the least nesting first
abbrev token : TokenKind → Token
token c = record { kind = c; start = 0; end = 0; pos = record { line = 0; col = 0 }; value = Rattle.std.specs.Prelude.pos 0 }

a_number : (may : Rule) (d : ℕ) (rest : List Token) → may (d + 1) rest ≡ true → (a : Term) × IsTerm may d a (token k.Number ∷ rest) rest
a_number may d rest fits = (_, g.term (g.number refl fits) g.no_products)

minus_one : (may : Rule) (d : ℕ) (rest : List Token) → may d (token k.Number ∷ rest) ≡ true → may (d + 1) rest ≡ true → (a : Simple) × IsSimple may d a (token k.Minus ∷ (token k.Number ∷ rest)) rest
minus_one may d rest sign fits = (_, g.signed refl sign (a_number may d rest fits).1 g.no_additions)

negative : (may : Rule) (d : ℕ) (rest : List Token) → may (d + 1) (token k.Number ∷ rest) ≡ true → Free may (length (token k.Number ∷ rest)) → (a : Expr) × IsExpr may d a (token k.Minus ∷ (token k.Number ∷ rest)) rest
negative may d rest sign free = (_, g.alone (minus_one may (d + 1) rest sign (free (d + 1 + 1) rest (omega arith))).1)

sample_at : (x : Sym) (n : ℕ) → m.needs x ≡ Some n → y.Sample m.table Yields x n
sample_at (m.tok d c) n need = (token c, [], λ may rest fits free. a_tok refl (subst (λ q. may q rest ≡ true) (let a : n ≡ d = cc in a) fits))
sample_at (m.expr d) n need = (token k.Minus, token k.Number ∷ [], λ may rest fits free. an_expr (negative may d rest (subst (λ q. may q (token k.Number ∷ rest) ≡ true) (let a : n ≡ d + 1 = cc in a) fits) free).1)
sample_at (m.simple d) n need = (token k.Minus, token k.Number ∷ [], λ may rest fits free. a_simple (minus_one may d rest (subst (λ q. may q (token k.Number ∷ rest) ≡ true) (let a : n ≡ d = cc in a) fits) (free (d + 1) rest (omega arith))).1)
sample_at (m.term d) n need = (token k.Number, [], λ may rest fits free. a_term (a_number may d rest (subst (λ q. may q rest ≡ true) (let a : n ≡ d + 1 = cc in a) fits)).1)
sample_at (m.factor d) n need = (token k.Number, [], λ may rest fits free. a_factor (g.number refl (subst (λ q. may q rest ≡ true) (let a : n ≡ d + 1 = cc in a) fits)))
sample_at (m.members d) n need = (token k.CloseBrace, [], λ may rest fits free. some_members (g.no_members refl (subst (λ q. may q rest ≡ true) (let a : n ≡ d = cc in a) fits)))
sample_at (m.elems d) n need = (token k.Minus, token k.Number ∷ [], λ may rest fits free. some_elems (g.elems (g.single (negative may d rest (subst (λ q. may q (token k.Number ∷ rest) ≡ true) (let a : n ≡ d + 1 = cc in a) fits) free).1) g.no_more_elems))
sample_at (m.elem d) n need = (token k.Minus, token k.Number ∷ [], λ may rest fits free. an_elem (g.single (negative may d rest (subst (λ q. may q (token k.Number ∷ rest) ≡ true) (let a : n ≡ d + 1 = cc in a) fits) free).1))
sample_at (m.desig d) n need = (token k.Ident, [], λ may rest fits free. a_desig (g.named refl (subst (λ q. may q rest ≡ true) (let a : n ≡ d = cc in a) fits) g.no_selectors))
sample_at (m.selector d) n need = (token k.Caret, [], λ may rest fits free. a_selector (g.follow refl (subst (λ q. may q rest ≡ true) (let a : n ≡ d = cc in a) fits)))
sample_at (m.arguments d) n need = (token k.CloseParen, [], λ may rest fits free. some_arguments (g.no_arguments refl (subst (λ q. may q rest ≡ true) (let a : n ≡ d = cc in a) fits)))
sample_at (m.exprs d) n need = (token k.Minus, token k.Number ∷ [], λ may rest fits free. some_exprs (g.exprs (negative may d rest (subst (λ q. may q (token k.Number ∷ rest) ≡ true) (let a : n ≡ d + 1 = cc in a) fits) free).1 g.no_more_exprs))
sample_at (m.relation d) n need = absurd (cc)
sample_at (m.additions d) n need = absurd (cc)
sample_at (m.products d) n need = absurd (cc)
sample_at (m.more_elems d) n need = absurd (cc)
sample_at (m.upper d) n need = absurd (cc)
sample_at (m.selectors d) n need = absurd (cc)
sample_at (m.more_exprs d) n need = absurd (cc)

pub sample : (x : Sym) (n : ℕ) → m.needs x ≡ Some n → y.Sample m.table Yields x n
sample x n need = sample_at x n need

pub only_takes : (c : TokenKind) → m.after (m.tok 0 c) c ≡ Some (0, [])
only_takes c = tok_is 0 c c refl

-- the nesting that is open round a symbol
abbrev pub depth_of : Sym → ℕ
depth_of (m.tok d c) = d
depth_of (m.expr d) = d
depth_of (m.relation d) = d
depth_of (m.simple d) = d
depth_of (m.additions d) = d
depth_of (m.term d) = d
depth_of (m.products d) = d
depth_of (m.factor d) = d
depth_of (m.members d) = d
depth_of (m.elems d) = d
depth_of (m.more_elems d) = d
depth_of (m.elem d) = d
depth_of (m.upper d) = d
depth_of (m.desig d) = d
depth_of (m.selectors d) = d
depth_of (m.selector d) = d
depth_of (m.arguments d) = d
depth_of (m.exprs d) = d
depth_of (m.more_exprs d) = d

abbrev FallsTo : ℕ → Stack → Type 0
FallsTo d xs = falling.FallsTo m.table depth_of d xs

-- a move at n or deeper, whose symbols fall to d
abbrev Falls : ℕ → ℕ → Move → Type 0
Falls n d move = IfSome move (λ p. (n ≤ p.0) × FallsTo d p.1)

falls_onward : (n d l : ℕ) (move : Move) (xs : Stack) → l ≤ n → Falls n d move → FallsTo l xs → falling.first_or m.table depth_of l xs ≤ d → Falls l l (onward move xs)
falls_onward n d l None xs le f h g' = tt
falls_onward n d l (Some p) xs le f h g' = let a : n ≤ p.0 = f.0 in (omega arith, falling.falls_on m.table depth_of l d p.1 xs f.1 h g')

-- the same, at the deeper nesting
falls_deep : (n d l : ℕ) (move : Move) (xs : Stack) → Falls n d move → FallsTo l xs → falling.first_or m.table depth_of l xs ≤ d → Falls n l (onward move xs)
falls_deep n d l None xs f h g' = tt
falls_deep n d l (Some p) xs f h g' = (f.0, falling.falls_on m.table depth_of l d p.1 xs f.1 h g')

falls_operator : {A : Type 0} (q : Option A) (d : ℕ) (xs : Stack) → FallsTo d xs → Falls d d (by_operator q d xs)
falls_operator None d xs h = tt
falls_operator (Some op) d xs h = (omega arith, h)

falls_sign : {A : Type 0} (q : Option A) (d : ℕ) (xs : Stack) (other : Move) → FallsTo d xs → Falls d d other → Falls d d (by_sign q d xs other)
falls_sign None d xs other h f = f
falls_sign (Some s) d xs other h f = (omega arith, h)

falls_factor : (d : ℕ) (c : TokenKind) → Falls (d + 1) d (m.after_factor d c)
falls_factor d k.Ident = (omega arith, (omega arith, tt))
falls_factor d k.Number = (omega arith, tt)
falls_factor d k.Char = (omega arith, tt)
falls_factor d k.Text = (omega arith, tt)
falls_factor d k.KwNil = (omega arith, tt)
falls_factor d k.OpenBrace = (omega arith, (omega arith, tt))
falls_factor d k.OpenParen = (omega arith, (omega arith, (omega arith, tt)))
falls_factor d k.Tilde = (omega arith, (omega arith, tt))
falls_factor d _ = tt

falls_term : (d : ℕ) (c : TokenKind) → Falls (d + 1) d (m.after_term d c)
falls_term d c = falls_deep (d + 1) d d (m.after_factor d c) (m.products d ∷ []) (falls_factor d c) (omega arith, tt) (omega arith)

falls_simple : (d : ℕ) (c : TokenKind) → Falls d d (m.after_simple d c)
falls_simple d c = falls_sign (sign_of c) d (m.term d ∷ m.additions d ∷ []) (onward (m.after_term d c) (m.additions d ∷ [])) (omega arith, (omega arith, tt))
    (falls_onward (d + 1) d d (m.after_term d c) (m.additions d ∷ []) (omega arith) (falls_term d c) (omega arith, tt) (omega arith))

falls_expr : (d : ℕ) (c : TokenKind) → Falls (d + 1) d (m.after_expr d c)
falls_expr d c = falls_deep (d + 1) (d + 1) d (m.after_simple (d + 1) c) (m.relation (d + 1) ∷ []) (falls_simple (d + 1) c) (omega arith, tt) (omega arith)

falls_exprs : (d : ℕ) (c : TokenKind) → Falls (d + 1) d (m.after_exprs d c)
falls_exprs d c = falls_deep (d + 1) d d (m.after_expr d c) (m.more_exprs d ∷ []) (falls_expr d c) (omega arith, tt) (omega arith)

falls_elem : (d : ℕ) (c : TokenKind) → Falls (d + 1) d (m.after_elem d c)
falls_elem d c = falls_deep (d + 1) d d (m.after_expr d c) (m.upper d ∷ []) (falls_expr d c) (omega arith, tt) (omega arith)

falls_elems : (d : ℕ) (c : TokenKind) → Falls (d + 1) d (m.after_elems d c)
falls_elems d c = falls_deep (d + 1) d d (m.after_elem d c) (m.more_elems d ∷ []) (falls_elem d c) (omega arith, tt) (omega arith)

members_falls : (d : ℕ) (c : TokenKind) → Falls d d (onward (m.after_elems d c) (m.tok d k.CloseBrace ∷ [])) → Falls d d (m.after_members d c)
members_falls d k.CloseBrace h = (omega arith, tt)
members_falls d _ h = h

falls_members : (d : ℕ) (c : TokenKind) → Falls d d (m.after_members d c)
falls_members d c = members_falls d c (falls_onward (d + 1) d d (m.after_elems d c) (m.tok d k.CloseBrace ∷ []) (omega arith) (falls_elems d c) (omega arith, tt) (omega arith))

arguments_falls : (d : ℕ) (c : TokenKind) → Falls d d (onward (m.after_exprs d c) (m.tok d k.CloseParen ∷ [])) → Falls d d (m.after_arguments d c)
arguments_falls d k.CloseParen h = (omega arith, tt)
arguments_falls d _ h = h

falls_arguments : (d : ℕ) (c : TokenKind) → Falls d d (m.after_arguments d c)
falls_arguments d c = arguments_falls d c (falls_onward (d + 1) d d (m.after_exprs d c) (m.tok d k.CloseParen ∷ []) (omega arith) (falls_exprs d c) (omega arith, tt) (omega arith))

falls_more_exprs : (d : ℕ) (c : TokenKind) → Falls d d (m.after_more_exprs d c)
falls_more_exprs d k.Comma = (omega arith, (omega arith, (omega arith, tt)))
falls_more_exprs d _ = tt

falls_more_elems : (d : ℕ) (c : TokenKind) → Falls d d (m.after_more_elems d c)
falls_more_elems d k.Comma = (omega arith, (omega arith, (omega arith, tt)))
falls_more_elems d _ = tt

falls_upper : (d : ℕ) (c : TokenKind) → Falls d d (m.after_upper d c)
falls_upper d k.Range = (omega arith, (omega arith, tt))
falls_upper d _ = tt

falls_desig : (d : ℕ) (c : TokenKind) → Falls d d (m.after_desig d c)
falls_desig d k.Ident = (omega arith, (omega arith, tt))
falls_desig d _ = tt

falls_selector : (d : ℕ) (c : TokenKind) → Falls d d (m.after_selector d c)
falls_selector d k.Period = (omega arith, (omega arith, tt))
falls_selector d k.OpenBracket = (omega arith, (omega arith, (omega arith, tt)))
falls_selector d k.Caret = (omega arith, tt)
falls_selector d k.OpenParen = (omega arith, (omega arith, tt))
falls_selector d _ = tt

falls_tok : (d : ℕ) (same : Bool) → Falls d d (if same then Some (d, []) else None)
falls_tok d true = (omega arith, tt)
falls_tok d false = tt

-- the least nesting of a token in a symbol's place
abbrev least : Sym → ℕ
least x = unwrap_or (m.needs x) (depth_of x)

falls_at : (x : Sym) (c : TokenKind) → Falls (least x) (depth_of x) (m.after x c)
falls_at (m.tok d want) c = falls_tok d _
falls_at (m.expr d) c = falls_expr d c
falls_at (m.relation d) c = falls_operator (relation_of c) d (m.simple d ∷ []) (omega arith, tt)
falls_at (m.simple d) c = falls_simple d c
falls_at (m.additions d) c = falls_operator (addition_of c) d (m.term d ∷ m.additions d ∷ []) (omega arith, (omega arith, tt))
falls_at (m.term d) c = falls_term d c
falls_at (m.products d) c = falls_operator (product_of c) d (m.factor d ∷ m.products d ∷ []) (omega arith, (omega arith, tt))
falls_at (m.factor d) c = falls_factor d c
falls_at (m.members d) c = falls_members d c
falls_at (m.elems d) c = falls_elems d c
falls_at (m.more_elems d) c = falls_more_elems d c
falls_at (m.elem d) c = falls_elem d c
falls_at (m.upper d) c = falls_upper d c
falls_at (m.desig d) c = falls_desig d c
falls_at (m.selectors d) c = falls_deep d d d (m.after_selector d c) (m.selectors d ∷ []) (falls_selector d c) (omega arith, tt) (omega arith)
falls_at (m.selector d) c = falls_selector d c
falls_at (m.arguments d) c = falls_arguments d c
falls_at (m.exprs d) c = falls_exprs d c
falls_at (m.more_exprs d) c = falls_more_exprs d c

least_depth : (x : Sym) → depth_of x ≤ least x
least_depth (m.tok d c) = omega arith
least_depth (m.expr d) = omega arith
least_depth (m.relation d) = omega arith
least_depth (m.simple d) = omega arith
least_depth (m.additions d) = omega arith
least_depth (m.term d) = omega arith
least_depth (m.products d) = omega arith
least_depth (m.factor d) = omega arith
least_depth (m.members d) = omega arith
least_depth (m.elems d) = omega arith
least_depth (m.more_elems d) = omega arith
least_depth (m.elem d) = omega arith
least_depth (m.upper d) = omega arith
least_depth (m.desig d) = omega arith
least_depth (m.selectors d) = omega arith
least_depth (m.selector d) = omega arith
least_depth (m.arguments d) = omega arith
least_depth (m.exprs d) = omega arith
least_depth (m.more_exprs d) = omega arith

falls_for : (x : Sym) (c : TokenKind) (p : ℕ × Stack) → m.after x c ≡ Some p → (least x ≤ p.0) × FallsTo (depth_of x) p.1
falls_for x c p is = subst (λ move. Falls (least x) (depth_of x) move) is (falls_at x c)

pub low : (x : Sym) (c : TokenKind) (p : ℕ × Stack) → m.after x c ≡ Some p → depth_of x ≤ p.0
low x c p is = let a : least x ≤ p.0 = (falls_for x c p is).0 in let b : depth_of x ≤ least x = least_depth x in omega arith

pub floor : (x : Sym) (c : TokenKind) (p : ℕ × Stack) (n : ℕ) → m.after x c ≡ Some p → m.needs x ≡ Some n → n ≤ p.0
floor x c p n is need = subst (λ q. unwrap_or q (depth_of x) ≤ p.0) need (falls_for x c p is).0

pub falls : (x : Sym) (c : TokenKind) (p : ℕ × Stack) → m.after x c ≡ Some p → FallsTo (depth_of x) p.1
falls x c p is = (falls_for x c p is).1
