-- Each production of an expression at its first token.
use Rattle.std.proofs.Common.{◌≡◌, ℕ, ◌+◌, ◌++◌, List, [], ◌∷◌, true, false, Option, Some, None, refl, sym, ap, ◌∙◌, append_assoc, ◌⊎◌, inl, inr}
use Rattle.std.specs.Prelude.{◌≢◌}
use Rattle.aos_scan.specs.declared.token.Token.{Token}
use Rattle.aos_scan.specs.declared.token.TokenKind.{TokenKind}
use Rattle.aos_scan.specs.declared.token.TokenKind.TheVariants as k
use Rattle.aos_tree.specs.declared.expr.Sign.{Sign}
use Rattle.aos_tree.specs.Nesting.{shallow}
use Rattle.aos_tree.specs.Ended.{IsEnded}
use Rattle.aos_tree.specs.Operators.{sign_of}
use Rattle.aos_parse_expr.specs.Machine.{Step, refuses, shifts, or_else, without, run}
use Rattle.aos_parse_expr.specs.Machine as machine
use Rattle.aos_parse_expr.specs.Symbols as m
use Rattle.aos_parse_expr.specs.Symbols.{Sym, Stack, Move, onward, by_operator, by_sign}
use Rattle.aos_parse_expr.proofs.Steps as by

abbrev pub step : Stack → TokenKind → Step Sym
step xs c = machine.step m.table xs c

pub onward_or : (move : Move) (xs j : Stack) (other : Step Sym) → or_else (onward move xs) j other ≡ or_else move (xs ++ j) other
onward_or None xs j other = refl
onward_or (Some p) xs j other = ap (λ s. shifts p.0 s) (append_assoc p.1 xs j)

-- the operators
pub operator_by : {A : Type 0} {q : Option A} {op : A} (d : ℕ) (xs : Stack) → q ≡ Some op → by_operator q d xs ≡ Some (d, xs)
operator_by d xs is = ap (λ o. by_operator o d xs) is

pub no_operator : {A : Type 0} {q : Option A} (d : ℕ) (xs : Stack) → q ≡ None → by_operator q d xs ≡ None
no_operator d xs is = ap (λ o. by_operator o d xs) is

pub sign_by : {s : Sign} (d : ℕ) (c : TokenKind) → sign_of c ≡ Some s → m.after_simple d c ≡ Some (d, m.term d ∷ m.additions d ∷ [])
sign_by d c is = ap (λ o. by_sign o d (m.term d ∷ m.additions d ∷ []) (onward (m.after_term d c) (m.additions d ∷ []))) is

pub unsigned_by : (d : ℕ) (c : TokenKind) → sign_of c ≡ None → m.after_simple d c ≡ onward (m.after_term d c) (m.additions d ∷ [])
unsigned_by d c is = ap (λ o. by_sign o d (m.term d ∷ m.additions d ∷ []) (onward (m.after_term d c) (m.additions d ∷ []))) is

-- what a production begins by
pub desig_at : (d : ℕ) (c : TokenKind) (j : Stack) → step (m.desig d ∷ j) c ≡ step (m.tok d k.Ident ∷ (m.selectors d ∷ j)) c
desig_at d k.Ident j = refl
desig_at d _ j = refl

pub term_at : (d : ℕ) (c : TokenKind) (j : Stack) → step (m.term d ∷ j) c ≡ step (m.factor d ∷ (m.products d ∷ j)) c
term_at d c j = onward_or (m.after_factor d c) (m.products d ∷ []) j (refuses (d + 1))

pub expr_at : (d : ℕ) (c : TokenKind) (j : Stack) → step (m.expr d ∷ j) c ≡ step (m.simple (d + 1) ∷ (m.relation (d + 1) ∷ j)) c
expr_at d c j = onward_or (m.after_simple (d + 1) c) (m.relation (d + 1) ∷ []) j (refuses (d + 1))

pub exprs_at : (d : ℕ) (c : TokenKind) (j : Stack) → step (m.exprs d ∷ j) c ≡ step (m.expr d ∷ (m.more_exprs d ∷ j)) c
exprs_at d c j = onward_or (m.after_expr d c) (m.more_exprs d ∷ []) j (refuses (d + 1))

pub elem_at : (d : ℕ) (c : TokenKind) (j : Stack) → step (m.elem d ∷ j) c ≡ step (m.expr d ∷ (m.upper d ∷ j)) c
elem_at d c j = onward_or (m.after_expr d c) (m.upper d ∷ []) j (refuses (d + 1))

pub elems_at : (d : ℕ) (c : TokenKind) (j : Stack) → step (m.elems d ∷ j) c ≡ step (m.elem d ∷ (m.more_elems d ∷ j)) c
elems_at d c j = onward_or (m.after_elem d c) (m.more_elems d ∷ []) j (refuses (d + 1))

factor_unsigned : (c : TokenKind) → m.starts_factor c ≡ true → sign_of c ≡ None
factor_unsigned k.Plus h = absurd (cc)
factor_unsigned k.Minus h = absurd (cc)
factor_unsigned _ h = refl

pub factor_starts : (d : ℕ) (c : TokenKind) → m.starts_factor c ≡ true → (p : ℕ × Stack) × (m.after_factor d c ≡ Some p)
factor_starts d k.Ident h = (_, refl)
factor_starts d k.Number h = (_, refl)
factor_starts d k.Char h = (_, refl)
factor_starts d k.Text h = (_, refl)
factor_starts d k.KwNil h = (_, refl)
factor_starts d k.OpenBrace h = (_, refl)
factor_starts d k.OpenParen h = (_, refl)
factor_starts d k.Tilde h = (_, refl)
factor_starts d _ h = absurd (cc)

-- a move that is there doesn't ask what comes after it
or_alike : (move : Move) (p : ℕ × Stack) (xs j : Stack) (other another : Step Sym) → move ≡ Some p → or_else (onward move xs) j other ≡ or_else move (xs ++ j) another
or_alike move p xs j other another is =
    onward_or move xs j other ∙ ap (λ q. or_else q (xs ++ j) other) is ∙ sym (ap (λ q. or_else q (xs ++ j) another) is)

term_starts : (d : ℕ) (c : TokenKind) → m.starts_factor c ≡ true → (p : ℕ × Stack) × (m.after_term d c ≡ Some p)
term_starts d c h = let s = factor_starts d c h in ((s.0.0, s.0.1 ++ m.products d ∷ []), ap (λ q. onward q (m.products d ∷ [])) s.1)

pub simple_at : (d : ℕ) (c : TokenKind) (j : Stack) → m.starts_factor c ≡ true → step (m.simple d ∷ j) c ≡ step (m.term d ∷ (m.additions d ∷ j)) c
simple_at d c j h =
    let s = term_starts d c h in
    ap (λ q. or_else q j (refuses d)) (unsigned_by d c (factor_unsigned c h)) ∙ or_alike (m.after_term d c) s.0 (m.additions d ∷ []) j (refuses d) (refuses (d + 1)) s.1

simple_starts : (d : ℕ) (c : TokenKind) → m.starts_expr c ≡ true → (p : ℕ × Stack) × (m.after_simple d c ≡ Some p)
simple_starts d k.Plus h = (_, refl)
simple_starts d k.Minus h = (_, refl)
simple_starts d k.Ident h = (_, refl)
simple_starts d k.Number h = (_, refl)
simple_starts d k.Char h = (_, refl)
simple_starts d k.Text h = (_, refl)
simple_starts d k.KwNil h = (_, refl)
simple_starts d k.OpenBrace h = (_, refl)
simple_starts d k.OpenParen h = (_, refl)
simple_starts d k.Tilde h = (_, refl)
simple_starts d _ h = absurd (cc)

expr_starts : (d : ℕ) (c : TokenKind) → m.starts_expr c ≡ true → (p : ℕ × Stack) × (m.after_expr d c ≡ Some p)
expr_starts d c h = let s = simple_starts (d + 1) c h in ((s.0.0, s.0.1 ++ m.relation (d + 1) ∷ []), ap (λ q. onward q (m.relation (d + 1) ∷ [])) s.1)

exprs_starts : (d : ℕ) (c : TokenKind) → m.starts_expr c ≡ true → (p : ℕ × Stack) × (m.after_exprs d c ≡ Some p)
exprs_starts d c h = let s = expr_starts d c h in ((s.0.0, s.0.1 ++ m.more_exprs d ∷ []), ap (λ q. onward q (m.more_exprs d ∷ [])) s.1)

elems_starts : (d : ℕ) (c : TokenKind) → m.starts_expr c ≡ true → (p : ℕ × Stack) × (m.after_elems d c ≡ Some p)
elems_starts d c h =
    let s = expr_starts d c h in
    (((s.0.0, (s.0.1 ++ m.upper d ∷ []) ++ m.more_elems d ∷ [])), ap (λ q. onward (onward q (m.upper d ∷ [])) (m.more_elems d ∷ [])) s.1)

pub members_other : (d : ℕ) (c : TokenKind) → c ≢ k.CloseBrace → m.after_members d c ≡ onward (m.after_elems d c) (m.tok d k.CloseBrace ∷ [])
members_other d k.CloseBrace h = absurd (h refl)
members_other d _ h = refl

pub arguments_other : (d : ℕ) (c : TokenKind) → c ≢ k.CloseParen → m.after_arguments d c ≡ onward (m.after_exprs d c) (m.tok d k.CloseParen ∷ [])
arguments_other d k.CloseParen h = absurd (h refl)
arguments_other d _ h = refl

brace_starts : (c : TokenKind) → m.starts_expr c ≡ true → c ≢ k.CloseBrace
brace_starts c h is = let a : m.starts_expr c ≡ false = ap m.starts_expr is in cc

paren_starts : (c : TokenKind) → m.starts_expr c ≡ true → c ≢ k.CloseParen
paren_starts c h is = let a : m.starts_expr c ≡ false = ap m.starts_expr is in cc

pub members_at : (d : ℕ) (c : TokenKind) (j : Stack) → m.starts_expr c ≡ true → step (m.members d ∷ j) c ≡ step (m.elems d ∷ (m.tok d k.CloseBrace ∷ j)) c
members_at d c j h =
    let s = elems_starts d c h in
    ap (λ q. or_else q j (refuses d)) (members_other d c (brace_starts c h)) ∙ or_alike (m.after_elems d c) s.0 (m.tok d k.CloseBrace ∷ []) j (refuses d) (refuses (d + 1)) s.1

pub arguments_at : (d : ℕ) (c : TokenKind) (j : Stack) → m.starts_expr c ≡ true → step (m.arguments d ∷ j) c ≡ step (m.exprs d ∷ (m.tok d k.CloseParen ∷ j)) c
arguments_at d c j h =
    let s = exprs_starts d c h in
    ap (λ q. or_else q j (refuses d)) (arguments_other d c (paren_starts c h)) ∙ or_alike (m.after_exprs d c) s.0 (m.tok d k.CloseParen ∷ []) j (refuses d) (refuses (d + 1)) s.1

pub selectors_go : (d : ℕ) (c : TokenKind) → (c ≡ k.Period) ⊎ ((c ≡ k.OpenBracket) ⊎ ((c ≡ k.Caret) ⊎ (c ≡ k.OpenParen))) → (j : Stack) → step (m.selectors d ∷ j) c ≡ step (m.selector d ∷ (m.selectors d ∷ j)) c
selectors_go d k.Period h j = refl
selectors_go d k.OpenBracket h j = refl
selectors_go d k.Caret h j = refl
selectors_go d k.OpenParen h j = refl
selectors_go d _ (inl h) j = absurd (cc)
selectors_go d _ (inr (inl h)) j = absurd (cc)
selectors_go d _ (inr (inr (inl h))) j = absurd (cc)
selectors_go d _ (inr (inr (inr h))) j = absurd (cc)

pub factor_ident : (d : ℕ) (c : TokenKind) → c ≡ k.Ident → (j : Stack) → step (m.factor d ∷ j) c ≡ step (m.desig (d + 1) ∷ j) c
factor_ident d k.Ident is j = refl
factor_ident d _ is j = absurd (cc)

-- what a token can't begin
pub no_factor : (d : ℕ) (c : TokenKind) → m.starts_factor c ≡ false → m.after_factor d c ≡ None
no_factor d k.Ident h = absurd (cc)
no_factor d k.Number h = absurd (cc)
no_factor d k.Char h = absurd (cc)
no_factor d k.Text h = absurd (cc)
no_factor d k.KwNil h = absurd (cc)
no_factor d k.OpenBrace h = absurd (cc)
no_factor d k.OpenParen h = absurd (cc)
no_factor d k.Tilde h = absurd (cc)
no_factor d _ h = refl

pub none_factor : (d : ℕ) (c : TokenKind) → c ≢ k.Ident → c ≢ k.Number → c ≢ k.Char → c ≢ k.Text → c ≢ k.KwNil → c ≢ k.OpenBrace → c ≢ k.OpenParen → c ≢ k.Tilde → m.after_factor d c ≡ None
none_factor d k.Ident a b e f g h i j = absurd (a refl)
none_factor d k.Number a b e f g h i j = absurd (b refl)
none_factor d k.Char a b e f g h i j = absurd (e refl)
none_factor d k.Text a b e f g h i j = absurd (f refl)
none_factor d k.KwNil a b e f g h i j = absurd (g refl)
none_factor d k.OpenBrace a b e f g h i j = absurd (h refl)
none_factor d k.OpenParen a b e f g h i j = absurd (i refl)
none_factor d k.Tilde a b e f g h i j = absurd (j refl)
none_factor d _ a b e f g h i j = refl

pub no_simple : (d : ℕ) (c : TokenKind) → sign_of c ≡ None → m.starts_factor c ≡ false → m.after_simple d c ≡ None
no_simple d c s h = unsigned_by d c s ∙ ap (λ q. onward (onward q (m.products d ∷ [])) (m.additions d ∷ [])) (no_factor d c h)

expr_unsigned : (c : TokenKind) → m.starts_expr c ≡ false → sign_of c ≡ None
expr_unsigned k.Plus h = absurd (cc)
expr_unsigned k.Minus h = absurd (cc)
expr_unsigned _ h = refl

expr_factor : (c : TokenKind) → m.starts_expr c ≡ false → m.starts_factor c ≡ false
expr_factor k.Plus h = refl
expr_factor k.Minus h = refl
expr_factor _ h = h

pub no_expr : (d : ℕ) (c : TokenKind) → m.starts_expr c ≡ false → m.after_expr d c ≡ None
no_expr d c h = ap (λ q. onward q (m.relation (d + 1) ∷ [])) (no_simple (d + 1) c (expr_unsigned c h) (expr_factor c h))

pub no_members : (d : ℕ) (c : TokenKind) → c ≢ k.CloseBrace → m.starts_expr c ≡ false → m.after_members d c ≡ None
no_members d c n h =
    members_other d c n ∙ ap (λ q. onward (onward (onward q (m.upper d ∷ [])) (m.more_elems d ∷ [])) (m.tok d k.CloseBrace ∷ [])) (no_expr d c h)

pub no_arguments : (d : ℕ) (c : TokenKind) → c ≢ k.CloseParen → m.starts_expr c ≡ false → m.after_arguments d c ≡ None
no_arguments d c n h =
    arguments_other d c n ∙ ap (λ q. onward (onward q (m.more_exprs d ∷ [])) (m.tok d k.CloseParen ∷ [])) (no_expr d c h)

pub no_more_exprs : (d : ℕ) (c : TokenKind) → c ≢ k.Comma → m.after_more_exprs d c ≡ None
no_more_exprs d k.Comma h = absurd (h refl)
no_more_exprs d _ h = refl

pub no_more_elems : (d : ℕ) (c : TokenKind) → c ≢ k.Comma → m.after_more_elems d c ≡ None
no_more_elems d k.Comma h = absurd (h refl)
no_more_elems d _ h = refl

pub no_upper : (d : ℕ) (c : TokenKind) → c ≢ k.Range → m.after_upper d c ≡ None
no_upper d k.Range h = absurd (h refl)
no_upper d _ h = refl

pub no_selector : (d : ℕ) (c : TokenKind) → c ≢ k.Period → c ≢ k.OpenBracket → c ≢ k.Caret → c ≢ k.OpenParen → m.after_selector d c ≡ None
no_selector d k.Period a b e f = absurd (a refl)
no_selector d k.OpenBracket a b e f = absurd (b refl)
no_selector d k.Caret a b e f = absurd (e refl)
no_selector d k.OpenParen a b e f = absurd (f refl)
no_selector d _ a b e f = refl

pub no_selectors : (d : ℕ) (c : TokenKind) → c ≢ k.Period → c ≢ k.OpenBracket → c ≢ k.Caret → c ≢ k.OpenParen → m.after_selectors d c ≡ None
no_selectors d c a b e f = ap (λ q. onward q (m.selectors d ∷ [])) (no_selector d c a b e f)

module _ (ts : List Token) (ended : IsEnded ts) (d : ℕ) where
  pub to_desig : (j : Stack) → run m.table shallow ts (m.desig d ∷ j) ≡ run m.table shallow ts (m.tok d k.Ident ∷ (m.selectors d ∷ j))
  to_desig = by.expands m.table shallow ts ended (m.desig d) (m.tok d k.Ident) (m.selectors d ∷ []) (desig_at d)

  pub to_term : (j : Stack) → run m.table shallow ts (m.term d ∷ j) ≡ run m.table shallow ts (m.factor d ∷ (m.products d ∷ j))
  to_term = by.expands m.table shallow ts ended (m.term d) (m.factor d) (m.products d ∷ []) (term_at d)

  pub to_expr : (j : Stack) → run m.table shallow ts (m.expr d ∷ j) ≡ run m.table shallow ts (m.simple (d + 1) ∷ (m.relation (d + 1) ∷ j))
  to_expr = by.expands m.table shallow ts ended (m.expr d) (m.simple (d + 1)) (m.relation (d + 1) ∷ []) (expr_at d)

  pub to_exprs : (j : Stack) → run m.table shallow ts (m.exprs d ∷ j) ≡ run m.table shallow ts (m.expr d ∷ (m.more_exprs d ∷ j))
  to_exprs = by.expands m.table shallow ts ended (m.exprs d) (m.expr d) (m.more_exprs d ∷ []) (exprs_at d)

  pub to_elem : (j : Stack) → run m.table shallow ts (m.elem d ∷ j) ≡ run m.table shallow ts (m.expr d ∷ (m.upper d ∷ j))
  to_elem = by.expands m.table shallow ts ended (m.elem d) (m.expr d) (m.upper d ∷ []) (elem_at d)

  pub to_elems : (j : Stack) → run m.table shallow ts (m.elems d ∷ j) ≡ run m.table shallow ts (m.elem d ∷ (m.more_elems d ∷ j))
  to_elems = by.expands m.table shallow ts ended (m.elems d) (m.elem d) (m.more_elems d ∷ []) (elems_at d)
