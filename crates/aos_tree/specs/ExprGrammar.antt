-- The grammar of expressions: a tree reads the tokens `ts` up to `rest`, at a nesting d that is open round it
-- (Active Oberon Language Report, Reali 2002, syntax). One case for each form of a production. `may` says where a token
-- may stand.
use Rattle.std.specs.Prelude.{◌≡◌, ℕ, ◌+◌, List, [], ◌∷◌, Some, None, true}
use Rattle.aos_scan.specs.declared.token.Token.{Token}
use Rattle.aos_scan.specs.declared.token.TokenKind.TheVariants as k
use Rattle.aos_tree.specs.declared.expr.RelationOp.{RelationOp}
use Rattle.aos_tree.specs.declared.expr.AddOp.{AddOp}
use Rattle.aos_tree.specs.declared.expr.MulOp.{MulOp}
use Rattle.aos_tree.specs.declared.expr.Sign.{Sign}
use Rattle.aos_tree.specs.declared.expr.Expr.{Expr, roll-Expr}
use Rattle.aos_tree.specs.declared.expr.Relation.{roll-Relation}
use Rattle.aos_tree.specs.declared.expr.Simple.{Simple, roll-Simple}
use Rattle.aos_tree.specs.declared.expr.Addition.{Addition, roll-Addition}
use Rattle.aos_tree.specs.declared.expr.Term.{Term, roll-Term}
use Rattle.aos_tree.specs.declared.expr.Product.{Product, roll-Product}
use Rattle.aos_tree.specs.declared.expr.Factor.{Factor}
use Rattle.aos_tree.specs.declared.expr.Factor.TheVariants as f
use Rattle.aos_tree.specs.declared.expr.Elem.{Elem, roll-Elem}
use Rattle.aos_tree.specs.declared.expr.Desig.{Desig, roll-Desig}
use Rattle.aos_tree.specs.declared.expr.Selector.{Selector}
use Rattle.aos_tree.specs.declared.expr.Selector.TheVariants as s
use Rattle.aos_tree.specs.Nesting.{Rule}
use Rattle.aos_tree.specs.Operators.{relation_of, addition_of, product_of, sign_of, name_at, text_at}

mutual
  -- Expr = Simple [("=" | "#" | "<" | "<=" | ">" | ">=" | IN | IS) Simple].
  pub data IsExpr (may : Rule) : ℕ → Expr → List Token → List Token → Type 0 where
    alone : {d : ℕ} {a : Simple} {t : Token} {ts rest : List Token} →
        IsSimple may (d + 1) a (t ∷ ts) rest →
        IsExpr may d (roll-Expr (record { pos = t.pos; left = a; right = None })) (t ∷ ts) rest
    related : {d : ℕ} {a b : Simple} {op : RelationOp} {t u : Token} {ts mid rest : List Token} →
        IsSimple may (d + 1) a (t ∷ ts) (u ∷ mid) → relation_of u.kind ≡ Some op → may (d + 1) mid ≡ true → IsSimple may (d + 1) b mid rest →
        IsExpr may d (roll-Expr (record { pos = t.pos; left = a; right = Some (roll-Relation (record { pos = u.pos; op = op; right = b })) })) (t ∷ ts) rest

  -- Simple = ["+" | "-"] Term {("+" | "-" | OR) Term}.
  pub data IsSimple (may : Rule) : ℕ → Simple → List Token → List Token → Type 0 where
    unsigned : {d : ℕ} {a : Term} {more : List Addition} {t : Token} {ts mid rest : List Token} →
        IsTerm may d a (t ∷ ts) mid → IsAdditions may d more mid rest →
        IsSimple may d (roll-Simple (record { pos = t.pos; sign = None; first = a; rest = more })) (t ∷ ts) rest
    signed : {d : ℕ} {sign : Sign} {a : Term} {more : List Addition} {t : Token} {ts mid rest : List Token} →
        sign_of t.kind ≡ Some sign → may d ts ≡ true → IsTerm may d a ts mid → IsAdditions may d more mid rest →
        IsSimple may d (roll-Simple (record { pos = t.pos; sign = Some sign; first = a; rest = more })) (t ∷ ts) rest

  pub data IsAdditions (may : Rule) : ℕ → List Addition → List Token → List Token → Type 0 where
    no_additions : {d : ℕ} {ts : List Token} → IsAdditions may d [] ts ts
    addition : {d : ℕ} {op : AddOp} {a : Term} {more : List Addition} {t : Token} {ts mid rest : List Token} →
        addition_of t.kind ≡ Some op → may d ts ≡ true → IsTerm may d a ts mid → IsAdditions may d more mid rest →
        IsAdditions may d (roll-Addition (record { pos = t.pos; op = op; right = a }) ∷ more) (t ∷ ts) rest

  -- Term = Factor {("*" | "/" | DIV | MOD | "&") Factor}.
  pub data IsTerm (may : Rule) : ℕ → Term → List Token → List Token → Type 0 where
    term : {d : ℕ} {a : Factor} {more : List Product} {t : Token} {ts mid rest : List Token} →
        IsFactor may d a (t ∷ ts) mid → IsProducts may d more mid rest →
        IsTerm may d (roll-Term (record { pos = t.pos; first = a; rest = more })) (t ∷ ts) rest

  pub data IsProducts (may : Rule) : ℕ → List Product → List Token → List Token → Type 0 where
    no_products : {d : ℕ} {ts : List Token} → IsProducts may d [] ts ts
    product : {d : ℕ} {op : MulOp} {a : Factor} {more : List Product} {t : Token} {ts mid rest : List Token} →
        product_of t.kind ≡ Some op → may d ts ≡ true → IsFactor may d a ts mid → IsProducts may d more mid rest →
        IsProducts may d (roll-Product (record { pos = t.pos; op = op; right = a }) ∷ more) (t ∷ ts) rest

  -- Factor = Desig | number | char | text | NIL | "{" [Elem {"," Elem}] "}" | "(" Expr ")" | "~" Factor.
  pub data IsFactor (may : Rule) : ℕ → Factor → List Token → List Token → Type 0 where
    desig : {d : ℕ} {a : Desig} {ts rest : List Token} → IsDesig may (d + 1) a ts rest → IsFactor may d (f.Desig a) ts rest
    number : {d : ℕ} {t : Token} {ts : List Token} →
        t.kind ≡ k.Number → may (d + 1) ts ≡ true → IsFactor may d (f.Number t.pos t.value) (t ∷ ts) ts
    char : {d : ℕ} {t : Token} {ts : List Token} →
        t.kind ≡ k.Char → may (d + 1) ts ≡ true → IsFactor may d (f.Char t.pos t.value) (t ∷ ts) ts
    text : {d : ℕ} {t : Token} {ts : List Token} →
        t.kind ≡ k.Text → may (d + 1) ts ≡ true → IsFactor may d (f.Text (text_at t)) (t ∷ ts) ts
    nil : {d : ℕ} {t : Token} {ts : List Token} →
        t.kind ≡ k.KwNil → may (d + 1) ts ≡ true → IsFactor may d (f.Nil t.pos) (t ∷ ts) ts
    set : {d : ℕ} {all : List Elem} {t : Token} {ts rest : List Token} →
        t.kind ≡ k.OpenBrace → may (d + 1) ts ≡ true → IsMembers may (d + 1) all ts rest →
        IsFactor may d (f.Set t.pos all) (t ∷ ts) rest
    paren : {d : ℕ} {a : Expr} {t u : Token} {ts rest : List Token} →
        t.kind ≡ k.OpenParen → may (d + 1) ts ≡ true → IsExpr may (d + 1) a ts (u ∷ rest) →
        u.kind ≡ k.CloseParen → may (d + 1) rest ≡ true →
        IsFactor may d (f.Paren t.pos a) (t ∷ ts) rest
    not : {d : ℕ} {a : Factor} {t : Token} {ts rest : List Token} →
        t.kind ≡ k.Tilde → may (d + 1) ts ≡ true → IsFactor may (d + 1) a ts rest →
        IsFactor may d (f.Not t.pos a) (t ∷ ts) rest

  -- [Elem {"," Elem}] "}"
  pub data IsMembers (may : Rule) : ℕ → List Elem → List Token → List Token → Type 0 where
    no_members : {d : ℕ} {t : Token} {ts : List Token} →
        t.kind ≡ k.CloseBrace → may d ts ≡ true → IsMembers may d [] (t ∷ ts) ts
    members : {d : ℕ} {all : List Elem} {t : Token} {ts rest : List Token} →
        IsElems may d all ts (t ∷ rest) → t.kind ≡ k.CloseBrace → may d rest ≡ true → IsMembers may d all ts rest

  -- Elem {"," Elem}
  pub data IsElems (may : Rule) : ℕ → List Elem → List Token → List Token → Type 0 where
    elems : {d : ℕ} {a : Elem} {more : List Elem} {ts mid rest : List Token} →
        IsElem may d a ts mid → IsMoreElems may d more mid rest → IsElems may d (a ∷ more) ts rest

  pub data IsMoreElems (may : Rule) : ℕ → List Elem → List Token → List Token → Type 0 where
    no_more_elems : {d : ℕ} {ts : List Token} → IsMoreElems may d [] ts ts
    another_elem : {d : ℕ} {a : Elem} {more : List Elem} {t : Token} {ts mid rest : List Token} →
        t.kind ≡ k.Comma → may d ts ≡ true → IsElem may d a ts mid → IsMoreElems may d more mid rest →
        IsMoreElems may d (a ∷ more) (t ∷ ts) rest

  -- Elem = Expr [".." Expr].
  pub data IsElem (may : Rule) : ℕ → Elem → List Token → List Token → Type 0 where
    single : {d : ℕ} {a : Expr} {ts rest : List Token} →
        IsExpr may d a ts rest → IsElem may d (roll-Elem (record { first = a; last = None })) ts rest
    range : {d : ℕ} {a b : Expr} {t : Token} {ts mid rest : List Token} →
        IsExpr may d a ts (t ∷ mid) → t.kind ≡ k.Range → may d mid ≡ true → IsExpr may d b mid rest →
        IsElem may d (roll-Elem (record { first = a; last = Some b })) ts rest

  -- Desig = ident {"." ident | "[" Expr {"," Expr} "]" | "^" | "(" [Expr {"," Expr}] ")"}.
  pub data IsDesig (may : Rule) : ℕ → Desig → List Token → List Token → Type 0 where
    named : {d : ℕ} {more : List Selector} {t : Token} {ts rest : List Token} →
        t.kind ≡ k.Ident → may d ts ≡ true → IsSelectors may d more ts rest →
        IsDesig may d (roll-Desig (record { name = name_at t; selectors = more })) (t ∷ ts) rest

  pub data IsSelectors (may : Rule) : ℕ → List Selector → List Token → List Token → Type 0 where
    no_selectors : {d : ℕ} {ts : List Token} → IsSelectors may d [] ts ts
    selected : {d : ℕ} {a : Selector} {more : List Selector} {ts mid rest : List Token} →
        IsSelector may d a ts mid → IsSelectors may d more mid rest → IsSelectors may d (a ∷ more) ts rest

  pub data IsSelector (may : Rule) : ℕ → Selector → List Token → List Token → Type 0 where
    field : {d : ℕ} {t u : Token} {ts : List Token} →
        t.kind ≡ k.Period → may d (u ∷ ts) ≡ true → u.kind ≡ k.Ident → may d ts ≡ true →
        IsSelector may d (s.Field t.pos (name_at u)) (t ∷ u ∷ ts) ts
    index : {d : ℕ} {all : List Expr} {t u : Token} {ts rest : List Token} →
        t.kind ≡ k.OpenBracket → may d ts ≡ true → IsExprs may d all ts (u ∷ rest) →
        u.kind ≡ k.CloseBracket → may d rest ≡ true →
        IsSelector may d (s.Index t.pos all) (t ∷ ts) rest
    follow : {d : ℕ} {t : Token} {ts : List Token} →
        t.kind ≡ k.Caret → may d ts ≡ true → IsSelector may d (s.Follow t.pos) (t ∷ ts) ts
    applied : {d : ℕ} {all : List Expr} {t : Token} {ts rest : List Token} →
        t.kind ≡ k.OpenParen → may d ts ≡ true → IsArguments may d all ts rest →
        IsSelector may d (s.Paren t.pos all) (t ∷ ts) rest

  -- [Expr {"," Expr}] ")"
  pub data IsArguments (may : Rule) : ℕ → List Expr → List Token → List Token → Type 0 where
    no_arguments : {d : ℕ} {t : Token} {ts : List Token} →
        t.kind ≡ k.CloseParen → may d ts ≡ true → IsArguments may d [] (t ∷ ts) ts
    arguments : {d : ℕ} {all : List Expr} {t : Token} {ts rest : List Token} →
        IsExprs may d all ts (t ∷ rest) → t.kind ≡ k.CloseParen → may d rest ≡ true → IsArguments may d all ts rest

  -- Expr {"," Expr}
  pub data IsExprs (may : Rule) : ℕ → List Expr → List Token → List Token → Type 0 where
    exprs : {d : ℕ} {a : Expr} {more : List Expr} {ts mid rest : List Token} →
        IsExpr may d a ts mid → IsMoreExprs may d more mid rest → IsExprs may d (a ∷ more) ts rest

  pub data IsMoreExprs (may : Rule) : ℕ → List Expr → List Token → List Token → Type 0 where
    no_more_exprs : {d : ℕ} {ts : List Token} → IsMoreExprs may d [] ts ts
    another_expr : {d : ℕ} {a : Expr} {more : List Expr} {t : Token} {ts mid rest : List Token} →
        t.kind ≡ k.Comma → may d ts ≡ true → IsExpr may d a ts mid → IsMoreExprs may d more mid rest →
        IsMoreExprs may d (a ∷ more) (t ∷ ts) rest

-- an expression, and a designator, at a nesting that is open round it
abbrev pub expr_at : ℕ → Rule → Expr → List Token → List Token → Type 0
expr_at d may tree ts rest = IsExpr may d tree ts rest

abbrev pub desig_at : ℕ → Rule → Desig → List Token → List Token → Type 0
desig_at d may tree ts rest = IsDesig may d tree ts rest
