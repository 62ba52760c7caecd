-- The symbols of expressions, each with the nesting that is open round it, and how they take tokens.
use Rattle.std.specs.Prelude.{ℕ, ◌+◌, ◌++◌, List, [], ◌∷◌, Option, Some, None, Bool, true, false, nat_eq, if◌then◌else◌}
use Rattle.aos_scan.specs.declared.token.TokenKind.{TokenKind}
use Rattle.aos_scan.specs.declared.token.TokenKind.TheVariants as k
use Rattle.aos_tree.specs.Operators.{relation_of, addition_of, product_of, sign_of}
use Rattle.aos_parse_expr.specs.Machine.{Table}

pub data Sym : Type 0 where
  tok : ℕ → TokenKind → Sym
  expr : ℕ → Sym
  -- [relation Simple]
  relation : ℕ → Sym
  simple : ℕ → Sym
  additions : ℕ → Sym
  term : ℕ → Sym
  products : ℕ → Sym
  factor : ℕ → Sym
  -- [Elem {"," Elem}] "}"
  members : ℕ → Sym
  elems : ℕ → Sym
  -- {"," Elem}
  more_elems : ℕ → Sym
  elem : ℕ → Sym
  -- [".." Expr]
  upper : ℕ → Sym
  desig : ℕ → Sym
  selectors : ℕ → Sym
  selector : ℕ → Sym
  -- [Expr {"," Expr}] ")"
  arguments : ℕ → Sym
  exprs : ℕ → Sym
  -- {"," Expr}
  more_exprs : ℕ → Sym

abbrev pub Stack : Type 0
Stack = List Sym

abbrev pub Move : Type 0
Move = Option (ℕ × Stack)

abbrev pub onward : Move → Stack → Move
onward None xs = None
onward (Some p) xs = Some (p.0, p.1 ++ xs)

-- the move of an operator
abbrev pub by_operator : {A : Type 0} → Option A → ℕ → Stack → Move
by_operator None d xs = None
by_operator (Some op) d xs = Some (d, xs)

-- the move of a sign, or else another
abbrev pub by_sign : {A : Type 0} → Option A → ℕ → Stack → Move → Move
by_sign None d xs other = other
by_sign (Some sign) d xs other = Some (d, xs)

-- kinds by their numbers
abbrev pub code : TokenKind → ℕ
code k.Ident = 0
code k.Number = 1
code k.Char = 2
code k.Text = 3
code k.End = 4
code k.KwArray = 5
code k.KwAwait = 6
code k.KwBegin = 7
code k.KwBy = 8
code k.KwCase = 9
code k.KwConst = 10
code k.KwDiv = 11
code k.KwDo = 12
code k.KwElse = 13
code k.KwElsif = 14
code k.KwEnd = 15
code k.KwExit = 16
code k.KwFor = 17
code k.KwIf = 18
code k.KwImport = 19
code k.KwIn = 20
code k.KwIs = 21
code k.KwLoop = 22
code k.KwMod = 23
code k.KwModule = 24
code k.KwNil = 25
code k.KwObject = 26
code k.KwOf = 27
code k.KwOr = 28
code k.KwPointer = 29
code k.KwProcedure = 30
code k.KwRecord = 31
code k.KwRepeat = 32
code k.KwReturn = 33
code k.KwThen = 34
code k.KwTo = 35
code k.KwType = 36
code k.KwUntil = 37
code k.KwVar = 38
code k.KwWhile = 39
code k.KwWith = 40
code k.Plus = 41
code k.Minus = 42
code k.Star = 43
code k.Slash = 44
code k.Tilde = 45
code k.Ampersand = 46
code k.Period = 47
code k.Comma = 48
code k.Semicolon = 49
code k.Bar = 50
code k.OpenParen = 51
code k.OpenBracket = 52
code k.OpenBrace = 53
code k.Caret = 54
code k.Equals = 55
code k.NotEquals = 56
code k.Less = 57
code k.LessEqual = 58
code k.Greater = 59
code k.GreaterEqual = 60
code k.Becomes = 61
code k.Colon = 62
code k.Range = 63
code k.CloseParen = 64
code k.CloseBracket = 65
code k.CloseBrace = 66

abbrev pub starts_factor : TokenKind → Bool
starts_factor k.Ident = true
starts_factor k.Number = true
starts_factor k.Char = true
starts_factor k.Text = true
starts_factor k.KwNil = true
starts_factor k.OpenBrace = true
starts_factor k.OpenParen = true
starts_factor k.Tilde = true
starts_factor _ = false

abbrev pub starts_expr : TokenKind → Bool
starts_expr k.Plus = true
starts_expr k.Minus = true
starts_expr c = starts_factor c

abbrev pub after_tok : ℕ → TokenKind → TokenKind → Move
after_tok d want c = if nat_eq (code want) (code c) then Some (d, []) else None

abbrev pub after_factor : ℕ → TokenKind → Move
after_factor d k.Ident = Some (d + 1, selectors (d + 1) ∷ [])
after_factor d k.Number = Some (d + 1, [])
after_factor d k.Char = Some (d + 1, [])
after_factor d k.Text = Some (d + 1, [])
after_factor d k.KwNil = Some (d + 1, [])
after_factor d k.OpenBrace = Some (d + 1, members (d + 1) ∷ [])
after_factor d k.OpenParen = Some (d + 1, expr (d + 1) ∷ tok (d + 1) k.CloseParen ∷ [])
after_factor d k.Tilde = Some (d + 1, factor (d + 1) ∷ [])
after_factor d _ = None

abbrev pub after_products : ℕ → TokenKind → Move
after_products d c = by_operator (product_of c) d (factor d ∷ products d ∷ [])

abbrev pub after_term : ℕ → TokenKind → Move
after_term d c = onward (after_factor d c) (products d ∷ [])

abbrev pub after_additions : ℕ → TokenKind → Move
after_additions d c = by_operator (addition_of c) d (term d ∷ additions d ∷ [])

abbrev pub after_simple : ℕ → TokenKind → Move
after_simple d c = by_sign (sign_of c) d (term d ∷ additions d ∷ []) (onward (after_term d c) (additions d ∷ []))

abbrev pub after_relation : ℕ → TokenKind → Move
after_relation d c = by_operator (relation_of c) d (simple d ∷ [])

abbrev pub after_expr : ℕ → TokenKind → Move
after_expr d c = onward (after_simple (d + 1) c) (relation (d + 1) ∷ [])

abbrev pub after_upper : ℕ → TokenKind → Move
after_upper d k.Range = Some (d, expr d ∷ [])
after_upper d _ = None

abbrev pub after_elem : ℕ → TokenKind → Move
after_elem d c = onward (after_expr d c) (upper d ∷ [])

abbrev pub after_more_elems : ℕ → TokenKind → Move
after_more_elems d k.Comma = Some (d, elem d ∷ more_elems d ∷ [])
after_more_elems d _ = None

abbrev pub after_elems : ℕ → TokenKind → Move
after_elems d c = onward (after_elem d c) (more_elems d ∷ [])

abbrev pub after_members : ℕ → TokenKind → Move
after_members d k.CloseBrace = Some (d, [])
after_members d c = onward (after_elems d c) (tok d k.CloseBrace ∷ [])

abbrev pub after_desig : ℕ → TokenKind → Move
after_desig d k.Ident = Some (d, selectors d ∷ [])
after_desig d _ = None

abbrev pub after_selector : ℕ → TokenKind → Move
after_selector d k.Period = Some (d, tok d k.Ident ∷ [])
after_selector d k.OpenBracket = Some (d, exprs d ∷ tok d k.CloseBracket ∷ [])
after_selector d k.Caret = Some (d, [])
after_selector d k.OpenParen = Some (d, arguments d ∷ [])
after_selector d _ = None

abbrev pub after_selectors : ℕ → TokenKind → Move
after_selectors d c = onward (after_selector d c) (selectors d ∷ [])

abbrev pub after_more_exprs : ℕ → TokenKind → Move
after_more_exprs d k.Comma = Some (d, expr d ∷ more_exprs d ∷ [])
after_more_exprs d _ = None

abbrev pub after_exprs : ℕ → TokenKind → Move
after_exprs d c = onward (after_expr d c) (more_exprs d ∷ [])

abbrev pub after_arguments : ℕ → TokenKind → Move
after_arguments d k.CloseParen = Some (d, [])
after_arguments d c = onward (after_exprs d c) (tok d k.CloseParen ∷ [])

abbrev pub after : Sym → TokenKind → Move
after (tok d want) c = after_tok d want c
after (expr d) c = after_expr d c
after (relation d) c = after_relation d c
after (simple d) c = after_simple d c
after (additions d) c = after_additions d c
after (term d) c = after_term d c
after (products d) c = after_products d c
after (factor d) c = after_factor d c
after (members d) c = after_members d c
after (elems d) c = after_elems d c
after (more_elems d) c = after_more_elems d c
after (elem d) c = after_elem d c
after (upper d) c = after_upper d c
after (desig d) c = after_desig d c
after (selectors d) c = after_selectors d c
after (selector d) c = after_selector d c
after (arguments d) c = after_arguments d c
after (exprs d) c = after_exprs d c
after (more_exprs d) c = after_more_exprs d c

abbrev pub needs : Sym → Option ℕ
needs (tok d want) = Some d
needs (expr d) = Some (d + 1)
needs (simple d) = Some d
needs (term d) = Some (d + 1)
needs (factor d) = Some (d + 1)
needs (members d) = Some d
needs (elems d) = Some (d + 1)
needs (elem d) = Some (d + 1)
needs (desig d) = Some d
needs (selector d) = Some d
needs (arguments d) = Some d
needs (exprs d) = Some (d + 1)
needs _ = None

-- the table of expressions
abbrev pub table : Table Sym
table = record { after = after; needs = needs }
