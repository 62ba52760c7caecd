-- The symbols of statements, each with the nesting that is open round it, and how they take tokens. Those of expressions
-- are among them.
use Rattle.std.specs.Prelude.{ℕ, ◌+◌, ◌++◌, List, [], ◌∷◌, Option, Some, None, Bool, true, false}
use Rattle.aos_scan.specs.declared.token.TokenKind.{TokenKind}
use Rattle.aos_scan.specs.declared.token.TokenKind.TheVariants as k
use Rattle.aos_parse_expr.specs.Machine.{Table}
use Rattle.aos_parse_expr.specs.Symbols as e

pub data Sym : Type 0 where
  -- a symbol of expressions
  part : e.Sym → Sym
  -- a word of this kind, and an expression after it
  word_expr : ℕ → TokenKind → Sym
  -- the same, or nothing
  option : ℕ → TokenKind → Sym
  -- [Expr]
  returned : ℕ → Sym
  -- ["." ident]
  second : ℕ → Sym
  -- {"," Label}
  more_labels : ℕ → Sym
  -- ["(" Expr ")"]
  argument : ℕ → Sym
  -- {"," Modifier} "}"
  more_modifiers : ℕ → Sym
  -- ["{" Modifier {"," Modifier} "}"]
  marking : ℕ → Sym
  stat : ℕ → Sym
  -- {";" Stat}
  more_stats : ℕ → Sym
  -- {ELSIF Expr THEN StatSeq}
  elsifs : ℕ → Sym
  -- [ELSE StatSeq]
  otherwise : ℕ → Sym
  case : ℕ → Sym
  -- {"|" Case}
  more_cases : ℕ → Sym
  block : ℕ → Sym

abbrev pub Stack : Type 0
Stack = List Sym

abbrev pub Move : Type 0
Move = Option (ℕ × Stack)

abbrev pub parts : e.Stack → Stack
parts [] = []
parts (x ∷ xs) = part x ∷ parts xs

-- the move of a symbol of expressions
abbrev pub by_part : e.Move → Move
by_part None = None
by_part (Some p) = Some (p.0, parts p.1)

abbrev pub onward : Move → Stack → Move
onward None xs = None
onward (Some p) xs = Some (p.0, p.1 ++ xs)

abbrev pub tok : ℕ → TokenKind → Sym
tok d c = part (e.tok d c)

abbrev pub expr : ℕ → Sym
expr d = part (e.expr d)

abbrev pub desig : ℕ → Sym
desig d = part (e.desig d)

-- what the productions without a symbol of their own are made of
abbrev pub label : ℕ → Stack
label d = expr d ∷ option d k.Range ∷ []

abbrev pub labels : ℕ → Stack
labels d = expr d ∷ option d k.Range ∷ more_labels d ∷ []

abbrev pub modifier : ℕ → Stack
modifier d = tok d k.Ident ∷ argument d ∷ []

abbrev pub modifiers : ℕ → Stack
modifiers d = tok d k.Ident ∷ argument d ∷ more_modifiers d ∷ []

abbrev pub qualident : ℕ → Stack
qualident d = tok d k.Ident ∷ second d ∷ []

abbrev pub stats : ℕ → Stack
stats d = stat d ∷ more_stats d ∷ []

abbrev pub cases : ℕ → Stack
cases d = case d ∷ more_cases d ∷ []

-- what comes after the word that begins a statement
abbrev pub await_rest : ℕ → Stack
await_rest d = word_expr d k.OpenParen ∷ tok d k.CloseParen ∷ []

abbrev pub branch : ℕ → Stack
branch d = expr d ∷ tok d k.KwThen ∷ stats d

abbrev pub if_rest : ℕ → Stack
if_rest d = branch d ++ elsifs d ∷ otherwise d ∷ tok d k.KwEnd ∷ []

abbrev pub case_rest : ℕ → Stack
case_rest d = expr d ∷ tok d k.KwOf ∷ (cases d ++ otherwise d ∷ tok d k.KwEnd ∷ [])

abbrev pub body_rest : ℕ → Stack
body_rest d = stats d ++ tok d k.KwEnd ∷ []

abbrev pub while_rest : ℕ → Stack
while_rest d = expr d ∷ tok d k.KwDo ∷ body_rest d

abbrev pub repeat_rest : ℕ → Stack
repeat_rest d = stats d ++ word_expr d k.KwUntil ∷ []

abbrev pub for_rest : ℕ → Stack
for_rest d = tok d k.Ident ∷ word_expr d k.Becomes ∷ word_expr d k.KwTo ∷ option d k.KwBy ∷ tok d k.KwDo ∷ body_rest d

abbrev pub with_rest : ℕ → Stack
with_rest d = qualident d ++ tok d k.Colon ∷ (qualident d ++ tok d k.KwDo ∷ body_rest d)

abbrev pub block_rest : ℕ → Stack
block_rest d = marking d ∷ body_rest d

abbrev pub starts_stat : TokenKind → Bool
starts_stat k.Ident = true
starts_stat k.KwBegin = true
starts_stat k.KwExit = true
starts_stat k.KwReturn = true
starts_stat k.KwAwait = true
starts_stat k.KwIf = true
starts_stat k.KwCase = true
starts_stat k.KwWhile = true
starts_stat k.KwRepeat = true
starts_stat k.KwLoop = true
starts_stat k.KwFor = true
starts_stat k.KwWith = true
starts_stat _ = false

abbrev pub after_word_expr : ℕ → TokenKind → TokenKind → Move
after_word_expr d want c = onward (by_part (e.after_tok d want c)) (expr d ∷ [])

abbrev pub after_second : ℕ → TokenKind → Move
after_second d k.Period = Some (d, tok d k.Ident ∷ [])
after_second d _ = None

abbrev pub after_more_labels : ℕ → TokenKind → Move
after_more_labels d k.Comma = Some (d, labels d)
after_more_labels d _ = None

abbrev pub after_argument : ℕ → TokenKind → Move
after_argument d k.OpenParen = Some (d, expr d ∷ tok d k.CloseParen ∷ [])
after_argument d _ = None

abbrev pub after_more_modifiers : ℕ → TokenKind → Move
after_more_modifiers d k.Comma = Some (d, modifiers d)
after_more_modifiers d k.CloseBrace = Some (d, [])
after_more_modifiers d _ = None

abbrev pub after_marking : ℕ → TokenKind → Move
after_marking d k.OpenBrace = Some (d, modifiers d)
after_marking d _ = None

abbrev pub after_stat : ℕ → TokenKind → Move
after_stat d k.Ident = Some (d + 1, part (e.selectors (d + 1)) ∷ option (d + 1) k.Becomes ∷ [])
after_stat d k.KwBegin = Some (d + 1, block_rest (d + 1))
after_stat d k.KwExit = Some (d + 1, [])
after_stat d k.KwReturn = Some (d + 1, returned (d + 1) ∷ [])
after_stat d k.KwAwait = Some (d + 1, await_rest (d + 1))
after_stat d k.KwIf = Some (d + 1, if_rest (d + 1))
after_stat d k.KwCase = Some (d + 1, case_rest (d + 1))
after_stat d k.KwWhile = Some (d + 1, while_rest (d + 1))
after_stat d k.KwRepeat = Some (d + 1, repeat_rest (d + 1))
after_stat d k.KwLoop = Some (d + 1, body_rest (d + 1))
after_stat d k.KwFor = Some (d + 1, for_rest (d + 1))
after_stat d k.KwWith = Some (d + 1, with_rest (d + 1))
after_stat d _ = None

abbrev pub after_more_stats : ℕ → TokenKind → Move
after_more_stats d k.Semicolon = Some (d, stats d)
after_more_stats d _ = None

abbrev pub after_elsifs : ℕ → TokenKind → Move
after_elsifs d k.KwElsif = Some (d, branch d ++ elsifs d ∷ [])
after_elsifs d _ = None

abbrev pub after_otherwise : ℕ → TokenKind → Move
after_otherwise d k.KwElse = Some (d, stats d)
after_otherwise d _ = None

abbrev pub after_case : ℕ → TokenKind → Move
after_case d c = onward (by_part (e.after_expr d c)) (option d k.Range ∷ more_labels d ∷ tok d k.Colon ∷ stats d)

abbrev pub after_more_cases : ℕ → TokenKind → Move
after_more_cases d k.Bar = Some (d, cases d)
after_more_cases d _ = None

abbrev pub after_block : ℕ → TokenKind → Move
after_block d k.KwBegin = Some (d, block_rest d)
after_block d _ = None

abbrev pub after : Sym → TokenKind → Move
after (part x) c = by_part (e.after x c)
after (word_expr d want) c = after_word_expr d want c
after (option d want) c = after_word_expr d want c
after (returned d) c = by_part (e.after_expr d c)
after (second d) c = after_second d c
after (more_labels d) c = after_more_labels d c
after (argument d) c = after_argument d c
after (more_modifiers d) c = after_more_modifiers d c
after (marking d) c = after_marking d c
after (stat d) c = after_stat d c
after (more_stats d) c = after_more_stats d c
after (elsifs d) c = after_elsifs d c
after (otherwise d) c = after_otherwise d c
after (case d) c = after_case d c
after (more_cases d) c = after_more_cases d c
after (block d) c = after_block d c

abbrev pub needs : Sym → Option ℕ
needs (part x) = e.needs x
needs (word_expr d want) = Some d
needs (more_modifiers d) = Some d
needs (block d) = Some d
needs _ = None

-- the table of statements
abbrev pub table : Table Sym
table = record { after = after; needs = needs }
