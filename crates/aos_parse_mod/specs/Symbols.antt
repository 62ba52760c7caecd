-- The symbols of declarations, types and modules, each with the nesting that is open round it, and how they take tokens.
-- Those of expressions and statements are among them.
use Rattle.std.specs.Prelude.{ℕ, ◌+◌, ◌++◌, List, [], ◌∷◌, Option, Some, None, Bool, true, false, nat_eq, if◌then◌else◌}
use Rattle.aos_scan.specs.declared.token.TokenKind.{TokenKind}
use Rattle.aos_scan.specs.declared.token.TokenKind.TheVariants as k
use Rattle.aos_tree.specs.Operators.{export_of}
use Rattle.aos_parse_expr.specs.Machine.{Table}
use Rattle.aos_parse_expr.specs.Symbols as e
use Rattle.aos_parse_expr.specs.Symbols.{code}
use Rattle.aos_parse_stat.specs.Symbols as s

pub data Sym : Type 0 where
  tok : ℕ → TokenKind → Sym
  of_expr : e.Sym → Sym
  of_stat : s.Sym → Sym
  -- [word]
  option : ℕ → TokenKind → Sym
  -- word Expr
  then_expr : ℕ → TokenKind → Sym
  -- word Type
  then_type : ℕ → TokenKind → Sym
  -- [word ident]
  then_name : ℕ → TokenKind → Sym
  -- ["*" | "-"]
  mark : ℕ → Sym
  -- {"," ident}
  more_names : ℕ → Sym
  -- {"," Def}
  more_defs : ℕ → Sym
  -- ["(" Qualident ")"]
  base : ℕ → Sym
  -- {ARRAY OF}
  arrays : ℕ → Sym
  section : ℕ → Sym
  -- [Section {";" Section}] ")"
  sections : ℕ → Sym
  -- {";" Section} ")"
  more_sections : ℕ → Sym
  -- [":" Qualident]
  result : ℕ → Sym
  -- [Formals]
  formals : ℕ → Sym
  -- ["{" ident "}"]
  flag : ℕ → Sym
  body : ℕ → Sym
  const_defs : ℕ → Sym
  type_defs : ℕ → Sym
  var_defs : ℕ → Sym
  -- whether it stands in a procedure, where none is a procedure
  decl : Bool → ℕ → Sym
  decls : Bool → ℕ → Sym
  type : ℕ → Sym
  -- [Expr {"," Expr}]
  lengths : ℕ → Sym
  fields : ℕ → Sym
  -- {";" Fields}
  more_fields : ℕ → Sym
  -- {"," Import} ";"
  more_imports : ℕ → Sym
  -- [IMPORT Import {"," Import} ";"]
  imports : ℕ → Sym
  -- a module and the end of its text
  text : ℕ → Sym

abbrev pub Stack : Type 0
Stack = List Sym

abbrev pub Move : Type 0
Move = Option (ℕ × Stack)

abbrev pub onward : Move → Stack → Move
onward None xs = None
onward (Some p) xs = Some (p.0, p.1 ++ xs)

abbrev pub lifted : {S : Type 0} → (S → Sym) → List S → Stack
lifted f [] = []
lifted f (x ∷ xs) = f x ∷ lifted f xs

-- the move of a grammar below
abbrev pub below : {S : Type 0} → (S → Sym) → Option (ℕ × List S) → Move
below f None = None
below f (Some p) = Some (p.0, lifted f p.1)

-- the move of a word
abbrev pub by_word : ℕ → TokenKind → Stack → TokenKind → Move
by_word d want xs c = if nat_eq (code want) (code c) then Some (d, xs) else None

-- the move of an operator
abbrev pub by_operator : {A : Type 0} → Option A → ℕ → Stack → Move
by_operator None d xs = None
by_operator (Some op) d xs = Some (d, xs)

-- ident ["." ident]
abbrev pub qualident : ℕ → Stack
qualident d = tok d k.Ident ∷ then_name d k.Period ∷ []

-- what comes after the first name of a section
abbrev pub section_rest : ℕ → Stack → Stack
section_rest d xs = more_names d ∷ tok d k.Colon ∷ arrays d ∷ tok d k.Ident ∷ then_name d k.Period ∷ xs

-- what comes after the name of a procedure, and after the word PROCEDURE of its declaration
abbrev pub proc_tail : ℕ → Stack → Stack
proc_tail d xs = formals d ∷ tok d k.Semicolon ∷ decls true d ∷ body d ∷ tok d k.Ident ∷ xs

abbrev pub proc_rest : ℕ → Stack → Stack
proc_rest d xs = option d k.Ampersand ∷ tok d k.Ident ∷ mark d ∷ proc_tail d xs

-- what comes after the word MODULE
abbrev pub text_rest : ℕ → Stack → Stack
text_rest d xs = tok d k.Ident ∷ tok d k.Semicolon ∷ imports d ∷ decls false d ∷ body d ∷ tok d k.Ident ∷ tok d k.Period ∷ tok d k.End ∷ xs

abbrev pub after_section : ℕ → TokenKind → Move
after_section d k.KwVar = Some (d, tok d k.Ident ∷ section_rest d [])
after_section d k.Ident = Some (d, section_rest d [])
after_section d _ = None

abbrev pub after_sections : ℕ → TokenKind → Move
after_sections d k.CloseParen = Some (d, [])
after_sections d c = onward (after_section d c) (more_sections d ∷ [])

abbrev pub after_more_sections : ℕ → TokenKind → Move
after_more_sections d k.CloseParen = Some (d, [])
after_more_sections d k.Semicolon = Some (d, section d ∷ more_sections d ∷ [])
after_more_sections d _ = None

abbrev pub after_body : ℕ → TokenKind → Move
after_body d k.KwEnd = Some (d, [])
after_body d c = below of_stat (s.table.after (s.block d) c)

abbrev pub after_decl : Bool → ℕ → TokenKind → Move
after_decl local d k.KwConst = Some (d, const_defs d ∷ [])
after_decl local d k.KwType = Some (d, type_defs d ∷ [])
after_decl local d k.KwVar = Some (d, var_defs d ∷ [])
after_decl local d k.KwProcedure = if local then None else Some (d, proc_rest d (tok d k.Semicolon ∷ []))
after_decl local d _ = None

-- whether a token begins a declaration
abbrev pub starts_decl : Bool → TokenKind → Bool
starts_decl local k.KwConst = true
starts_decl local k.KwType = true
starts_decl local k.KwVar = true
starts_decl local k.KwProcedure = if local then false else true
starts_decl local _ = false

abbrev pub after_type : ℕ → TokenKind → Move
after_type d k.Ident = Some (d + 1, then_name (d + 1) k.Period ∷ [])
after_type d k.KwArray = Some (d + 1, lengths (d + 1) ∷ then_type (d + 1) k.KwOf ∷ [])
after_type d k.KwRecord = Some (d + 1, base (d + 1) ∷ fields (d + 1) ∷ more_fields (d + 1) ∷ tok (d + 1) k.KwEnd ∷ [])
after_type d k.KwPointer = Some (d + 1, then_type (d + 1) k.KwTo ∷ [])
after_type d k.KwProcedure = Some (d + 1, flag (d + 1) ∷ formals (d + 1) ∷ [])
after_type d k.KwObject = Some (d + 1, base (d + 1) ∷ decls false (d + 1) ∷ body (d + 1) ∷ option (d + 1) k.Ident ∷ [])
after_type d _ = None

abbrev pub after_more_imports : ℕ → TokenKind → Move
after_more_imports d k.Semicolon = Some (d, [])
after_more_imports d k.Comma = Some (d, tok d k.Ident ∷ then_name d k.Becomes ∷ more_imports d ∷ [])
after_more_imports d _ = None

abbrev pub after : Sym → TokenKind → Move
after (tok d want) c = by_word d want [] c
after (of_expr x) c = below of_expr (e.after x c)
after (of_stat x) c = below of_stat (s.table.after x c)
after (option d want) c = by_word d want [] c
after (then_expr d want) c = by_word d want (of_expr (e.expr d) ∷ []) c
after (then_type d want) c = by_word d want (type d ∷ []) c
after (then_name d want) c = by_word d want (tok d k.Ident ∷ []) c
after (mark d) c = by_operator (export_of c) d []
after (more_names d) c = by_word d k.Comma (tok d k.Ident ∷ more_names d ∷ []) c
after (more_defs d) c = by_word d k.Comma (tok d k.Ident ∷ mark d ∷ more_defs d ∷ []) c
after (base d) c = by_word d k.OpenParen (tok d k.Ident ∷ then_name d k.Period ∷ tok d k.CloseParen ∷ []) c
after (arrays d) c = by_word d k.KwArray (tok d k.KwOf ∷ arrays d ∷ []) c
after (section d) c = after_section d c
after (sections d) c = after_sections d c
after (more_sections d) c = after_more_sections d c
after (result d) c = by_word d k.Colon (qualident d) c
after (formals d) c = by_word d k.OpenParen (sections d ∷ result d ∷ []) c
after (flag d) c = by_word d k.OpenBrace (tok d k.Ident ∷ tok d k.CloseBrace ∷ []) c
after (body d) c = after_body d c
after (const_defs d) c = by_word d k.Ident (mark d ∷ then_expr d k.Equals ∷ tok d k.Semicolon ∷ const_defs d ∷ []) c
after (type_defs d) c = by_word d k.Ident (mark d ∷ then_type d k.Equals ∷ tok d k.Semicolon ∷ type_defs d ∷ []) c
after (var_defs d) c = by_word d k.Ident (mark d ∷ more_defs d ∷ then_type d k.Colon ∷ tok d k.Semicolon ∷ var_defs d ∷ []) c
after (decl local d) c = after_decl local d c
after (decls local d) c = onward (after_decl local d c) (decls local d ∷ [])
after (type d) c = after_type d c
after (lengths d) c = below of_expr (e.after_exprs d c)
after (fields d) c = by_word d k.Ident (mark d ∷ more_defs d ∷ then_type d k.Colon ∷ []) c
after (more_fields d) c = by_word d k.Semicolon (fields d ∷ more_fields d ∷ []) c
after (more_imports d) c = after_more_imports d c
after (imports d) c = by_word d k.KwImport (tok d k.Ident ∷ then_name d k.Becomes ∷ more_imports d ∷ []) c
after (text d) c = by_word d k.KwModule (text_rest d []) c

abbrev pub needs : Sym → Option ℕ
needs (tok d want) = Some d
needs (of_expr x) = e.needs x
needs (of_stat x) = s.table.needs x
needs (then_expr d want) = Some d
needs (then_type d want) = Some d
needs (section d) = Some d
needs (sections d) = Some d
needs (more_sections d) = Some d
needs (body d) = Some d
needs (decl local d) = Some d
needs (type d) = Some (d + 1)
needs (more_imports d) = Some d
needs (text d) = Some d
needs _ = None

-- the table of modules
abbrev pub table : Table Sym
table = record { after = after; needs = needs }
