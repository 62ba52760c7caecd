-- How loosely a token joins what stands before it, and the symbols that take a word: 1 to 3 what goes on with an
-- expression, a name or a heading, 4 a comma, 5 a colon, 6 a name, 7 a semicolon or a section, 8 the rest.
use Rattle.std.proofs.Common.{◌≡◌, ℕ, ◌≤◌, ◌<◌, Bool, true, false, Some, None, refl, sym, ap, arith, if◌then◌else◌}
use Rattle.std.proofs.lemmas.Bool.{eq-eqb}
use Rattle.aos_scan.specs.declared.token.TokenKind.{TokenKind}
use Rattle.aos_scan.specs.declared.token.TokenKind.TheVariants as k
use Rattle.aos_tree.specs.declared.decl.Export.{Export}
use Rattle.aos_tree.specs.Operators.{export_of}
use Rattle.aos_parse_expr.proofs.ExprWalk as below
use Rattle.aos_parse_expr.proofs.Words as words
use Rattle.aos_parse_mod.specs.Symbols.{Stack, by_word}

abbrev pub joins : TokenKind → ℕ
joins k.Period = 1
joins k.Star = 1
joins k.Minus = 1
joins k.Plus = 1
joins k.KwOr = 1
joins k.Slash = 1
joins k.KwDiv = 1
joins k.KwMod = 1
joins k.Ampersand = 1
joins k.OpenBracket = 1
joins k.Caret = 1
joins k.KwArray = 1
joins k.KwImport = 1
joins k.Becomes = 1
joins k.OpenBrace = 2
joins k.CloseParen = 2
joins k.Equals = 2
joins k.NotEquals = 2
joins k.Less = 2
joins k.LessEqual = 2
joins k.Greater = 2
joins k.GreaterEqual = 2
joins k.KwIn = 2
joins k.KwIs = 2
joins k.OpenParen = 3
joins k.Range = 4
joins k.Comma = 4
joins k.Colon = 5
joins k.Ident = 6
joins k.Semicolon = 7
joins k.KwConst = 7
joins k.KwType = 7
joins k.KwVar = 7
joins k.KwProcedure = 7
joins _ = 8

-- each joins something
pub some : (c : TokenKind) → 0 < joins c
some k.Period = omega arith
some _ = omega arith

-- what joins more loosely than a parenthesis goes on with no expression
pub past_expr : (c : TokenKind) → 3 < joins c → 4 < below.joins c
past_expr k.Period h = absurd (omega arith)
past_expr _ h = omega arith

-- the move of a word
pub word_is : (d : ℕ) (want : TokenKind) (xs : Stack) → by_word d want xs want ≡ Some (d, xs)
word_is d want xs = ap (λ b. if b then Some (d, xs) else None) (eq-eqb _ _ refl)

not_true : (b : Bool) → (b ≡ true → ⊥) → b ≡ false
not_true true h = absurd (h refl)
not_true false h = refl

pub word_not : (d : ℕ) (want c : TokenKind) (xs : Stack) → (c ≡ want → ⊥) → by_word d want xs c ≡ None
word_not d want c xs isnt = ap (λ b. if b then Some (d, xs) else None) (not_true _ (λ h. isnt (sym (words.same_code want c h))))

-- a word is not taken where a token joins more loosely
pub loose_word : (l d : ℕ) (want c : TokenKind) (xs : Stack) → joins want ≤ l → l < joins c → by_word d want xs c ≡ None
loose_word l d want c xs le h = word_not d want c xs (λ is. let a : joins c ≡ joins want = ap joins is in omega arith)

pub mark_joins : (c : TokenKind) (a : Export) → export_of c ≡ Some a → joins c ≡ 1
mark_joins k.Star a h = refl
mark_joins k.Minus a h = refl
mark_joins _ a h = absurd (cc)
