-- Kinds of tokens by their numbers, and what a token of a kind that must come takes.
use Rattle.std.proofs.Common.{◌≡◌, ℕ, zero, suc, List, [], ◌∷◌, Bool, true, false, Some, None, refl, sym, ap, ◌∙◌, if◌then◌else◌}
use Rattle.std.proofs.lemmas.Bool.{eqb-true, eq-eqb}
use Rattle.std.specs.Prelude.{nat_eq}
use Rattle.aos_scan.specs.declared.token.TokenKind.{TokenKind}
use Rattle.aos_scan.specs.declared.token.TokenKind.TheVariants as k
use Rattle.aos_parse_expr.specs.Symbols as m

code_next : List TokenKind → ℕ → TokenKind
code_next [] n = k.End
code_next (c ∷ cs) zero = c
code_next (c ∷ cs) (suc n) = code_next cs n

decode : ℕ → TokenKind
decode n = code_next (k.Ident ∷ k.Number ∷ k.Char ∷ k.Text ∷ k.End ∷ k.KwArray ∷ k.KwAwait ∷ k.KwBegin ∷ k.KwBy ∷ k.KwCase ∷ k.KwConst ∷ k.KwDiv ∷ k.KwDo ∷ k.KwElse ∷ k.KwElsif ∷ k.KwEnd ∷ k.KwExit ∷ k.KwFor ∷ k.KwIf ∷ k.KwImport ∷ k.KwIn ∷ k.KwIs ∷ k.KwLoop ∷ k.KwMod ∷ k.KwModule ∷ k.KwNil ∷ k.KwObject ∷ k.KwOf ∷ k.KwOr ∷ k.KwPointer ∷ k.KwProcedure ∷ k.KwRecord ∷ k.KwRepeat ∷ k.KwReturn ∷ k.KwThen ∷ k.KwTo ∷ k.KwType ∷ k.KwUntil ∷ k.KwVar ∷ k.KwWhile ∷ k.KwWith ∷ k.Plus ∷ k.Minus ∷ k.Star ∷ k.Slash ∷ k.Tilde ∷ k.Ampersand ∷ k.Period ∷ k.Comma ∷ k.Semicolon ∷ k.Bar ∷ k.OpenParen ∷ k.OpenBracket ∷ k.OpenBrace ∷ k.Caret ∷ k.Equals ∷ k.NotEquals ∷ k.Less ∷ k.LessEqual ∷ k.Greater ∷ k.GreaterEqual ∷ k.Becomes ∷ k.Colon ∷ k.Range ∷ k.CloseParen ∷ k.CloseBracket ∷ k.CloseBrace ∷ []) n

decoded : (c : TokenKind) → decode (m.code c) ≡ c
unfolding decode code_next
decoded k.Ident = refl
decoded k.Number = refl
decoded k.Char = refl
decoded k.Text = refl
decoded k.End = refl
decoded k.KwArray = refl
decoded k.KwAwait = refl
decoded k.KwBegin = refl
decoded k.KwBy = refl
decoded k.KwCase = refl
decoded k.KwConst = refl
decoded k.KwDiv = refl
decoded k.KwDo = refl
decoded k.KwElse = refl
decoded k.KwElsif = refl
decoded k.KwEnd = refl
decoded k.KwExit = refl
decoded k.KwFor = refl
decoded k.KwIf = refl
decoded k.KwImport = refl
decoded k.KwIn = refl
decoded k.KwIs = refl
decoded k.KwLoop = refl
decoded k.KwMod = refl
decoded k.KwModule = refl
decoded k.KwNil = refl
decoded k.KwObject = refl
decoded k.KwOf = refl
decoded k.KwOr = refl
decoded k.KwPointer = refl
decoded k.KwProcedure = refl
decoded k.KwRecord = refl
decoded k.KwRepeat = refl
decoded k.KwReturn = refl
decoded k.KwThen = refl
decoded k.KwTo = refl
decoded k.KwType = refl
decoded k.KwUntil = refl
decoded k.KwVar = refl
decoded k.KwWhile = refl
decoded k.KwWith = refl
decoded k.Plus = refl
decoded k.Minus = refl
decoded k.Star = refl
decoded k.Slash = refl
decoded k.Tilde = refl
decoded k.Ampersand = refl
decoded k.Period = refl
decoded k.Comma = refl
decoded k.Semicolon = refl
decoded k.Bar = refl
decoded k.OpenParen = refl
decoded k.OpenBracket = refl
decoded k.OpenBrace = refl
decoded k.Caret = refl
decoded k.Equals = refl
decoded k.NotEquals = refl
decoded k.Less = refl
decoded k.LessEqual = refl
decoded k.Greater = refl
decoded k.GreaterEqual = refl
decoded k.Becomes = refl
decoded k.Colon = refl
decoded k.Range = refl
decoded k.CloseParen = refl
decoded k.CloseBracket = refl
decoded k.CloseBrace = refl

pub same_code : (a b : TokenKind) → nat_eq (m.code a) (m.code b) ≡ true → a ≡ b
same_code a b h = sym (decoded a) ∙ ap decode (eqb-true _ _ h) ∙ decoded b

pub tok_is : (d : ℕ) (want c : TokenKind) → c ≡ want → m.after_tok d want c ≡ Some (d, [])
tok_is d want c is = ap (λ b. if b then Some (d, []) else None) (eq-eqb _ _ (ap m.code (sym is)))

not_true : (b : Bool) → (b ≡ true → ⊥) → b ≡ false
not_true true h = absurd (h refl)
not_true false h = refl

pub tok_not : (d : ℕ) (want c : TokenKind) → (c ≡ want → ⊥) → m.after_tok d want c ≡ None
tok_not d want c isnt = ap (λ b. if b then Some (d, []) else None) (not_true _ (λ h. isnt (sym (same_code want c h))))
