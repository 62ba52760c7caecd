-- The token list of a text.
use Rattle.std.specs.Prelude.{◌≡◌, ◌≢◌, All, ℕ, ◌<◌, ◌≤◌, ◌^◌, ◌-◌, List, [], ◌∷◌, ◌++◌, length, slice_range, Some, None, pos}
use Rattle.aos_scan.specs.declared.token.Token.{Token}
use Rattle.aos_scan.specs.declared.token.TokenKind.{TokenKind}
use Rattle.aos_scan.specs.declared.token.TokenKind.TheVariants.{End, Char}
use Rattle.aos_scan.specs.Spelling.{Lexeme, lexeme}
use Rattle.aos_scan.specs.Position.{position}
use Rattle.aos_scan.specs.Gap.{OpensComment, Gap}

-- The longest token that fits at a place, whose bytes end at another place.
pub record Begins (text : List ℕ) (at end : ℕ) (l : Lexeme) : Type 0 where
  pub no_comment : ¬ OpensComment text at
  pub nonempty : at < end
  pub within : end ≤ length text
  pub spelled : lexeme (slice_range text at end) ≡ Some l
  pub longest : (k : ℕ) → end < k → k ≤ length text → lexeme (slice_range text at k) ≡ None

-- the greatest value of a number, or the greatest code of a char
abbrev pub greatest : TokenKind → ℕ
greatest Char = 255
greatest _ = 2 ^ 63 - 1

-- The token stands in the text at its place.
pub record StandsIn (text : List ℕ) (t : Token) : Type 0 where
  pub value : ℕ
  pub begins : Begins text t.start t.end (record { kind = t.kind; value = value })
  pub fits : value ≤ greatest t.kind
  pub same : t.value ≡ pos value
  pub place : t.pos ≡ position text t.start

-- From one place to the other the text is made of these tokens, with blanks and comments before each.
abbrev pub AreTokens : List ℕ → ℕ → List Token → ℕ → Type 0
AreTokens text from [] to = from ≡ to
AreTokens text from (t ∷ ts) to = Gap text from t.start × StandsIn text t × AreTokens text t.end ts to

-- the token at the end of a text
abbrev pub end_token : List ℕ → Token
end_token text = record { kind = End; start = length text; end = length text; pos = position text (length text); value = pos 0 }

-- The tokens make up the text, with blanks and comments between them, and the last is its end.
pub record IsTokenList (text : List ℕ) (all : List Token) : Type 0 where
  pub tokens : List Token
  pub to : ℕ
  pub made : AreTokens text 0 tokens to
  pub rest : Gap text to (length text)
  pub whole : all ≡ tokens ++ end_token text ∷ []

-- From one place to the other each token begins where the one before it ends, or later.
abbrev pub AreInOrder : ℕ → List Token → ℕ → Type 0
AreInOrder from [] to = from ≤ to
AreInOrder from (t ∷ ts) to = (from ≤ t.start) × (t.start ≤ t.end) × AreInOrder t.end ts to

-- The last token is the text's end, and no other is of its kind.
pub record EndsOnce (text : List ℕ) (all : List Token) : Type 0 where
  pub others : List Token
  pub whole : all ≡ others ++ end_token text ∷ []
  pub no_end : All (λ t. t.kind ≢ End) others
