-- Why a text has no token list: the first place at which a rule is broken.
use Rattle.std.specs.Prelude.{◌≡◌, ℕ, ◌<◌, ◌≤◌, List, length, slice_index, slice_range, None, IsTrue}
use Rattle.aos_base.specs.declared.text.Pos.{Pos}
use Rattle.aos_scan.specs.declared.token.Token.{Token}
use Rattle.aos_scan.specs.declared.refusal.Rule.{Rule}
use Rattle.aos_scan.specs.declared.refusal.Rule.TheVariants as rules
use Rattle.aos_scan.specs.declared.refusal.ScanErr.{ScanErr}
use Rattle.aos_scan.specs.declared.refusal.ScanErr.TheVariants as errors
use Rattle.aos_scan.specs.Bytes.{is_blank, is_quote}
use Rattle.aos_scan.specs.Spelling.{Lexeme, lexeme}
use Rattle.aos_scan.specs.Position.{position}
use Rattle.aos_scan.specs.Gap.{OpensComment, IsComment, Gap}
use Rattle.aos_scan.specs.TokenList.{Begins, greatest, AreTokens}

-- no front of what is left is the spelling of a token
abbrev pub NoLexeme : List ℕ → ℕ → Type 0
NoLexeme text at = (k : ℕ) → k ≤ length text → lexeme (slice_range text at k) ≡ None

-- rule 2: no token, blank or comment begins here, nor a string
pub record NothingBegins (text : List ℕ) (at : ℕ) : Type 0 where
  pub within : at < length text
  pub no_blank : ¬ IsTrue (is_blank (slice_index text at))
  pub no_comment : ¬ OpensComment text at
  pub no_quote : ¬ IsTrue (is_quote (slice_index text at))
  pub no_lexeme : NoLexeme text at

-- rule 3: a comment opens here and isn't closed
pub record CommentIsOpen (text : List ℕ) (at : ℕ) : Type 0 where
  pub opens : OpensComment text at
  pub never : (end : ℕ) → ¬ IsComment text at end

-- rule 4: a quote stands here, and no string
pub record StringIsOpen (text : List ℕ) (at : ℕ) : Type 0 where
  pub quote : IsTrue (is_quote (slice_index text at))
  pub no_lexeme : NoLexeme text at

-- rule 5: the number or char here is past the greatest
pub record IsTooBig (text : List ℕ) (at : ℕ) : Type 0 where
  pub end : ℕ
  pub big : Lexeme
  pub begins : Begins text at end big
  pub past : greatest big.kind < big.value

abbrev pub BreaksAt : Rule → List ℕ → ℕ → Type 0
BreaksAt rules.Bad = NothingBegins
BreaksAt rules.OpenComment = CommentIsOpen
BreaksAt rules.OpenString = StringIsOpen
BreaksAt rules.TooBig = IsTooBig

-- From one place to another the text is made of tokens, blanks and comments, and there the rule is broken.
pub record Breaks (text : List ℕ) (from : ℕ) (rule : Rule) (p : Pos) : Type 0 where
  pub tokens : List Token
  pub to : ℕ
  pub at : ℕ
  pub made : AreTokens text from tokens to
  pub gap : Gap text to at
  pub broken : BreaksAt rule text at
  pub place : p ≡ position text at

-- the refusal by a rule at a place
abbrev pub refusal : Rule → Pos → ScanErr
refusal rules.Bad p = errors.Bad p
refusal rules.OpenComment p = errors.OpenComment p
refusal rules.OpenString p = errors.OpenString p
refusal rules.TooBig p = errors.TooBig p

-- what a refusal says of the text from a place on
abbrev pub IsRefusedFrom : List ℕ → ℕ → ScanErr → Type 0
IsRefusedFrom text from (errors.Bad p) = Breaks text from rules.Bad p
IsRefusedFrom text from (errors.OpenComment p) = Breaks text from rules.OpenComment p
IsRefusedFrom text from (errors.OpenString p) = Breaks text from rules.OpenString p
IsRefusedFrom text from (errors.TooBig p) = Breaks text from rules.TooBig p
IsRefusedFrom text from errors.NoMemory = ⊥

-- the text breaks the rule at its place, and none before it
abbrev pub IsRefused : List ℕ → ScanErr → Type 0
IsRefused text e = IsRefusedFrom text 0 e
