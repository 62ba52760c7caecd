-- What the functions that read one token say.
use Rattle.std.specs.Prelude.{◌≡◌, ◌≢◌, ℕ, ◌≤◌, List, slice_index, IsTrue}
use Rattle.aos_scan.specs.declared.token.Token.{Token}
use Rattle.aos_scan.specs.declared.token.TokenKind.TheVariants.{End}
use Rattle.aos_scan.specs.declared.lexeme.Found.{Found}
use Rattle.aos_scan.specs.Bytes.{is_blank}
use Rattle.aos_scan.specs.Gap.{OpensComment, Gap}
use Rattle.aos_scan.specs.TokenList.{Begins, greatest, StandsIn, end_token}

-- neither a blank nor a comment begins here
pub record EndsGap (text : List ℕ) (at : ℕ) : Type 0 where
  pub no_blank : ¬ IsTrue (is_blank (slice_index text at))
  pub no_comment : ¬ OpensComment text at

-- the token begins here
pub record BeginsAt (text : List ℕ) (at : ℕ) (found : Found) : Type 0 where
  pub begins : Begins text at found.end (record { kind = found.kind; value = found.value })
  pub fits : found.value ≤ greatest found.kind
  pub no_end : found.kind ≢ End

-- the next token from a place on, or the end
pub record IsNext (text : List ℕ) (from : ℕ) (t : Token) : Type 0 where
  pub gap : Gap text from t.start
  pub at_end : t.kind ≡ End → t ≡ end_token text
  pub stands : t.kind ≢ End → StandsIn text t
