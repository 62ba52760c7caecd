-- The laws of token lists: a text has one, or breaks one rule at one place.
use Rattle.std.specs.Prelude.{◌≡◌, ℕ, List}
use Rattle.aos_scan.specs.declared.token.Token.{Token}
use Rattle.aos_scan.specs.declared.refusal.ScanErr.{ScanErr}
use Rattle.aos_scan.specs.TokenList.{IsTokenList}
use Rattle.aos_scan.specs.Refusal.{IsRefused}

abbrev pub OneTokenList : Type 0
OneTokenList = (text : List ℕ) (all others : List Token) → IsTokenList text all → IsTokenList text others → all ≡ others

abbrev pub OneRefusal : Type 0
OneRefusal = (text : List ℕ) (e f : ScanErr) → IsRefused text e → IsRefused text f → e ≡ f

abbrev pub NotBoth : Type 0
NotBoth = (text : List ℕ) (all : List Token) (e : ScanErr) → IsTokenList text all → ¬ IsRefused text e
