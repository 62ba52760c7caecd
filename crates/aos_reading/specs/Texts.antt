-- What one text reads as: a tree, or the rule that it breaks.
use Rattle.std.specs.Prelude.{ℕ, List, [], ◌∷◌}
use Rattle.aos_base.specs.declared.text.Pos.{Pos}
use Rattle.aos_scan.specs.declared.token.Token.{Token}
use Rattle.aos_scan.specs.declared.refusal.ScanErr.{ScanErr}
use Rattle.aos_scan.specs.declared.refusal.ScanErr.TheVariants.{Bad, OpenComment, OpenString, TooBig, NoMemory as ScanNoMemory}
use Rattle.aos_scan.specs.TokenList.{IsTokenList}
use Rattle.aos_scan.specs.Refusal.{IsRefused as IsRefusedByScanner}
use Rattle.aos_tree.specs.declared.module.Module.{Module as Tree}
use Rattle.aos_tree.specs.Begins.{ExpectsAt, TooDeepAt}
use Rattle.aos_tree.specs.ModuleGrammar.{Reads}
use Rattle.aos_parse_mod.specs.Text.{module_at}
use Rattle.aos_symbols.specs.declared.breach.Breach.{Breach}
use Rattle.aos_reading.specs.Files.{Reading, tree, broken}

-- the tree reads the tokens of the text
pub record IsTreeOf (text : List ℕ) (m : Tree) : Type 0 where
  pub tokens : List Token
  pub scanned : IsTokenList text tokens
  pub reads : Reads m tokens

abbrev pub breach_at : ℕ → Pos → Breach
breach_at rule at = record { rule = rule; pos = at }

-- the rules of the scanner
abbrev pub scan_breach : ScanErr → Breach
scan_breach (Bad p) = breach_at 2 p
scan_breach (OpenComment p) = breach_at 3 p
scan_breach (OpenString p) = breach_at 4 p
scan_breach (TooBig p) = breach_at 5 p
scan_breach ScanNoMemory = breach_at 0 (record { line = 0; col = 0 })

-- A text is read by a tree, or breaks a rule of the scanner; or another token is expected, 6, or the nesting is too deep, 7.
pub data IsReading (text : List ℕ) : Reading → Type 0 where
  by_tree : {m : Tree} → IsTreeOf text m → IsReading text (tree m)
  by_scanner : (e : ScanErr) → IsRefusedByScanner text e → IsReading text (broken (scan_breach e))
  by_syntax : {tokens : List Token} (p : Pos) → IsTokenList text tokens → ExpectsAt module_at tokens p → IsReading text (broken (breach_at 6 p))
  by_nesting : {tokens : List Token} (p : Pos) → IsTokenList text tokens → TooDeepAt module_at tokens p → IsReading text (broken (breach_at 7 p))

-- each of the texts has its reading
abbrev pub AreReadings : List (List ℕ) → List Reading → Type 0
AreReadings [] [] = Unit {0}
AreReadings [] (r ∷ rs) = ⊥
AreReadings (text ∷ texts) [] = ⊥
AreReadings (text ∷ texts) (r ∷ rs) = IsReading text r × AreReadings texts rs
