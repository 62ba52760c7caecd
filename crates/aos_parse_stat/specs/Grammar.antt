-- A block at a nesting that is open round it, in the form that the contracts of parsers take, and the parts of statements
-- for which the grammar has no word of its own.
use Rattle.std.specs.Prelude.{ℕ, List, [], ◌∷◌}
use Rattle.aos_base.specs.declared.text.Pos.{Pos}
use Rattle.aos_scan.specs.declared.token.Token.{Token}
use Rattle.aos_scan.specs.declared.token.TokenKind.TheVariants as k
use Rattle.aos_tree.specs.declared.stat.Block.{Block}
use Rattle.aos_tree.specs.declared.stat.Case.{Case}
use Rattle.aos_tree.specs.declared.stat.Modifier.{Modifier}
use Rattle.aos_tree.specs.Nesting.{Rule}
use Rattle.aos_tree.specs.StatGrammar.{IsBlock, IsCase, IsMoreCases, IsModifiers}
use Rattle.aos_tree.specs.Words.{IsWord}

abbrev pub block_at : ℕ → Rule → Block → List Token → List Token → Type 0
block_at d may tree ts rest = IsBlock may d tree ts rest

-- Case {"|" Case}
pub data IsCases (may : Rule) (d : ℕ) : List Case → List Token → List Token → Type 0 where
  cases : {a : Case} {more : List Case} {ts mid rest : List Token} →
      IsCase may d a ts mid → IsMoreCases may d more mid rest → IsCases may d (a ∷ more) ts rest

-- ["{" Modifier {"," Modifier} "}"]
pub data IsMarking (may : Rule) (d : ℕ) : List Modifier → List Token → List Token → Type 0 where
  unmarked : {ts : List Token} → IsMarking may d [] ts ts
  marked : {p : Pos} {all : List Modifier} {ts mid rest : List Token} →
      IsWord may d k.OpenBrace p ts mid → IsModifiers may d all mid rest → IsMarking may d all ts rest
