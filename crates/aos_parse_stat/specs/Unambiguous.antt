-- The grammar of blocks gives tokens at most one tree, and this one end: a block closes itself.
use Rattle.std.specs.Prelude.{◌≡◌, ℕ, List}
use Rattle.aos_scan.specs.declared.token.Token.{Token}
use Rattle.aos_tree.specs.declared.stat.Block.{Block}
use Rattle.aos_tree.specs.Nesting.{anywhere}
use Rattle.aos_parse_stat.specs.Grammar.{block_at}

abbrev pub IsUnambiguous : Type 0
IsUnambiguous = (d : ℕ) (a b : Block) (ts rest rest' : List Token) → block_at d anywhere a ts rest → block_at d anywhere b ts rest' → (a ≡ b) × (rest ≡ rest')
