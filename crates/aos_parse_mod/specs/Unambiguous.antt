-- The grammar of modules gives tokens at most one tree, and this one end: a module closes itself.
use Rattle.std.specs.Prelude.{◌≡◌, ℕ, List}
use Rattle.aos_scan.specs.declared.token.Token.{Token}
use Rattle.aos_tree.specs.declared.module.Module.{Module}
use Rattle.aos_tree.specs.ModuleGrammar.{IsModule, Reads}
use Rattle.aos_tree.specs.Nesting.{anywhere}

abbrev pub IsUnambiguous : Type 0
IsUnambiguous = (d : ℕ) (a b : Module) (ts rest rest' : List Token) → IsModule anywhere d a ts rest → IsModule anywhere d b ts rest' → (a ≡ b) × (rest ≡ rest')

-- tokens have at most one tree that reads them all
abbrev pub HaveOneTree : Type 0
HaveOneTree = (a b : Module) (ts : List Token) → Reads a ts → Reads b ts → a ≡ b
