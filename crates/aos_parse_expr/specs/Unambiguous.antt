-- A grammar gives tokens at most one tree: two trees that read the same tokens up to one rest are equal, whatever the rest
-- is, and under any rule for the nesting. `reads` is the production, at a nesting.
use Rattle.std.specs.Prelude.{◌≡◌, ℕ, List}
use Rattle.aos_scan.specs.declared.token.Token.{Token}
use Rattle.aos_tree.specs.Nesting.{Rule}

abbrev pub IsUnambiguous : {A : Type 0} → (ℕ → Rule → A → List Token → List Token → Type 0) → Type 0
IsUnambiguous {A} reads = (d : ℕ) (may : Rule) (a b : A) (ts rest : List Token) → reads d may a ts rest → reads d may b ts rest → a ≡ b
