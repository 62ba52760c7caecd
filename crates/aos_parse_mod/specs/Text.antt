-- The text of a module: the module, and the end of the text. In the form that the words for where tokens begin a tree take.
use Rattle.std.specs.Prelude.{◌≡◌, List, [], ◌∷◌}
use Rattle.aos_base.specs.declared.text.Pos.{Pos}
use Rattle.aos_scan.specs.declared.token.Token.{Token}
use Rattle.aos_scan.specs.declared.token.TokenKind.TheVariants as k
use Rattle.aos_tree.specs.declared.module.Module.{Module}
use Rattle.aos_tree.specs.Nesting.{Rule}
use Rattle.aos_tree.specs.Words.{IsWord}
use Rattle.aos_tree.specs.ModuleGrammar.{IsModule}

pub record module_at (may : Rule) (tree : Module) (ts rest : List Token) : Type 0 where
  pub mid : List Token
  pub place : Pos
  pub reads : IsModule may 0 tree ts mid
  pub end : IsWord may 0 k.End place mid rest

-- the end of a text, and no more
abbrev pub IsEnd : List Token → Type 0
IsEnd ts = (t : Token) × (t.kind ≡ k.End) × (ts ≡ t ∷ [])
