-- What can be told of a text: that a tree reads it, the place where another token is expected, or the place where the
-- nesting passes the limit. Each excludes the others, and each error is told of one place alone, so that a parser that
-- tells one tells exactly what holds.
use Rattle.std.specs.Prelude.{◌≡◌, List}
use Rattle.aos_base.specs.declared.text.Pos.{Pos}
use Rattle.aos_scan.specs.declared.token.Token.{Token}
use Rattle.aos_tree.specs.declared.module.Module.{Module}
use Rattle.aos_tree.specs.Begins.{ExpectsAt, TooDeepAt}
use Rattle.aos_tree.specs.ModuleGrammar.{Reads}
use Rattle.aos_parse_mod.specs.Text.{module_at}

pub record ExcludeOneAnother (ts : List Token) : Type 0 where
  pub one_expected : (p q : Pos) → ExpectsAt module_at ts p → ExpectsAt module_at ts q → p ≡ q
  pub one_deep : (p q : Pos) → TooDeepAt module_at ts p → TooDeepAt module_at ts q → p ≡ q
  pub read_or_expected : (a : Module) (p : Pos) → Reads a ts → ExpectsAt module_at ts p → ⊥
  pub read_or_deep : (a : Module) (p : Pos) → Reads a ts → TooDeepAt module_at ts p → ⊥
  pub expected_or_deep : (p q : Pos) → ExpectsAt module_at ts p → TooDeepAt module_at ts q → ⊥
