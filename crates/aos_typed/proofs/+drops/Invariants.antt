use Rattle.std.proofs.Common.{◌≤◌}
use Rattle.aos_typed.specs.declared.tree.TPlace.{size-TPlace}
use Rattle.aos_typed.specs.declared.tree.TExpr.{size-TExpr}
use Rattle.aos_typed.proofs.+drops.Given as goal

-- what is left to drop is no deeper than the whole
abbrev pub invariant-tree::TExpr::drop-loop-self : goal.invariant-tree::TExpr::drop-loop-self
invariant-tree::TExpr::drop-loop-self l = size-TExpr l.self ≤ size-TExpr l.initial.self

abbrev pub invariant-tree::TPlace::drop-loop-self : goal.invariant-tree::TPlace::drop-loop-self
invariant-tree::TPlace::drop-loop-self l = size-TPlace l.self ≤ size-TPlace l.initial.self
