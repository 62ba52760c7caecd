use Rattle.std.proofs.Common.{◌≡◌, drop, fold}
use Rattle.aos_base.specs.declared.priority.Priority.TheVariants.{Normal}
use Rattle.aos_check_parts.specs.Parts as judge
use Rattle.aos_check_parts.proofs.modifiers.said_by_all.Given as goal

-- what is left decides
abbrev pub invariant-loop-modifier : goal.invariant-loop-modifier
invariant-loop-modifier l = fold (judge.said_by l.env) l.priority (drop l.modifier-index l.modifiers) ≡ fold (judge.said_by l.env) Normal l.modifiers
