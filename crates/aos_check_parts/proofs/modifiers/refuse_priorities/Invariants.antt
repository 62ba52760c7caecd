use Rattle.std.proofs.Common.{◌≡◌, take}
use Rattle.std.specs.List.{flat_map}
use Rattle.aos_symbols.specs.Breaches.{first_after}
use Rattle.aos_check_parts.specs.Parts as judge
use Rattle.aos_check_parts.proofs.modifiers.refuse_priorities.Given as goal

abbrev pub invariant-loop-modifier : goal.invariant-loop-modifier
invariant-loop-modifier l =
    l.found ≡ first_after l.initial.found (flat_map (judge.priority_breaches l.env) (take l.modifier-index l.modifiers))
