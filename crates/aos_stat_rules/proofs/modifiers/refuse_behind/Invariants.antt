use Rattle.std.proofs.Common.{◌≡◌, drop}
use Rattle.aos_symbols.specs.Breaches.{first_after}
use Rattle.aos_stat_rules.specs.Statements as judge
use Rattle.aos_stat_rules.proofs.modifiers.refuse_behind.Given as goal

abbrev pub invariant-loop-modifier : goal.invariant-loop-modifier
invariant-loop-modifier l =
    first_after l.found (judge.breaches_behind l.text l.may_be_active l.may_be_exclusive l.may_have_priority (drop l.modifier-index l.modifiers))
    ≡ first_after l.initial.found (judge.breaches_behind l.text l.initial.may_be_active l.initial.may_be_exclusive l.initial.may_have_priority l.modifiers)
