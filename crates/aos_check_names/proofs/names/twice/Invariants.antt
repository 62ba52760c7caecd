use Rattle.std.proofs.Common.{◌≡◌, take, drop}
use Rattle.aos_symbols.specs.Breaches.{first_after}
use Rattle.aos_check_names.specs.Names as rules
use Rattle.aos_check_names.proofs.Words.{AreWords}
use Rattle.aos_check_names.proofs.names.twice.Given as goal

abbrev pub invariant-loop-name : goal.invariant-loop-name
invariant-loop-name l = record { breaches : first_after l.found (rules.twice_after l.text (take l.name-index l.names) (drop l.name-index l.names)) ≡ first_after l.initial.found (rules.twice l.text l.names); words : AreWords l.text l.met.keys (take l.name-index l.names) }
