use Rattle.std.proofs.Common.{◌≡◌, drop}
use Rattle.aos_symbols.specs.Scope as names
use Rattle.aos_entries.specs.Entries as entries
use Rattle.aos_entries.proofs.entries.declare_numbered.Given as goal

abbrev pub invariant-loop-number : goal.invariant-loop-number
invariant-loop-number l =
    names.with_names l.scope (entries.numbered l.text l.of l.number (drop l.number l.defs)) ≡ names.with_names l.initial.scope (entries.numbered l.text l.of 0 l.defs)
