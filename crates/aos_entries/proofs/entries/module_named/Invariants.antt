use Rattle.std.proofs.Common.{◌≡◌, drop}
use Rattle.aos_entries.specs.Entries as entries
use Rattle.aos_entries.proofs.entries.module_named.Given as goal

abbrev pub invariant-loop-number : goal.invariant-loop-number
invariant-loop-number l = entries.among l.word l.number (drop l.number l.homes) ≡ entries.among l.word 0 l.homes
