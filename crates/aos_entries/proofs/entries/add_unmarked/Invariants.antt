use Rattle.std.proofs.Common.{◌≡◌, ◌++◌, map, take}
use Rattle.aos_entries.specs.Entries as entries
use Rattle.aos_entries.proofs.entries.add_unmarked.Given as goal

abbrev pub invariant-loop-name : goal.invariant-loop-name
invariant-loop-name l = l.all.items ≡ l.initial.all.items ++ map entries.unmarked (take l.name-index l.names)
