use Rattle.std.proofs.Common.{◌≡◌, map, take}
use Rattle.std.specs.List.{flat_map}
use Rattle.aos_entries.specs.Entries as entries
use Rattle.aos_entries.proofs.entries.parameters_of.Given as goal

abbrev pub invariant-loop-section : goal.invariant-loop-section
invariant-loop-section l = l.all.items ≡ map entries.unmarked (flat_map (λ s. s.names) (take l.section-index l.section-items))
