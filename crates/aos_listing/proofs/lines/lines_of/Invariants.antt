use Rattle.std.proofs.Common.{◌≡◌, take, map}
use Rattle.std.specs.List.{flat_map}
use Rattle.aos_listing.specs.Listing.{entry_lines}
use Rattle.aos_listing.specs.Seen.{seen_entry, seen_lines}
use Rattle.aos_listing.proofs.lines.lines_of.Given as goal

-- what was added so far
abbrev pub invariant-loop-entry : goal.invariant-loop-entry
invariant-loop-entry l = seen_lines l.lines.items ≡ flat_map (entry_lines l.types) (map seen_entry (take l.entry-index l.entries))
