use Rattle.std.proofs.Common.{◌≡◌, ◌++◌, drop, map}
use Rattle.std.specs.List.{zip}
use Rattle.aos_layout.specs.Layout.{cells}
use Rattle.aos_listing.specs.Listing.{part_lines}
use Rattle.aos_listing.specs.Seen.{seen_lines, seen_names}
use Rattle.aos_listing.proofs.lines.put_fields.Given as goal

-- with the lines of the fields that are left, all are there
abbrev pub invariant-loop-number : goal.invariant-loop-number
invariant-loop-number l =
    seen_lines l.lines.items ++ part_lines 3 l.at (zip (drop l.number (seen_names l.names)) (map (cells l.types) (drop l.number l.fields)))
    ≡ seen_lines l.fn.lines.items ++ part_lines 3 l.first (zip (seen_names l.names) (map (cells l.types) l.fields))
