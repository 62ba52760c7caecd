use Rattle.std.proofs.Common.{◌≡◌, ◌++◌, take, map}
use Rattle.aos_typed.specs.Seen.{seen_object}
use Rattle.aos_listing.specs.Listing.{numbered, type_entries}
use Rattle.aos_listing.specs.Seen.{seen_entries}
use Rattle.aos_listing.proofs.entries.put_types.Given as goal

-- what was added so far
abbrev pub invariant-loop-object : goal.invariant-loop-object
invariant-loop-object l =
    (seen_entries l.all.items ≡ seen_entries l.fn.all.items ++ numbered type_entries 0 (map seen_object (take l.object-index l.objects)))
    × (l.number ≡ l.object-index)
