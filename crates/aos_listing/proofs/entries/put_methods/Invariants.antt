use Rattle.std.proofs.Common.{◌≡◌, ◌++◌, take, map}
use Rattle.aos_typed.specs.Seen.{seen_method, seen_object}
use Rattle.aos_listing.specs.Listing.{OfMethod}
use Rattle.aos_listing.specs.Seen.{seen_entries}
use Rattle.aos_listing.proofs.entries.put_methods.Given as goal

-- what was added so far
abbrev pub invariant-loop-method : goal.invariant-loop-method
invariant-loop-method l =
    seen_entries l.all.items
    ≡ seen_entries l.fn.all.items ++ map (λ m. OfMethod (seen_object l.object) m.procedure) (map seen_method (take l.method-index l.methods))
