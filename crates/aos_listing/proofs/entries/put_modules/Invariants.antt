use Rattle.std.proofs.Common.{◌≡◌, ◌++◌, take, map}
use Rattle.aos_typed.specs.Seen.{seen_module}
use Rattle.aos_listing.specs.Listing.{numbered, module_entries}
use Rattle.aos_listing.specs.Seen.{seen_entries}
use Rattle.aos_listing.proofs.entries.put_modules.Given as goal

-- what was added so far
abbrev pub invariant-loop-module : goal.invariant-loop-module
invariant-loop-module l =
    (seen_entries l.all.items ≡ seen_entries l.fn.all.items ++ numbered module_entries 0 (map seen_module (take l.module-index l.modules)))
    × (l.number ≡ l.module-index)
