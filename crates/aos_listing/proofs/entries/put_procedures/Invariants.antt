use Rattle.std.proofs.Common.{◌≡◌, ◌++◌, take, map}
use Rattle.aos_typed.specs.Seen.{seen_procedure}
use Rattle.aos_listing.specs.Listing.{OfProcedure}
use Rattle.aos_listing.specs.Seen.{seen_entries}
use Rattle.aos_listing.proofs.entries.put_procedures.Given as goal

-- what was added so far
abbrev pub invariant-loop-procedure : goal.invariant-loop-procedure
invariant-loop-procedure l =
    seen_entries l.all.items ≡ seen_entries l.fn.all.items ++ map (OfProcedure l.home) (map seen_procedure (take l.procedure-index l.procedures))
