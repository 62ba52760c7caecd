use Rattle.std.proofs.Common.{map, refl, ap}
use Rattle.aos_typed.specs.Seen.{seen_procedure}
use Rattle.aos_listing.specs.Listing.{OfProcedure}
use Rattle.aos_listing.proofs.Parts.{led}
use Rattle.aos_listing.proofs.entries.put_module.Goals as goal

pub returns : goal.returns
returns c =
    led _ _ _ _ _ _ _ c.in_ok-put.ensures refl c.in_ok-put_procedures.ensures (ap (λ qs. map (OfProcedure c.args.number) (map seen_procedure qs)) c.as_slice.ensures.value)
