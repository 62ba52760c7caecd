use Rattle.std.proofs.Common.{map, refl, ap}
use Rattle.aos_typed.specs.Program.{Method}
use Rattle.aos_typed.specs.Seen.{seen_method, seen_object}
use Rattle.aos_listing.specs.Listing.{OfMethod}
use Rattle.aos_listing.proofs.Parts.{led}
use Rattle.aos_listing.proofs.entries.put_type.Goals as goal

pub returns : goal.returns
returns c =
    led _ _ _ _ _ _ _ c.in_ok-put.ensures refl c.in_ok-put_methods.ensures
    (ap (λ ms. map (λ (m : Method). OfMethod (seen_object c.args.object.now) m.procedure) (map seen_method ms)) c.as_slice.ensures.value)
