-- The loop over what is asked.
use Rattle.std.proofs.Common.{◌≡◌, take}
use Rattle.std.specs.List.{flat_map}
use Rattle.aos_symbols.specs.Breaches.{first_after}
use Rattle.aos_check_types.specs.Limits.{claim_breaches}
use Rattle.aos_check_types.proofs.claims.note_claims.Given as goal

abbrev pub invariant-loop-claim : goal.invariant-loop-claim
invariant-loop-claim l = l.found ≡ first_after l.initial.found (flat_map (claim_breaches l.env) (take l.claim-index l.claim-items))
