-- The loop over what is asked of types: the first breach is that of the claims so far.
use Rattle.std.proofs.Common.{◌≡◌, take}
use Rattle.std.specs.List.{flat_map}
use Rattle.aos_symbols.specs.Breaches.{first_after}
use Rattle.aos_check_types.specs.Limits.{asked_result}
use Rattle.aos_check_types.proofs.limits.note_all_asked.Given as goal

abbrev pub invariant-loop-claim : goal.invariant-loop-claim
invariant-loop-claim l = l.found ≡ first_after l.initial.found (flat_map (asked_result l.flags l.env.types) (take l.claim-index l.claim-items))
