-- The loop over what is asked: the table is that of the claims so far.
use Rattle.std.proofs.Common.{◌≡◌, drop, fold}
use Rattle.aos_check_types.specs.Limits.{without_base}
use Rattle.aos_check_types.proofs.claims.drop_bases.Given as goal

abbrev pub invariant-loop-claim : goal.invariant-loop-claim
invariant-loop-claim l = fold without_base l.types (drop l.claim-index l.claims) ≡ fold without_base l.initial.types l.claims
