use Rattle.std.proofs.Common.{◌≡◌}
use Rattle.aos_typed.specs.Seen.{seen_place}
use Rattle.aos_known.specs.Places as judge
use Rattle.aos_known.proofs.places.is_passed.Given as goal

abbrev pub invariant-loop-inner : goal.invariant-loop-inner
invariant-loop-inner l = judge.is_passed (seen_place l.inner) ≡ judge.is_passed (seen_place l.place)
