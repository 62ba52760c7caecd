use Rattle.std.proofs.Common.{◌≡◌}
use Rattle.aos_members.specs.Members as members
use Rattle.aos_members.proofs.chain.declarer.Given as goal

abbrev pub invariant-loop-left : goal.invariant-loop-left
invariant-loop-left l =
    members.first_along (λ u. members.stands_in l.at (members.object l.env u)) (members.chain_by l.left l.env.types l.here) ≡ members.declarer l.env l.at l.fn.of

abbrev pub decreases-loop-left : goal.decreases-loop-left
decreases-loop-left l = l.left
