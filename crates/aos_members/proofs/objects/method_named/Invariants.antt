use Rattle.std.proofs.Common.{◌≡◌}
use Rattle.aos_members.specs.Members as members
use Rattle.aos_members.proofs.objects.method_named.Given as goal

abbrev pub invariant-loop-left : goal.invariant-loop-left
invariant-loop-left l = members.method_along l.env l.word (members.chain_by l.left l.env.types l.at) ≡ members.method_named l.env l.fn.of l.word

abbrev pub decreases-loop-left : goal.decreases-loop-left
decreases-loop-left l = l.left
