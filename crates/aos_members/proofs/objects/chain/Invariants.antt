use Rattle.std.proofs.Common.{◌≡◌, ◌++◌}
use Rattle.aos_members.specs.Members as members
use Rattle.aos_members.proofs.objects.chain.Given as goal

abbrev pub invariant-loop-left : goal.invariant-loop-left
invariant-loop-left l = l.all.items ++ members.chain_by l.left l.env.types l.at ≡ members.chain l.env.types l.fn.of

abbrev pub decreases-loop-left : goal.decreases-loop-left
decreases-loop-left l = l.left
