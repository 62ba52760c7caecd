use Rattle.std.proofs.Common.{◌≡◌, ◌+◌, length}
use Rattle.aos_members.specs.Members as members
use Rattle.aos_members.proofs.fields.fields_before.Given as goal

abbrev pub invariant-loop-left : goal.invariant-loop-left
invariant-loop-left l =
    members.fields_before l.left l.env.types l.at + l.count ≡ members.fields_before (length l.env.types) l.env.types l.fn.of

abbrev pub decreases-loop-left : goal.decreases-loop-left
decreases-loop-left l = l.left
