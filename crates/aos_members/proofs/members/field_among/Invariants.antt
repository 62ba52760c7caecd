use Rattle.std.proofs.Common.{◌≡◌}
use Rattle.aos_members.specs.Members as members
use Rattle.aos_members.proofs.members.field_among.Given as goal

abbrev pub invariant-loop-left : goal.invariant-loop-left
invariant-loop-left l = members.field_by l.left l.env l.at l.name ≡ members.field l.env l.fn.of l.name

abbrev pub decreases-loop-left : goal.decreases-loop-left
decreases-loop-left l = l.left
