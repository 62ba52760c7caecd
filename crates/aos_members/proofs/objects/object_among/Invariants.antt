use Rattle.std.proofs.Common.{◌≡◌, drop}
use Rattle.aos_members.specs.Members as members
use Rattle.aos_members.proofs.objects.object_among.Given as goal

abbrev pub invariant-loop-home : goal.invariant-loop-home
invariant-loop-home l = members.object_among (drop l.home-index l.homes) l.of ≡ members.object_among l.homes l.of
