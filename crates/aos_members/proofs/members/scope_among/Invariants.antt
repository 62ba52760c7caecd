use Rattle.std.proofs.Common.{◌≡◌, drop}
use Rattle.aos_members.specs.Members as members
use Rattle.aos_members.proofs.members.scope_among.Given as goal

abbrev pub invariant-loop-home : goal.invariant-loop-home
invariant-loop-home l = members.scope_among l.is_object (drop l.home-index l.homes) l.of ≡ members.scope_among l.is_object l.homes l.of
