-- The loop over modules: those before this one don't write the type.
use Rattle.std.proofs.Common.{◌≡◌, drop}
use Rattle.aos_members.specs.Members as members
use Rattle.aos_members.proofs.fields.field_among.Given as goal

abbrev pub invariant-loop-home : goal.invariant-loop-home
invariant-loop-home l = members.field_among l.is_object (drop l.home-index l.homes) l.of l.word ≡ members.field_among l.is_object l.homes l.of l.word
