use Rattle.std.proofs.Common.{◌≡◌, map, take}
use Rattle.aos_symbols.specs.Declarations.{seen_types}
use Rattle.aos_members.specs.Members.{IsSoFar}
use Rattle.aos_check_types.specs.Methods as judge
use Rattle.aos_check_types.proofs.methods.slots_of.Given as goal

abbrev pub invariant-loop-def : goal.invariant-loop-def
invariant-loop-def l = record {
  slots : l.slots.items ≡ map (judge.definition_slots l.env) (seen_types (take l.def-index l.defs));
  so_far : IsSoFar l.env l.so_far;
}
