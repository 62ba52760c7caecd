-- The loop over definitions of types.
use Rattle.std.proofs.Common.{◌≡◌, ◌++◌, map, take}
use Rattle.aos_check_types.specs.Limits.{defined_at}
use Rattle.aos_check_types.proofs.limits.add_defined.Given as goal

abbrev pub invariant-loop-def : goal.invariant-loop-def
invariant-loop-def l = l.written.items ≡ l.initial.written.items ++ map defined_at (take l.def-index l.defs)
