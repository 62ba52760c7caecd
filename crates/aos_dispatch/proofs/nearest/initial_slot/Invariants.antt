use Rattle.std.proofs.Common.{◌≡◌, drop, map}
use Rattle.aos_typed.specs.Methods.{initial_slot}
use Rattle.aos_typed.specs.Seen.{seen_method}
use Rattle.aos_dispatch.proofs.nearest.initial_slot.Given as goal

-- what is left decides
abbrev pub invariant-loop-method : goal.invariant-loop-method
invariant-loop-method l = initial_slot (map seen_method l.methods) ≡ initial_slot (map seen_method (drop l.method-index l.methods))
