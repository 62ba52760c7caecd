use Rattle.std.proofs.Common.{◌<◌, ◌≤◌, take}
use Rattle.aos_types.specs.declared.row.TypeId.{TypeId}
use Rattle.aos_types.specs.Chain as chain
use Rattle.aos_types.proofs.count.above_all.Given as goal

abbrev pub invariant-loop-t : goal.invariant-loop-t
invariant-loop-t l = ((p : TypeId) → chain.IsOneOf p (take l.t-index l.types) → p.0 < l.above) × (l.least ≤ l.above)
