use Rattle.std.proofs.Common.{◌≡◌, map, take}
use Rattle.aos_typed.specs.Seen.{seen_parameter}
use Rattle.aos_layout.specs.Frame.{parameter_kind}
use Rattle.aos_layout.proofs.frame.parameter_kinds.Given as goal

abbrev pub invariant-loop-parameter : goal.invariant-loop-parameter
invariant-loop-parameter l = l.kinds.items ≡ map (parameter_kind l.types) (map seen_parameter (take l.parameter-index l.parameters))
