use Rattle.std.proofs.Common.{◌≡◌, drop}
use Rattle.aos_dispatch.specs.Nearest.{tells_some}
use Rattle.aos_dispatch.proofs.nearest.tells_some.Given as goal

-- what is left decides
abbrev pub invariant-loop-object : goal.invariant-loop-object
invariant-loop-object l = tells_some l.asked l.objects ≡ tells_some l.asked (drop l.object-index l.objects)
