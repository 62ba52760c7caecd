-- What the loop of has_methods keeps.
use Rattle.std.proofs.Common.{◌≡◌, drop}
use Rattle.aos_dispatch.specs.Tables.{declares_some}
use Rattle.aos_dispatch.proofs.methods.has_methods.Given as goal

-- what is left decides
abbrev pub invariant-loop-object : goal.invariant-loop-object
invariant-loop-object l = declares_some l.objects ≡ declares_some (drop l.object-index l.objects)
