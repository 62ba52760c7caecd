-- What the loop of comes_to keeps.
use Rattle.std.proofs.Common.{◌≡◌, ◌-◌, length}
use Rattle.aos_types.specs.Extension.{comes_by, comes_to}
use Rattle.aos_dispatch.proofs.chains.comes_to.Given as goal

-- what is left of the bases decides
abbrev pub invariant-loop-step : goal.invariant-loop-step
invariant-loop-step l = comes_by (length l.types - l._step) l.types l.at l.b ≡ comes_to l.types l.fn.a l.b
