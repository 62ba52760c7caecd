-- What the loop of declarer keeps.
use Rattle.std.proofs.Common.{◌≡◌, ◌-◌, length}
use Rattle.aos_typed.specs.Fields.{declarer, declarer_in}
use Rattle.aos_dispatch.proofs.chains.declarer.Given as goal

-- what is left of the bases decides
abbrev pub invariant-loop-step : goal.invariant-loop-step
invariant-loop-step l = declarer_in (length l.types - l._step) l.types l.at l.number ≡ declarer l.types l.fn.t l.number
