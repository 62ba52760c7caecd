-- What the loop of has_below keeps.
use Rattle.aos_typed.specs.Seen.{seen_program}
use Rattle.aos_guard.proofs.Edges.{BelowBefore}
use Rattle.aos_guard.proofs.quiet.has_below.Given as goal

-- no base before this one
abbrev pub invariant-loop-base : goal.invariant-loop-base
invariant-loop-base l = BelowBefore (seen_program l.dispatch) l.owner l.slot l.named l.base
