-- What the loop of put_named keeps.
use Rattle.aos_typed.specs.Seen.{seen_program}
use Rattle.aos_guard.proofs.Adds.{Adds}
use Rattle.aos_guard.proofs.Edges.{LeadBefore}
use Rattle.aos_guard.proofs.quiet.put_named.Given as goal

-- the edges of the types before this one
abbrev pub invariant-loop-owner : goal.invariant-loop-owner
invariant-loop-owner l = Adds l.marks l.fn.edges.items l.edges.items (λ set. LeadBefore (seen_program l.dispatch) set l.slot l.named l.to l.owner)
