-- What the loop of edges_of keeps.
use Rattle.aos_typed.specs.Seen.{seen_program}
use Rattle.aos_guard.proofs.Adds.{Says}
use Rattle.aos_guard.proofs.quiet.edges_of.Given as goal

-- the edges of the texts before this one
abbrev pub invariant-loop-index : goal.invariant-loop-index
invariant-loop-index l = Says l.marks (seen_program l.dispatch) l.edges.items l.texts l.index
