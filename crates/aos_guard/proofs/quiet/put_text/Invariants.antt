-- What the loop of put_text keeps.
use Rattle.aos_typed.specs.Seen.{seen_program}
use Rattle.aos_guard.proofs.Adds.{Left}
use Rattle.aos_guard.proofs.quiet.put_text.Given as goal

-- the edges so far and the uses that are left say what all uses do
abbrev pub invariant-loop-one : goal.invariant-loop-one
invariant-loop-one l = Left l.marks (seen_program l.dispatch) l.fn.edges.items l.edges.items l.text l.uses l.one-index
