-- What the loop of text_spares keeps.
use Rattle.aos_typed.specs.Seen.{seen_program}
use Rattle.aos_dispatch.specs.Routines.{seen_routine}
use Rattle.aos_uses.specs.Guarded.{Spares}
use Rattle.aos_guard.proofs.Each.{LeftDecides}
use Rattle.aos_guard.proofs.guarded.text_spares.Given as goal

-- what is left decides
abbrev pub invariant-loop-one : goal.invariant-loop-one
invariant-loop-one l = LeftDecides (Spares (seen_program l.dispatch) l.variable l.text (seen_routine l.routine)) l.uses l.one-index
