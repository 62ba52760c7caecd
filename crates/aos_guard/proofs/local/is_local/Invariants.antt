-- What the loop of is_local keeps.
use Rattle.aos_typed.specs.Seen.{seen_program}
use Rattle.aos_dispatch.specs.Routines.{seen_routine}
use Rattle.aos_uses.specs.Guarded.{Lets}
use Rattle.aos_guard.proofs.Each.{LeftDecides}
use Rattle.aos_guard.proofs.local.is_local.Given as goal

-- what is left decides
abbrev pub invariant-loop-one : goal.invariant-loop-one
invariant-loop-one l = let r = seen_routine l.routine in LeftDecides (Lets (seen_program l.dispatch) r.home r.own) l.uses l.one-index
