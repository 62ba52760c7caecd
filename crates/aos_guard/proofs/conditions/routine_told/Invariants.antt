-- What the loop of routine_told keeps.
use Rattle.std.proofs.Common.{drop, map}
use Rattle.aos_typed.specs.Conditions.{conditions_of}
use Rattle.aos_typed.specs.Seen.{seen_program}
use Rattle.aos_dispatch.specs.Routines.{seen_routine}
use Rattle.aos_guard.proofs.Tellings.{Awaits, found_in}
use Rattle.aos_guard.proofs.conditions.routine_told.Given as goal

-- what is told so far and what will be of the rest is told of all
abbrev pub invariant-loop-one : goal.invariant-loop-one
invariant-loop-one l =
    let r = seen_routine l.routine in
    Awaits (seen_program l.dispatch) (conditions_of r) (map (found_in r.home r.own) (drop l.one-index l.one-items)) l.all.items
