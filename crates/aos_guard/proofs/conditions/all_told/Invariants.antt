-- What the loop of all_told keeps.
use Rattle.std.proofs.Common.{drop}
use Rattle.std.specs.List.{flat_map}
use Rattle.aos_typed.specs.Conditions.{conditions}
use Rattle.aos_typed.specs.Seen.{seen_program}
use Rattle.aos_guard.proofs.Tellings.{Awaits, found_of}
use Rattle.aos_guard.proofs.conditions.all_told.Given as goal

-- what is told so far and what will be of the rest is told of all
abbrev pub invariant-loop-routine : goal.invariant-loop-routine
invariant-loop-routine l =
    let p = seen_program l.dispatch in
    Awaits p (conditions p) (flat_map found_of (drop l.routine-index l.routines)) l.all.items
