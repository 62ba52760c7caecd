-- What the loop of conditions_of keeps.
use Rattle.std.proofs.Common.{◌≡◌, ◌++◌, drop, map}
use Rattle.aos_typed.specs.Conditions.{conditions}
use Rattle.aos_typed.specs.Seen.{seen_program}
use Rattle.aos_emit.specs.Conditions.{of_body, of_condition}
use Rattle.aos_emit.proofs.Awaited.{of_routines}
use Rattle.aos_emit.proofs.conditions.conditions_of.Given as goal

-- what is there and what is left are all
abbrev pub invariant-loop-routine : goal.invariant-loop-routine
invariant-loop-routine l =
    let p = seen_program l.program in
    map of_body l.conds.items ++ of_routines p (drop l.routine-index l.routine-items) ≡ map (of_condition p) (conditions p)
