-- What the loop of put_conditions keeps.
use Rattle.std.proofs.Common.{◌≡◌, ◌++◌, drop, map}
use Rattle.aos_typed.specs.Conditions.{conditions_of}
use Rattle.aos_typed.specs.Seen.{seen_program}
use Rattle.aos_dispatch.specs.Routines.{seen_routine}
use Rattle.aos_emit.specs.Conditions.{of_body, of_condition}
use Rattle.aos_emit.proofs.Awaited.{of_awaits}
use Rattle.aos_emit.proofs.conditions.put_conditions.Given as goal

-- what is there and what is left are all
abbrev pub invariant-loop-one : goal.invariant-loop-one
invariant-loop-one l =
    let p = seen_program l.laid in
    let r = seen_routine l.routine in
    map of_body l.conds.items ++ of_awaits p r (drop l.one-index l.one-items) ≡ map of_body l.fn.conds.items ++ map (of_condition p) (conditions_of r)
