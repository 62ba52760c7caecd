use Rattle.std.proofs.Common.{◌<◌, ◌++◌, All, length, map, drop, sym, ap, ◌∙◌, subst, arith}
use Rattle.aos_typed.specs.Conditions.{conditions, conditions_of}
use Rattle.aos_typed.specs.declared.tree.Program.{Program as TProgram}
use Rattle.aos_typed.specs.Seen.{seen_program}
use Rattle.aos_layout.proofs.Frames.{there_at}
use Rattle.aos_dispatch.specs.Routines.{IsTyped, seen_routine, seen_routines}
use Rattle.aos_dispatch.proofs.Listed.{routines_typed}
use Rattle.aos_emit.specs.Conditions.{of_body, of_condition}
use Rattle.aos_emit.proofs.Awaited.{of_routines, routines_first, routines_next, routines_last, codes_are, depths_are}
use Rattle.aos_emit.proofs.conditions.conditions_of.Goals as goal

pub put_conditions-requires : goal.put_conditions-requires
put_conditions-requires c =
    let p = seen_program c.args.program.now in
    let rs = c.deref-routine-items.result.now in
    let k = c.loop-routine.routine-index in
    let r = c.routine-item.result in
    let lt : k < length rs = omega arith in
    let all = subst (All (IsTyped p)) (sym (ap seen_routines c.deref-routine-items.ensures.value ∙ c.in_ok-routines.ensures)) (routines_typed p c.requires.typed) in
    record { typed = subst (λ (x : TProgram). IsTyped (seen_program x) (seen_routine r)) (sym c.in_ok-laid.ensures.laid) (there_at (IsTyped p) seen_routine rs k r lt all c.routine-item.is) }

pub loop-routine-init : goal.loop-routine-init
loop-routine-init c =
    let p = seen_program c.args.program.now in
    let rs = c.deref-routine-items.result.now in
    ap (λ l. map of_body l ++ of_routines p (drop 0 rs)) c.new-conds.ensures.items
    ∙ routines_first p rs (ap seen_routines c.deref-routine-items.ensures.value ∙ c.in_ok-routines.ensures)

pub loop-routine-preserved : goal.loop-routine-preserved
loop-routine-preserved c =
    let p = seen_program c.args.program.now in
    let rs = c.deref-routine-items.result.now in
    let k = c.loop-routine.routine-index in
    let r = c.routine-item.result in
    let bs = c.loop-routine.conds.items in
    let lt : k < length rs = omega arith in
    let put = c.in_ok-put_conditions.ensures ∙ ap (λ (x : TProgram). map of_body bs ++ map (of_condition (seen_program x)) (conditions_of (seen_routine r))) c.in_ok-laid.ensures.laid in
    routines_next p rs k r bs _ _ lt c.routine-item.is put c.loop-routine.invariant

pub returns-clause-code : goal.returns-clause-code
returns-clause-code c =
    let p = seen_program c.args.program.now in
    let bs = c.loop-routine.conds.items in
    codes_are p bs (conditions p) (routines_last p c.deref-routine-items.result.now c.loop-routine.routine-index bs _ c.loop-routine-test.false c.loop-routine.invariant)

pub returns-clause-depths : goal.returns-clause-depths
returns-clause-depths c =
    let p = seen_program c.args.program.now in
    let bs = c.loop-routine.conds.items in
    depths_are p bs (conditions p) (routines_last p c.deref-routine-items.result.now c.loop-routine.routine-index bs _ c.loop-routine-test.false c.loop-routine.invariant)
