use Rattle.std.proofs.Common.{◌<◌, length, map, ap, ◌∙◌, arith}
use Rattle.aos_typed.specs.Seen.{seen_program}
use Rattle.aos_dispatch.specs.Awaits.{seen_await}
use Rattle.aos_dispatch.specs.Routines.{seen_routine}
use Rattle.aos_emit.proofs.Awaited.{awaits_first, awaits_next, awaits_last}
use Rattle.aos_emit.proofs.conditions.put_conditions.Goals as goal

pub loop-one-init : goal.loop-one-init
loop-one-init c =
    awaits_first (seen_program c.args.laid.now) (seen_routine c.args.routine.now) c.deref-one-items.result.now c.args.conds.now.items
    (ap (map seen_await) c.deref-one-items.ensures.value ∙ c.in_ok-awaits.ensures)

pub loop-one-preserved : goal.loop-one-preserved
loop-one-preserved c =
    let awaits = c.deref-one-items.result.now in
    let k = c.loop-one.one-index in
    let lt : k < length awaits = omega arith in
    let body = c.in_ok-body.ensures in
    awaits_next (seen_program c.args.laid.now) (seen_routine c.args.routine.now) awaits k c.one-item.result c.loop-one.conds.items _ _ _ lt c.one-item.is c.in_ok-put_body.ensures body.code body.depth c.loop-one.invariant

pub returns : goal.returns
returns c =
    awaits_last (seen_program c.args.laid.now) (seen_routine c.args.routine.now) c.deref-one-items.result.now c.loop-one.one-index c.loop-one.conds.items _ c.loop-one-test.false c.loop-one.invariant
