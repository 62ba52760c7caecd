use Rattle.std.proofs.Common.{map, drop, sym, ap, ◌∙◌, subst, arith}
use Rattle.aos_typed.specs.Conditions.{awaited_in, conditions_of}
use Rattle.aos_typed.specs.Seen.{seen_program}
use Rattle.aos_dispatch.specs.Awaits.{seen_await}
use Rattle.aos_dispatch.specs.Routines.{seen_routine}
use Rattle.aos_guard.specs.Awaits.{Tells}
use Rattle.aos_guard.proofs.Tellings.{Awaits, found_in, told_first, told_next, told_last}
use Rattle.aos_guard.proofs.conditions.routine_told.Goals as goal

pub loop-one-init : goal.loop-one-init
loop-one-init c =
    let r = seen_routine c.args.routine.now in
    let items = c.deref-one-items.result.now in
    let are = ap (map seen_await) c.deref-one-items.ensures.value ∙ c.in_ok-awaits.ensures in
    subst (Awaits (seen_program c.args.dispatch.now) (conditions_of r) (map (found_in r.home r.own) (drop 0 items))) (sym c.new-all.ensures.items)
    (told_first (seen_program c.args.dispatch.now) r.home r.own items (awaited_in r.body.statements) are)

pub loop-one-preserved : goal.loop-one-preserved
loop-one-preserved c =
    let p = seen_program c.args.dispatch.now in
    let r = seen_routine c.args.routine.now in
    let told = c.in_ok-tell.field-0 in
    let tells = subst (λ a. Tells p (found_in r.home r.own a) told) c.one-item.is c.in_ok-tell.ensures in
    told_next p r.home r.own c.deref-one-items.result.now (conditions_of r) c.loop-one.one-index c.one-item.result told
    c.loop-one.all.items c.put.new.all.items c.loop-one-test.true tells c.in_ok-put.ensures c.loop-one.invariant

pub returns : goal.returns
returns c =
    let r = seen_routine c.args.routine.now in
    told_last (seen_program c.args.dispatch.now) r.home r.own c.deref-one-items.result.now (conditions_of r) c.loop-one.one-index c.loop-one.all.items
    (omega (arith, c.loop-one-test.false)) c.loop-one.invariant
