use Rattle.std.proofs.Common.{◌<◌, ◌≤◌, All, length, sym, ap, ◌∙◌, subst, arith}
use Rattle.aos_typed.specs.declared.tree.Program.{Program as TProgram}
use Rattle.aos_typed.specs.Seen.{seen_program}
use Rattle.aos_layout.proofs.Frames.{there_at}
use Rattle.aos_dispatch.specs.Routines.{IsTyped, seen_routine, seen_routines}
use Rattle.aos_dispatch.proofs.Listed.{routines_typed}
use Rattle.aos_sim.specs.Code.{body_code}
use Rattle.aos_emit.proofs.Matching.{body_more, bodies_all}
use Rattle.aos_emit.proofs.bodies.bodies_of.Goals as goal

pub body_of-requires : goal.body_of-requires
body_of-requires c =
    let p = seen_program c.args.program.now in
    let rs = c.deref-routine-items.result.now in
    let k = c.loop-routine.routine-index in
    let r = c.routine-item.result in
    let lt : k < length rs = omega arith in
    let all = subst (All (IsTyped p)) (sym (ap seen_routines c.deref-routine-items.ensures.value ∙ c.in_ok-routines.ensures)) (routines_typed p c.requires.typed) in
    record { typed = subst (λ (x : TProgram). IsTyped (seen_program x) (seen_routine r)) (sym c.in_ok-laid.ensures.laid) (there_at (IsTyped p) seen_routine rs k r lt all c.routine-item.is) }

pub loop-routine-preserved : goal.loop-routine-preserved
loop-routine-preserved c =
    let p = seen_program c.args.program.now in
    let rs = c.deref-routine-items.result.now in
    let k = c.loop-routine.routine-index in
    let r = c.routine-item.result in
    let lt : k < length rs = omega arith in
    let code = c.in_ok-body.ensures.code ∙ ap (λ (x : TProgram). body_code (seen_program x) (seen_routine r).own (seen_routine r).body) c.in_ok-laid.ensures.laid in
    body_more p rs k _ _ r c.in_ok-body.body lt c.routine-item.is c.in_ok-put_body.ensures code c.in_ok-body.ensures.depth c.loop-routine.invariant

pub returns-clause-code : goal.returns-clause-code
returns-clause-code c =
    let rs = c.deref-routine-items.result.now in
    let k = c.loop-routine.routine-index in
    let le : length rs ≤ k = c.loop-routine-test.false in
    let are = ap seen_routines c.deref-routine-items.ensures.value ∙ c.in_ok-routines.ensures in
    (bodies_all (seen_program c.args.program.now) rs k c.loop-routine.bodies.items le are c.loop-routine.invariant).code

pub returns-clause-depths : goal.returns-clause-depths
returns-clause-depths c =
    let rs = c.deref-routine-items.result.now in
    let k = c.loop-routine.routine-index in
    let le : length rs ≤ k = c.loop-routine-test.false in
    let are = ap seen_routines c.deref-routine-items.ensures.value ∙ c.in_ok-routines.ensures in
    (bodies_all (seen_program c.args.program.now) rs k c.loop-routine.bodies.items le are c.loop-routine.invariant).depths
