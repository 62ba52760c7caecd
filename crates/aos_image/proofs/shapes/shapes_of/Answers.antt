use Rattle.std.proofs.Common.{◌<◌, ◌≤◌, All, length, sym, ap, ◌∙◌, subst, arith}
use Rattle.aos_typed.specs.declared.tree.Program.{Program as TProgram}
use Rattle.aos_typed.specs.Routines.{routines}
use Rattle.aos_typed.specs.Seen.{seen_program}
use Rattle.aos_layout.proofs.Frames.{there_at}
use Rattle.aos_dispatch.specs.Routines.{IsTyped, seen_routine, seen_routines}
use Rattle.aos_dispatch.proofs.Listed.{routines_typed}
use Rattle.aos_sim.specs.Shows.{shape_of}
use Rattle.aos_image.proofs.Known.{shape_more, shapes_all}
use Rattle.aos_image.proofs.shapes.shapes_of.Goals as goal

pub routine_shape-requires : goal.routine_shape-requires
routine_shape-requires c =
    let p = seen_program c.args.program.now in
    let rs = c.deref-routine-items.result.now in
    let k = c.loop-routine.routine-index in
    let r = c.routine-item.result in
    let lt : k < length rs = omega arith in
    let all = subst (All (IsTyped p)) (sym (ap seen_routines c.deref-routine-items.ensures.value ∙ c.in_ok-routines.ensures)) (routines_typed p c.requires.typed) in
    record { typed = subst (λ (x : TProgram). IsTyped (seen_program x) (seen_routine r)) (sym c.requires.laid) (there_at (IsTyped p) seen_routine rs k r lt all c.routine-item.is) }

pub loop-routine-preserved : goal.loop-routine-preserved
loop-routine-preserved c =
    let p = seen_program c.args.program.now in
    let rs = c.deref-routine-items.result.now in
    let k = c.loop-routine.routine-index in
    let r = c.routine-item.result in
    let lt : k < length rs = omega arith in
    let one = c.in_ok-shape.ensures ∙ ap (λ (x : TProgram). shape_of (seen_program x).types (seen_routine r)) c.requires.laid in
    shape_more p.types rs k _ _ r c.in_ok-shape.shape lt c.routine-item.is c.in_ok-put_shape.ensures one c.loop-routine.invariant

pub returns : goal.returns
returns c =
    let p = seen_program c.args.program.now in
    let rs = c.deref-routine-items.result.now in
    let k = c.loop-routine.routine-index in
    let le : length rs ≤ k = c.loop-routine-test.false in
    shapes_all p.types rs k c.loop-routine.shapes.items (routines p) le (ap seen_routines c.deref-routine-items.ensures.value ∙ c.in_ok-routines.ensures) c.loop-routine.invariant
