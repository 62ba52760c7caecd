use Rattle.std.proofs.Common.{subst, sym, ap, ◌∙◌, add-one}
use Rattle.aos_types.specs.Table as table
use Rattle.aos_types.specs.Chain as chain
use Rattle.aos_types.specs.Walk as walk
use Rattle.aos_types.proofs.Reached.{IsWalk, begun, step, nearer, found}
use Rattle.aos_types.proofs.chain.contains_itself.Goals as goal

pub loop-reached-init : goal.loop-reached-init
loop-reached-init c =
    subst (λ m. IsWalk c.args.rows.now c.args.t 0 m)
    (sym (c.in_ok-note_parts.ensures ∙ ap (λ m. walk.all_noted (chain.parts_of c.args.rows.now (table.row_of c.args.rows.now c.args.t)) m) c.in_ok-walk.ensures))
    (begun c.args.rows.now c.args.t)

pub loop-reached-smaller : goal.loop-reached-smaller
loop-reached-smaller c =
    let n = nearer c.args.rows.now c.args.t c.loop-reached.next c.loop-reached.walk c.in-Some.reached (sym c.in-Some.ensures.value) in
    rw c.in_ok-note_parts-2.ensures (rw add-one n)

pub loop-reached-preserved : goal.loop-reached-preserved
loop-reached-preserved c =
    rw c.in_ok-note_parts-2.ensures (
    rw add-one (
    step c.args.rows.now c.args.t c.loop-reached.next c.loop-reached.walk c.in-Some.reached c.loop-reached.invariant (sym c.in-Some.ensures.value)
    )
    )

pub returns : goal.returns
returns c =
    let f = found c.args.rows.now c.args.t c.loop-reached.next c.loop-reached.walk c.loop-reached.invariant (sym c.in_default.ensures.value) in
    (λ h. f.0 (sym c.has.ensures ∙ h), λ h. c.has.ensures ∙ f.1 h)
