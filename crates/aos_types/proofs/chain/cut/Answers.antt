use Rattle.std.proofs.Common.{◌<◌, ◌∙◌, [], None, length, slice_set, ap, sym, arith, add-one}
use Rattle.aos_types.specs.declared.row.TypeRow.TheVariants as row
use Rattle.aos_types.proofs.Cut as cut
use Rattle.aos_types.proofs.chain.cut.Goals as goal
use Rattle.aos_types.proofs.chain.cut.Goals.{then-flags-number, else-flags-number}

pub loop-number-preserved : goal.loop-number-preserved
loop-number-preserved c =
    let n = c.loop-number.number in
    let t : n < length c.args.rows.now = c.loop-number-test.true in
    let l : n < length c.args.flags.now = omega (arith, t, c.requires.long) in
    elim c.if-flags-number.branch [
      | then-flags-number w ↦ rw add-one (w.rows-is ∙ w.cut_one.ensures ∙ ap (λ z. slice_set z n (row.Record None [])) c.loop-number.invariant ∙ sym (cut.cut_one c.args.flags.now c.args.rows.now n l t w.if-flags-number.true))
      | else-flags-number w ↦ rw add-one (w.rows-is ∙ c.loop-number.invariant ∙ sym (cut.cut_not c.args.flags.now c.args.rows.now n l t w.if-flags-number.false))
    ]
