-- One row more.
use Rattle.std.proofs.Common.{◌≡◌, max, sym, ◌∙◌, rules}
use Rattle.aos_arguments.specs.Filled.{row_length}
use Rattle.aos_arguments.proofs.Largest.{most_next}
use Rattle.aos_arguments.proofs.filled.rows_length.Goals as goal

pub loop-number-preserved : goal.loop-number-preserved
loop-number-preserved c =
    let e = c.args.env.now in
    let largest : c.max-length.result ≡ max c.loop-number.length c.row_length.result = search rules in
    largest ∙ (λ i. max (c.loop-number.invariant i) (c.row_length.ensures i))
    ∙ sym (most_next (row_length e) e.types c.loop-number.number c.row.result.now c.row.ensures)
