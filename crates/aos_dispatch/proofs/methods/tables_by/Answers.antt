use Rattle.aos_typed.specs.Methods.{slots, own_numbers}
use Rattle.aos_typed.specs.Seen.{seen_program}
use Rattle.aos_dispatch.proofs.Lists.{next_number}
use Rattle.aos_dispatch.proofs.methods.tables_by.Goals as goal

pub loop-number-preserved : goal.loop-number-preserved
loop-number-preserved c =
    let p = seen_program c.args.program.now in
    let l = c.loop-number in
    next_number (λ k. slots p (own_numbers p) k) l.number l.tables.items _ c.in_ok-table.table c.in_ok-put_table.ensures c.in_ok-table.ensures l.invariant
