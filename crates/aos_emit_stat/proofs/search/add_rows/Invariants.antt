use Rattle.std.proofs.Common.{◌≡◌, ◌++◌, drop}
use Rattle.aos_sim.specs.Search.{rows_to}
use Rattle.aos_emit_stat.proofs.search.add_rows.Given as goal

-- the rows so far and those of the rest are all
abbrev pub invariant-loop-range : goal.invariant-loop-range
invariant-loop-range l =
    l.rows.items ++ rows_to l.arm (drop l.range-index l.labels) ≡ l.fn.rows.items ++ rows_to l.fn.arm l.fn.labels
