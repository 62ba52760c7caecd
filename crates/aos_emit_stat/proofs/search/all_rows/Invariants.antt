use Rattle.std.proofs.Common.{◌≡◌, ◌-◌, ◌++◌, length, drop}
use Rattle.aos_typed.specs.Program.{NoElse}
use Rattle.aos_typed.specs.Seen.{cases_of}
use Rattle.aos_sim.specs.Search.{rows_from}
use Rattle.aos_emit_stat.proofs.search.all_rows.Given as goal

-- the rows so far and those of the rest are all
abbrev pub invariant-loop-arm : goal.invariant-loop-arm
invariant-loop-arm l =
    l.rows.items ++ rows_from l.arm (cases_of (drop l.arm l.cases) NoElse) ≡ rows_from 0 (cases_of l.fn.cases NoElse)

abbrev pub decreases-loop-arm : goal.decreases-loop-arm
decreases-loop-arm l = length l.cases - l.arm
