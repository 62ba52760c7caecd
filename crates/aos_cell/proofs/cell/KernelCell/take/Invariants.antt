use Rattle.std.proofs.Common.{◌≡◌}
use Rattle.crossbeam_queue.specs.Passes.{view, IsPassOf}
use Rattle.aos_cell.specs.Total.{mask}
use Rattle.aos_cell.specs.Rule.{workers_of}
use Rattle.aos_cell.proofs.cell.KernelCell.take.Given as goal

abbrev pub invariant-loop : goal.invariant-loop
invariant-loop g l =
    (view l.pass-inside.pass ≡ l.fn.pass.view) × (l.pass-inside.pass.table_id ≡ l.fn.pass.cell)
    × IsPassOf l.self-inside.line l.pass-inside.pass × (mask (workers_of (view l.pass-inside.pass)) ≡ l.pass-inside.own)
