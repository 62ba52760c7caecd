use Rattle.std.proofs.Common.{◌≡◌, ◌++◌, drop}
use Rattle.std.specs.Option.{option_map}
use Rattle.aos_store.specs.Store.{rooted_in}
use Rattle.aos_cpu.specs.Calls.{gifts, all_cells}
use Rattle.aos_cpu.proofs.calls.hand_cells.Given as goal

-- the cells of the parameters up to here stand there
abbrev pub invariant-loop-param : goal.invariant-loop-param
invariant-loop-param l =
    option_map (λ gs. l.fn.cells.items ++ all_cells l.here l.from gs) (gifts (rooted_in l.frames l.store) l.params l.args) ≡ option_map (λ gs. l.cells.items ++ all_cells l.here l.at gs) (gifts (rooted_in l.frames l.store) (drop l.param-index l.params) l.rest)
