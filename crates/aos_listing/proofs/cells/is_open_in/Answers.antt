use Rattle.std.proofs.Common.{ap, sym, ◌∙◌}
use Rattle.aos_types.specs.Table.{row_of, is_open}
use Rattle.aos_listing.proofs.Counts.{there_is, absent}
use Rattle.aos_listing.proofs.cells.is_open_in.Goals as goal

pub returns-in-Some : goal.returns-in-Some
returns-in-Some c =
    let rows = c.args.types.now in
    c.is_open.ensures ∙ ap (λ t. is_open (row_of rows t)) (there_is rows c.args.of c.in-Some.t c.in-Some.ensures)

pub returns-in-None : goal.returns-in-None
returns-in-None c = ap is_open (sym (absent c.args.types.now c.args.of c.in-None.ensures))
