use Rattle.std.proofs.Common.{sym, ap, ◌∙◌}
use Rattle.std.specs.Prelude.{slice_get}
use Rattle.std.specs.Option.{option_map, option_and_then}
use Rattle.aos_store.specs.Store.{own_cells}
use Rattle.aos_store.proofs.Views.{frames_cells}
use Rattle.aos_store.proofs.frames.Frames.load.Goals as goal

pub returns-in-None : goal.returns-in-None
returns-in-None c =
    sym (ap (option_and_then (λ cells. slice_get cells c.args.cell)) (frames_cells c.args.self.now.list.items c.args.above ∙ ap (option_map own_cells) (sym c.in-None.ensures)))

pub returns-in-Some : goal.returns-in-Some
returns-in-Some c =
    c.load.ensures ∙ sym (ap (option_and_then (λ cells. slice_get cells c.args.cell)) (frames_cells c.args.self.now.list.items c.args.above ∙ ap (option_map own_cells) (sym c.in-Some.ensures)))
