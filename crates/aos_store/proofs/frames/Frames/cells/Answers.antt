use Rattle.std.proofs.Common.{sym, ap, ◌∙◌, length}
use Rattle.std.specs.Prelude.{Some}
use Rattle.std.specs.Option.{option_map}
use Rattle.aos_store.specs.Store.{own_cells}
use Rattle.aos_store.proofs.Views.{frames_cells}
use Rattle.aos_store.proofs.frames.Frames.cells.Goals as goal

pub returns-in-None : goal.returns-in-None
returns-in-None c = sym (ap (option_map length) (frames_cells c.args.self.now.list.items c.args.above ∙ ap (option_map own_cells) (sym c.in-None.ensures)))

pub returns-in-Some : goal.returns-in-Some
returns-in-Some c = ap Some c.len.ensures.own ∙ sym (ap (option_map length) (frames_cells c.args.self.now.list.items c.args.above ∙ ap (option_map own_cells) (sym c.in-Some.ensures)))
