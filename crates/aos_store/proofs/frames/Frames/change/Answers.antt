use Rattle.std.proofs.Common.{◌≡◌, refl, sym, ap, ◌∙◌}
use Rattle.std.specs.Prelude.{Some, slice_get}
use Rattle.std.specs.Option.{option_map}
use Rattle.std.proofs.lemmas.Option.{slice_get_read, slice_get_past}
use Rattle.aos_store.specs.Store.{own_cells, fits_in, changed}
use Rattle.aos_store.proofs.Views.{frames_cells, frames_changed}
use Rattle.aos_store.proofs.Rooms.{roomy_set}
use Rattle.aos_store.proofs.frames.Frames.change.Goals as goal

pub returns-in-None-clause-there : goal.returns-in-None-clause-there
returns-in-None-clause-there c =
    let fs = c.args.self.now.list.items in
    ap (fits_in c.args.what) (sym (frames_cells fs c.args.above ∙ ap (option_map own_cells) (slice_get_past fs c.args.above c.in-None.ensures.item.3)))

pub returns-in-Some-clause-there : goal.returns-in-Some-clause-there
returns-in-Some-clause-there c =
    let fs = c.args.self.now.list.items in
    let here : slice_get fs c.args.above ≡ Some c.in-Some.frame.now = slice_get_read fs _ c.args.above c.in-Some.frame.now refl c.in-Some.ensures.item.3.0 c.in-Some.ensures.item.1 in
    c.change.ensures.there ∙ ap (fits_in c.args.what) (sym (frames_cells fs c.args.above ∙ ap (option_map own_cells) here))

pub returns-in-Some-clause-after : goal.returns-in-Some-clause-after
returns-in-Some-clause-after c =
    let fs = c.args.self.now.list.items in
    let here : slice_get fs c.args.above ≡ Some c.in-Some.frame.now = slice_get_read fs _ c.args.above c.in-Some.frame.now refl c.in-Some.ensures.item.3.0 c.in-Some.ensures.item.1 in
    frames_changed fs c.args.above c.in-Some.frame.now c.change.new.self c.change.result (changed c.args.what) here c.change.ensures.after

pub returns-in-Some-clause-room : goal.returns-in-Some-clause-room
returns-in-Some-clause-room c depths keeps roomy =
    let fs = c.args.self.now.list.items in
    let here : slice_get fs c.args.above ≡ Some c.in-Some.frame.now = slice_get_read fs _ c.args.above c.in-Some.frame.now refl c.in-Some.ensures.item.3.0 c.in-Some.ensures.item.1 in
    roomy_set depths keeps fs c.args.above c.in-Some.frame.now c.change.new.self here c.change.ensures.room roomy
