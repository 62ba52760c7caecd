use Rattle.std.proofs.Common.{◌≤◌, ◌-◌, length, take, sym, ap, ◌∙◌, arith}
use Rattle.std.specs.Prelude.{Some}
use Rattle.std.specs.Option.{option_map}
use Rattle.std.proofs.lemmas.List.{length-take-le}
use Rattle.aos_store.specs.Store.{own_cells}
use Rattle.aos_store.proofs.Views.{frames_cells}
use Rattle.aos_cpu.proofs.texts.frame_cells.Goals as goal

pub returns-in-None : goal.returns-in-None
returns-in-None c = sym (frames_cells c.args.frames.now.list.items c.args.above ∙ ap (option_map own_cells) (sym c.in-None.ensures))

pub returns-in-Some : goal.returns-in-Some
returns-in-Some c =
    let f = c.in-Some.frame.now in
    let xs = f.cells.items in
    let le : length xs - f.keeps ≤ length xs = omega arith in
    (λ i. Some (take (c.len.ensures.own i) (c.deref.ensures.value i))) ∙ (λ i. Some (take (length-take-le (length xs - f.keeps) xs le i) xs))
    ∙ sym (frames_cells c.args.frames.now.list.items c.args.above ∙ ap (option_map own_cells) (sym c.in-Some.ensures))
