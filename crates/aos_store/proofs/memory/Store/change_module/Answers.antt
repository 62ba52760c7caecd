use Rattle.std.proofs.Common.{◌≡◌, refl, sym, ap, ◌∙◌, arith}
use Rattle.std.specs.Prelude.{Some, slice_get, Vec, length, if◌then◌else◌}
use Rattle.std.specs.Option.{option_map}
use Rattle.std.specs.Vec.{with_items}
use Rattle.std.specs.declared.alloc.Global.{Global}
use Rattle.std.proofs.lemmas.Option.{slice_get_read, slice_get_past, slice_get-map}
use Rattle.std.proofs.lemmas.List.{with_items_is}
use Rattle.aos_code.specs.declared.instr.Cell.{Cell}
use Rattle.aos_store.specs.Store.{fits, fits_in, changed}
use Rattle.aos_store.proofs.Views.{module_changed}
use Rattle.aos_store.proofs.memory.Store.change_module.Goals as goal

pub returns-in-None-clause-there : goal.returns-in-None-clause-there
returns-in-None-clause-there c =
    let ms = c.args.self.now.modules.items in
    ap (fits_in c.args.what) (sym (slice_get-map (λ (v : Vec Cell Global). v.items) ms c.args.number ∙ ap (option_map (λ (v : Vec Cell Global). v.items)) (slice_get_past ms c.args.number c.in-None.ensures.item.3)))

pub returns-in-Some-clause-there : goal.returns-in-Some-clause-there
returns-in-Some-clause-there c =
    let ms = c.args.self.now.modules.items in
    let here : slice_get ms c.args.number ≡ Some c.in-Some.cells.now = slice_get_read ms _ c.args.number c.in-Some.cells.now refl c.in-Some.ensures.item.3.0 c.in-Some.ensures.item.1 in
    c.make_change.ensures.there ∙ ap (λ xs. fits c.args.what (length xs)) c.deref_mut.ensures.value ∙ ap (fits_in c.args.what) (sym (slice_get-map (λ (v : Vec Cell Global). v.items) ms c.args.number ∙ ap (option_map (λ (v : Vec Cell Global). v.items)) here))

pub returns-in-Some-clause-after : goal.returns-in-Some-clause-after
returns-in-Some-clause-after c =
    let ms = c.args.self.now.modules.items in
    let here : slice_get ms c.args.number ≡ Some c.in-Some.cells.now = slice_get_read ms _ c.args.number c.in-Some.cells.now refl c.in-Some.ensures.item.3.0 c.in-Some.ensures.item.1 in
    let long : length c.make_change.new.cells ≡ c.in-Some.cells.now.len = omega arith in
    module_changed c.args.self.now c.args.number c.in-Some.cells.now (with_items c.in-Some.cells.now c.make_change.new.cells) c.make_change.result (changed c.args.what) here
    (with_items_is c.in-Some.cells.now c.make_change.new.cells long ∙ c.make_change.ensures.after ∙ ap (λ xs. if c.make_change.result then changed c.args.what xs else xs) c.deref_mut.ensures.value)
