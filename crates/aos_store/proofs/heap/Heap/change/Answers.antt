use Rattle.std.proofs.Common.{◌≡◌, suc, ◌-◌, List, refl, sym, ap, ◌∙◌, arith, map, length}
use Rattle.std.specs.Prelude.{Some, slice_get, if◌then◌else◌}
use Rattle.std.specs.Option.{option_map}
use Rattle.std.specs.Vec.{with_items}
use Rattle.std.proofs.lemmas.Option.{slice_get_read, slice_get-map}
use Rattle.std.proofs.lemmas.List.{with_items_is}
use Rattle.aos_base.specs.Rooted.{by_number, change_by_number}
use Rattle.aos_store.specs.declared.heap.Object.{Object}
use Rattle.aos_store.specs.Objects.{object_cells, made_in}
use Rattle.aos_store.specs.Store.{fits, fits_in, changed}
use Rattle.aos_store.proofs.Lists.{same_at}
use Rattle.aos_store.proofs.Views.{object_changed}
use Rattle.aos_store.proofs.heap.Heap.change.Goals as goal

pub returns-clause-there : goal.returns-clause-there
returns-clause-there c =
    let os = c.self.inside.list.items in
    let k = c.args.number - 1 in
    let more : c.args.number ≡ suc k = omega arith in
    let here : slice_get os k ≡ Some c.in-Some.object.now = slice_get_read os _ k c.in-Some.object.now refl c.in-Some.ensures.item.3.0 c.in-Some.ensures.item.1 in
    c.make_change.ensures.there ∙ ap (λ xs. fits c.args.what (length xs)) c.deref_mut.ensures.value
    ∙ sym (ap (fits_in c.args.what) (ap (λ n. by_number n (map object_cells os)) more ∙ slice_get-map object_cells os k ∙ ap (option_map object_cells) here))
    ∙ ap (λ (l : List Object). fits_in c.args.what (by_number c.args.number (map object_cells l))) c.self.view_is

pub returns-clause-cells : goal.returns-clause-cells
returns-clause-cells c =
    let os = c.self.inside.list.items in
    let k = c.args.number - 1 in
    let more : c.args.number ≡ suc k = omega arith in
    let here : slice_get os k ≡ Some c.in-Some.object.now = slice_get_read os _ k c.in-Some.object.now refl c.in-Some.ensures.item.3.0 c.in-Some.ensures.item.1 in
    let long : length c.make_change.new.cells ≡ c.in-Some.object.now.cells.len = omega arith in
    object_changed os k c.in-Some.object.now (record c.in-Some.object.now { cells = with_items c.in-Some.object.now.cells c.make_change.new.cells }) c.make_change.result (changed c.args.what) here
    (with_items_is c.in-Some.object.now.cells c.make_change.new.cells long ∙ c.make_change.ensures.after ∙ ap (λ xs. if c.make_change.result then changed c.args.what xs else xs) c.deref_mut.ensures.value)
    ∙ ap (λ n. if c.make_change.result then change_by_number n (changed c.args.what) (map object_cells os) else map object_cells os) (sym more)
    ∙ ap (λ (l : List Object). if c.make_change.result then change_by_number c.args.number (changed c.args.what) (map object_cells l) else map object_cells l) c.self.view_is

pub returns-clause-made : goal.returns-clause-made
returns-clause-made c =
    let os = c.self.inside.list.items in
    let k = c.args.number - 1 in
    let here : slice_get os k ≡ Some c.in-Some.object.now = slice_get_read os _ k c.in-Some.object.now refl c.in-Some.ensures.item.3.0 c.in-Some.ensures.item.1 in
    same_at made_in os k c.in-Some.object.now (record c.in-Some.object.now { cells = with_items c.in-Some.object.now.cells c.make_change.new.cells }) here refl
    ∙ ap (map made_in) c.self.view_is
