use Rattle.std.proofs.Common.{◌≡◌, ◌*◌, ◌-◌, ◌^◌, List, [], length, map, min, refl, sym, ap, ◌∙◌, arith}
use Rattle.aos_code.specs.declared.instr.Cell.{Cell}
use Rattle.aos_code.specs.declared.instr.Kind.{Kind}
use Rattle.aos_code.specs.Memory.{with_object}
use Rattle.aos_code.specs.Machine.{first_cell, times}
use Rattle.aos_store.specs.Store.{memory_in}
use Rattle.aos_cpu.proofs.Making.{fits_is, has_place, cells_made}
use Rattle.aos_store_calls.proofs.objects.make_as.Goals as goal

pub returns-then-not-has_room : goal.returns-then-not-has_room
returns-then-not-has_room c =
    let desc = c.args.desc.now in
    let mem = memory_in c.args.store.now in
    let count = c.elements_of-count.result in
    let so_many : c.len.result ≡ length desc.kinds.items = omega (arith, c.len.ensures) in
    let size_is = c.saturating_mul.ensures ∙ ap (λ n. min (count * n) (2 ^ 64 - 1)) so_many in (
      fits_is c.args.lens.now desc c.args.of_type mem count c.saturating_mul.result c.elements_of-count.ensures size_is ∙ sym c.if-not-has_room.ensures,
      refl,
    )

pub make-requires : goal.make-requires
make-requires c =
    let desc = c.args.desc.now in
    let mem = memory_in c.args.store.now in
    let count = c.elements_of-count.result in
    let so_many : c.len.result ≡ length desc.kinds.items = omega (arith, c.len.ensures) in
    let size_is = c.saturating_mul.ensures ∙ ap (λ n. min (count * n) (2 ^ 64 - 1)) so_many in
    let cells_are = ap (λ (ks : List Kind). times [] count (map first_cell ks)) c.deref.ensures.value in
    has_place c.args.lens.now desc c.args.of_type mem count c.saturating_mul.result c.elements_of-count.ensures size_is _ (sym c.if-not-has_room.ensures) cells_are

pub returns-in-Ok : goal.returns-in-Ok
returns-in-Ok c =
    let desc = c.args.desc.now in
    let mem = memory_in c.args.store.now in
    let count = c.elements_of-count.result in
    let so_many : c.len.result ≡ length desc.kinds.items = omega (arith, c.len.ensures) in
    let size_is = c.saturating_mul.ensures ∙ ap (λ n. min (count * n) (2 ^ 64 - 1)) so_many in
    let room = sym c.if-not-has_room.ensures in
    let cells_are = ap (λ (ks : List Kind). times [] count (map first_cell ks)) c.deref.ensures.value in
    let made = cells_made c.args.lens.now desc c.args.of_type mem count c.saturating_mul.result c.elements_of-count.ensures size_is _ room cells_are in (
      fits_is c.args.lens.now desc c.args.of_type mem count c.saturating_mul.result c.elements_of-count.ensures size_is ∙ room,
      c.in-Ok.ensures.ok.0,
      c.in-Ok.ensures.ok.1 ∙ ap (λ (cs : List Cell). with_object (record { type = c.args.of_type; lengths = c.args.lens.now }) cs mem) made,
    )

pub returns-in-Err : goal.returns-in-Err
returns-in-Err c =
    let desc = c.args.desc.now in
    let mem = memory_in c.args.store.now in
    let count = c.elements_of-count.result in
    let so_many : c.len.result ≡ length desc.kinds.items = omega (arith, c.len.ensures) in
    let size_is = c.saturating_mul.ensures ∙ ap (λ n. min (count * n) (2 ^ 64 - 1)) so_many in (
      fits_is c.args.lens.now desc c.args.of_type mem count c.saturating_mul.result c.elements_of-count.ensures size_is ∙ sym c.if-not-has_room.ensures,
      c.in-Err.ensures.err,
    )
