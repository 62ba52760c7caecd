use Rattle.std.proofs.Common.{◌≡◌, ◌-◌, ◌*◌, ◌^◌, ℕ, List, [], length, map, min, refl, sym, ap, ◌∙◌, arith}
use Rattle.aos_code.specs.declared.instr.Kind.{Kind}
use Rattle.aos_code.specs.Silent.{cells_of}
use Rattle.aos_code.specs.Machine.{first_cell, times}
use Rattle.aos_store.specs.Store.{memory_in}
use Rattle.aos_cpu.proofs.Making.{no_room, has_place, object_made}
use Rattle.aos_cpu.proofs.makes.make_with.Goals as goal

pub returns-then-not-has_room-clause-ok : goal.returns-then-not-has_room-clause-ok
returns-then-not-has_room-clause-ok c out =
    let desc = c.args.desc.now in
    let mem = memory_in c.args.store.now in
    let elements = c.elements_of-elements.result in
    let size = c.saturating_mul.result in
    let elements_are = c.elements_of-elements.ensures ∙ ap (λ (ns : List ℕ). min (cells_of ns 1) (2 ^ 64 - 1)) c.deref.ensures.value in
    let so_many : c.len.result ≡ length desc.kinds.items = omega (arith, c.len.ensures) in
    let size_is = c.saturating_mul.ensures ∙ ap (λ n. min (elements * n) (2 ^ 64 - 1)) so_many in
    no_room c.args.lengths.items desc c.args.of_type mem elements size elements_are size_is c.args.frames.now c.args.count c.args.at out (sym c.if-not-has_room.ensures)

pub new_object-requires : goal.new_object-requires
new_object-requires c =
    let desc = c.args.desc.now in
    let mem = memory_in c.args.store.now in
    let elements = c.elements_of-elements.result in
    let size = c.saturating_mul.result in
    let elements_are = c.elements_of-elements.ensures ∙ ap (λ (ns : List ℕ). min (cells_of ns 1) (2 ^ 64 - 1)) c.deref.ensures.value in
    let so_many : c.len.result ≡ length desc.kinds.items = omega (arith, c.len.ensures) in
    let size_is = c.saturating_mul.ensures ∙ ap (λ n. min (elements * n) (2 ^ 64 - 1)) so_many in
    let cells_are = c.in_ok-cells.ensures ∙ ap (λ (ks : List Kind). times [] elements (map first_cell ks)) c.deref-2.ensures.value in
    has_place c.args.lengths.items desc c.args.of_type mem elements size elements_are size_is c.in_ok-cells.cells.items (sym c.if-not-has_room.ensures) cells_are

pub returns-in-Ok-clause-ok : goal.returns-in-Ok-clause-ok
returns-in-Ok-clause-ok c out =
    let desc = c.args.desc.now in
    let mem = memory_in c.args.store.now in
    let elements = c.elements_of-elements.result in
    let size = c.saturating_mul.result in
    let elements_are = c.elements_of-elements.ensures ∙ ap (λ (ns : List ℕ). min (cells_of ns 1) (2 ^ 64 - 1)) c.deref.ensures.value in
    let so_many : c.len.result ≡ length desc.kinds.items = omega (arith, c.len.ensures) in
    let size_is = c.saturating_mul.ensures ∙ ap (λ n. min (elements * n) (2 ^ 64 - 1)) so_many in
    let cells_are = c.in_ok-cells.ensures ∙ ap (λ (ks : List Kind). times [] elements (map first_cell ks)) c.deref-2.ensures.value in
    object_made c.args.lengths.items desc c.args.of_type mem elements size elements_are size_is c.args.frames.now c.put_behind.new.frames (memory_in c.new_object.new.self) c.args.count c.args.at c.in_ok-number.number c.in_ok-cells.cells.items out
    (sym c.if-not-has_room.ensures) cells_are c.in_ok-number.ensures.ok.0 c.in_ok-number.ensures.ok.1 c.in-Ok.ensures.ok

pub returns-in-Err-clause-err : goal.returns-in-Err-clause-err
returns-in-Err-clause-err c out =
    record {
      frames = c.in-Err.ensures.err;
      memory = c.take_back.ensures (record { type = c.args.of_type; lengths = c.args.lengths.items }) c.in_ok-cells.cells.items (memory_in c.args.store.now) c.in_ok-number.ensures.ok.1;
      output = refl;
    }
