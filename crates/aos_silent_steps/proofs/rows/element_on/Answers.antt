use Rattle.std.proofs.Common.{◌≡◌, ◌+◌, ◌-◌, reverse, take, drop, sym, ap, ◌∙◌, arith, to_z, of_z, to_z-of_z, w64}
use Rattle.std.specs.Prelude.{Some, None, slice_get, Option, IfNone}
use Rattle.std.proofs.lemmas.List.{length-reverse}
use Rattle.aos_base.specs.Operators.{natural}
use Rattle.aos_code.specs.Silent.{cells_of, element, indexes_open}
use Rattle.aos_silent_steps.specs.Acts.{address_in, addr_in}
use Rattle.aos_silent_steps.specs.Taken.{length_in, rows_of}
use Rattle.aos_silent_steps.proofs.Lengths.{rows_lost, first_lost, place_lost, element_is, address_within}
use Rattle.aos_silent_steps.proofs.rows.element_on.Goals as goal

where_none : {A : Type 0} (r : Option A) (P : Type 0) → P → IfNone r P
where_none None P p = p
where_none (Some a) P p = tt

pub returns-in_err-cells-clause-none : goal.returns-in_err-cells-clause-none
returns-in_err-cells-clause-none c =
    let s = reverse c.args.stack.now in
    let rows = c.in_ok-rows.rows in
    let more : c.args.lengths ≡ rows + 1 = omega (arith, c.in_ok-rows.ensures) in
    where_none c.from_residual-in_err-cells.result _
    (ap (λ n. indexes_open n c.args.cells s) more ∙ rows_lost c.args.cells s rows c.in_ok-index.index (sym c.number.ensures ∙ c.in_ok-index.was) (λ k. c.in_err-cells.ensures.rows k))

pub returns-in_err-length-clause-none : goal.returns-in_err-length-clause-none
returns-in_err-length-clause-none c =
    let s = reverse c.args.stack.now in
    let rows = c.in_ok-rows.rows in
    let more : c.args.lengths ≡ rows + 1 = omega (arith, c.in_ok-rows.ensures) in
    let none : length_in (slice_get s (rows + 1)) ≡ None = ap (λ n. length_in (slice_get s n)) (sym more) ∙ sym c.length_at.ensures ∙ c.in_err-length.was in
    where_none c.from_residual-in_err-length.result _
    (ap (λ n. indexes_open n c.args.cells s) more
    ∙ first_lost c.args.cells s rows c.in_ok-index.index (rows_of (take rows (drop 1 s))) (sym c.number.ensures ∙ c.in_ok-index.was) (λ k. c.in_ok-cells.ensures.rows k) none)

pub returns-in_err-at-clause-none : goal.returns-in_err-at-clause-none
returns-in_err-at-clause-none c =
    let s = reverse c.args.stack.now in
    let rows = c.in_ok-rows.rows in
    let more : c.args.lengths ≡ rows + 1 = omega (arith, c.in_ok-rows.ensures) in
    let found : length_in (slice_get s (rows + 1)) ≡ Some c.in_ok-length.length = ap (λ n. length_in (slice_get s n)) (sym more) ∙ sym c.length_at.ensures ∙ c.in_ok-length.was in
    let none : address_in (slice_get s (rows + 1 + 1)) ≡ None = ap (λ n. address_in (slice_get s (n + 1))) (sym more) ∙ sym c.address.ensures ∙ c.in_err-at.was in
    where_none c.from_residual-in_err-at.result _
    (ap (λ n. indexes_open n c.args.cells s) more
    ∙ place_lost c.args.cells s rows c.in_ok-index.index (rows_of (take rows (drop 1 s))) (sym c.number.ensures ∙ c.in_ok-index.was) (λ k. c.in_ok-cells.ensures.rows k) c.in_ok-length.length found none)

pub returns-clause-deep : goal.returns-clause-deep
returns-clause-deep c =
    let s = reverse c.args.stack.now in
    let within = address_within s (c.args.lengths + 1) c.in_ok-at.at (sym c.address.ensures ∙ c.in_ok-at.was) in
    (omega (arith, within, length-reverse c.args.stack.now), omega (arith, c.in_ok-rows.ensures))

pub returns-clause-some : goal.returns-clause-some
returns-clause-some c =
    let s = reverse c.args.stack.now in
    let rows = c.in_ok-rows.rows in
    let more : c.args.lengths ≡ rows + 1 = omega (arith, c.in_ok-rows.ensures) in
    let n = c.in_ok-length.length in
    let at = c.in_ok-at.at in
    let ls = rows_of (take rows (drop 1 s)) in
    let found : length_in (slice_get s (rows + 1)) ≡ Some n = ap (λ m. length_in (slice_get s m)) (sym more) ∙ sym c.length_at.ensures ∙ c.in_ok-length.was in
    let place : address_in (slice_get s (rows + 1 + 1)) ≡ Some at = ap (λ m. address_in (slice_get s (m + 1))) (sym more) ∙ sym c.address.ensures ∙ c.in_ok-at.was in
    let above : rows ≡ c.args.lengths - 1 = omega arith in
    let same : to_z w64 (of_z w64 c.in_ok-index.index) ≡ c.in_ok-index.index = grind (arith, to_z-of_z) in
    let below : rows + 1 + 1 + 1 ≡ c.args.lengths + 2 = omega arith in (
      cells_of ls c.args.cells,
      c.in_ok-cells.ensures.cells,
      ap (λ m. indexes_open m c.args.cells s) more
          ∙ element_is c.args.cells s rows c.in_ok-index.index ls (sym c.number.ensures ∙ c.in_ok-index.was) (λ k. c.in_ok-cells.ensures.rows k) n at (take rows (drop 1 s)) found place c.in_ok-cells.ensures.lengths
          ∙ ap (λ o. element (addr_in at) o (cells_of ls c.args.cells) (take rows (drop 1 s)) (drop (rows + 1 + 1 + 1) s)) (ap (natural n) (sym same) ∙ sym c.natural.ensures)
          ∙ (λ i. element (addr_in at) c.natural.result (cells_of ls c.args.cells) (take (above i) (drop 1 s)) (drop (below i) s)),
    )
