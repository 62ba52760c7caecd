use Rattle.std.proofs.Common.{◌≡◌, suc, ◌+◌, ◌-◌, map, reverse, take, drop, sym, ap, ◌∙◌, arith}
use Rattle.std.specs.Prelude.{Some, None, pos, slice_get}
use Rattle.aos_code.specs.declared.instr.Cell.TheVariants.{Num}
use Rattle.aos_code.specs.Silent.{lengths_on}
use Rattle.aos_silent_steps.specs.Acts.{or_lost}
use Rattle.aos_silent_steps.specs.Taken.{length_in, length_or, number_or, rows_of}
use Rattle.aos_silent_steps.proofs.Lengths.{below_top, lengths_none, lengths_more, rows_cut, length_cells_more, length_cells_are}
use Rattle.aos_silent_steps.proofs.rows.row_cells.Goals as goal

pub returns-in_err-length_at-clause-rows : goal.returns-in_err-length_at-clause-rows
returns-in_err-length_at-clause-rows c k =
    let s = reverse c.args.stack.now in
    let t = drop 1 s in
    let i = c.loop-row.row in
    let left = c.args.rows - (i + 1) in
    let more : c.args.rows - i ≡ suc left = omega arith in
    let none : None ≡ length_in (slice_get t i) = sym c.in_err-length_at.was ∙ c.length_at.ensures ∙ ap length_in (sym (below_top s i)) in
    c.loop-row.invariant.rest k ∙ ap (λ n. lengths_on n (rows_of (take i t)) k (drop i t)) more ∙ lengths_none left i (rows_of (take i t)) k t none
    ∙ ap (λ r. or_lost r (λ _. k (rows_of (take c.args.rows t)) (drop (1 + c.args.rows) s))) (sym c.from_residual.ensures)

pub loop-row-preserved : goal.loop-row-preserved
loop-row-preserved c =
    let s = reverse c.args.stack.now in
    let t = drop 1 s in
    let i = c.loop-row.row in
    let left = c.args.rows - (i + 1) in
    let more : c.args.rows - i ≡ suc left = omega arith in
    let n = c.in_ok-length_at.field-0 in
    let found : length_in (slice_get t i) ≡ Some n = ap length_in (below_top s i) ∙ sym c.length_at.ensures ∙ c.in_ok-length_at.was in
    record {
      rest = λ k. c.loop-row.invariant.rest k ∙ ap (λ m. lengths_on m (rows_of (take i t)) k (drop i t)) more ∙ lengths_more left i n k t found;
      cells = c.saturating_mul-size.ensures ∙ rows_cut i n c.loop-row.size c.args.cells t found c.loop-row.invariant.cells;
      lengths = length_cells_more i n t found c.loop-row.invariant.lengths;
    }

pub returns-clause-lengths : goal.returns-clause-lengths
returns-clause-lengths c =
    let t = drop 1 (reverse c.args.stack.now) in
    let all : c.loop-row.row ≡ c.args.rows = omega arith in
    length_cells_are (take c.args.rows t) (ap (λ i. map (λ n. Num (pos n)) (map (λ v. length_or (number_or v)) (take i t))) (sym all) ∙ c.loop-row.invariant.lengths ∙ ap (λ i. take i t) all)
