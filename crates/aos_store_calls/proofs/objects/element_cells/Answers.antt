use Rattle.std.proofs.Common.{◌≡◌, ◌++◌, [], map, ap, ◌∙◌, arith}
use Rattle.aos_code.specs.Machine.{first_cell, times}
use Rattle.aos_cpu.proofs.Making.{none_times, times_next}
use Rattle.aos_store_calls.proofs.objects.element_cells.Goals as goal

pub returns-then-kinds-eq0 : goal.returns-then-kinds-eq0
returns-then-kinds-eq0 c = c.new-cells.ensures.items ∙ none_times c.args.count c.args.kinds.now (omega (arith, c.if-kinds-eq0.true))

pub loop-preserved : goal.loop-preserved
loop-preserved c =
    c.in_ok-add_first.ensures ∙ ap (λ cells. cells ++ map first_cell c.args.kinds.now) c.loop.invariant ∙ times_next c.loop.counter (map first_cell c.args.kinds.now)

pub returns : goal.returns
returns c = let all : c.loop.counter ≡ c.args.count = omega arith in c.loop.invariant ∙ ap (λ n. times [] n (map first_cell c.args.kinds.now)) all
