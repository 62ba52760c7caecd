-- One variable more, and one that counts nothing.
use Rattle.std.proofs.Common.{◌+◌, drop, ap, sym, ◌∙◌}
use Rattle.aos_check_types.proofs.Judging.{variables_end, variables_step}
use Rattle.aos_check_types.proofs.limits.note_singles.Goals as goal

pub returns-in_default : goal.returns-in_default
returns-in_default c =
    let l = c.loop-single in
    sym (variables_end c.args.types.now l.found l.sum (drop l.single-index c.args.singles.now) c.args.scope.now.variables l.number (sym c.counted_at.ensures ∙ c.in_default.is))
    ∙ l.invariant

pub loop-single-preserved : goal.loop-single-preserved
loop-single-preserved c =
    let l = c.loop-single in
    variables_step c.args.types.now l.found l.sum c.args.singles.now l.single-index _ c.args.scope.now.variables l.number c.in-Some.count
    c.loop-single-test.true (sym c.counted_at.ensures ∙ c.in-Some.is) (c.in_ok-sum.ensures ∙ ap (λ n. l.sum + n) c.from.ensures) c.in_ok-number.ensures c.note_sum.ensures
    ∙ l.invariant
