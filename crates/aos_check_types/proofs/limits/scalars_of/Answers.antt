-- One variable more, and the end.
use Rattle.std.proofs.Common.{[], sum_by, ap, sym, ◌∙◌, arith}
use Rattle.std.specs.Option.{option_copied}
use Rattle.std.proofs.lemmas.Option.{slice_get_within}
use Rattle.aos_check_types.specs.Limits.{counted, variables_of}
use Rattle.aos_check_types.proofs.Judging.{sum_step, sum_end}
use Rattle.aos_check_types.proofs.limits.scalars_of.Goals as goal

pub loop-of-preserved : goal.loop-of-preserved
loop-of-preserved c =
    let vs = c.in-Some.scope.now.variables in
    let one = sym c.variable.ensures ∙ c.in-Some-variable.is in
    let next = c.in_ok-number.ensures in
    let more = c.in_ok-sum.ensures in
    let step = sum_step (counted [] c.args.types.now) vs c.loop-of.number c.in-Some-variable.of one in
    let within = slice_get_within vs c.loop-of.number c.in-Some-variable.of one in
    record { within = omega (arith, within); sum = cc }

pub returns : goal.returns
returns c =
    let vs = c.in-Some.scope.now.variables in
    let there = sym (ap option_copied c.in-Some.is) ∙ c.scope.ensures in
    c.loop-of.invariant.sum
    ∙ sum_end (counted [] c.args.types.now) vs c.loop-of.number (sym c.variable.ensures ∙ c.in_default-variable.is)
    ∙ ap (λ s. sum_by (counted [] c.args.types.now) (variables_of [] c.args.types.now s)) there
