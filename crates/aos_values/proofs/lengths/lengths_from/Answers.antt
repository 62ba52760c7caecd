-- One more length.
use Rattle.std.proofs.Common.{◌++◌, ◌-◌, Some, ap, sym, ◌∙◌, arith}
use Rattle.aos_symbols.specs.Env as env
use Rattle.aos_values.specs.Arrays as judge
use Rattle.aos_values.proofs.Dimensions.{lengths_one}
use Rattle.aos_values.proofs.lengths.lengths_from.Goals as goal

pub loop-left-preserved : goal.loop-left-preserved
loop-left-preserved c =
    let e = c.args.env.now in
    let l = c.loop-left in
    let rest = judge.lengths_from e.types (l.left - 1) (env.row_of e (Some c.in-Some.element)) in
    ap (λ ns. ns ++ rest) c.in_ok-push.ensures.items
    ∙ lengths_one e l.of l.left (c.in-Some.length, c.in-Some.element) l.lengths.items _ (sym c.in-Some.ensures) (omega (arith, c.loop-left-test.true)) l.invariant
