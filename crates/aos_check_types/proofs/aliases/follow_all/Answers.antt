-- Each round leads twice as far as the one before.
use Rattle.std.proofs.Common.{arith, ap, ◌∙◌}
use Rattle.aos_check_types.specs.Ahead.{reached_on}
use Rattle.aos_check_types.proofs.Ahead.{begun, round, far_end}
use Rattle.aos_check_types.proofs.aliases.follow_all.Goals as goal

pub loop-left-init : goal.loop-left-init
loop-left-init c = begun c.args.first c.args.targets.now c.args.reached.now.items c.args.ahead.now.items c.requires.own c.requires.one

pub loop-left-preserved : goal.loop-left-preserved
loop-left-preserved c =
    let l = c.loop-left in
    let on = c.in_ok-reach_on.ensures ∙ ap (λ xs. reached_on c.args.first xs l.left l.reached.items) c.as_slice.ensures.value in
    round c.args.first c.args.targets.now l.reached.items l.ahead.items c.reach_on.new.reached.items c.double.new.ahead.items l.left l.invariant on c.in_ok-double.ensures

pub returns : goal.returns
returns c =
    far_end c.args.first c.args.targets.now c.loop-left.reached.items c.loop-left.ahead.items c.loop-left.left c.loop-left.invariant (omega arith)
