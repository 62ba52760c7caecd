-- It is seen as its parts are.
use Rattle.std.proofs.Common.{◌∙◌}
use Rattle.aos_typed.specs.declared.tree.TElse.TheViews as view
use Rattle.aos_typed.specs.Program.{If}
use Rattle.aos_typed.specs.Seen.{arms_of, seen_stats}
use Rattle.aos_typed.proofs.Seen.{if_seen}
use Rattle.aos_made_stat.proofs.Made.{made_seen}
use Rattle.aos_made_stat.proofs.stat.MadeStat.if_of.Goals as goal

pub returns : goal.returns
returns c =
    let arms = c.take-arms.result in
    let last = c.take-last.result in
    made_seen c.new.result (view.If c.args.at arms last) (If c.args.at (arms_of c.args.arms (seen_stats c.args.last)))
    (if_seen c.args.at arms last ∙ (λ i. If c.args.at (arms_of (c.take-arms.ensures i) (seen_stats (c.take-last.ensures i)))))
    c.new.ensures
