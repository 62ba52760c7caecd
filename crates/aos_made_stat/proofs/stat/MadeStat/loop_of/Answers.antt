-- It is seen as its parts are.
use Rattle.std.proofs.Common.{◌∙◌}
use Rattle.aos_typed.specs.declared.tree.TElse.TheViews as view
use Rattle.aos_typed.specs.Program.{Loop}
use Rattle.aos_typed.specs.Seen.{seen_stats}
use Rattle.aos_typed.proofs.Seen.{loop_seen}
use Rattle.aos_made_stat.proofs.Made.{made_seen}
use Rattle.aos_made_stat.proofs.stat.MadeStat.loop_of.Goals as goal

pub returns : goal.returns
returns c =
    let body = c.take-body.result in
    made_seen c.new.result (view.Loop c.args.at body) (Loop c.args.at (seen_stats c.args.body))
    (loop_seen c.args.at body ∙ (λ i. Loop c.args.at (seen_stats (c.take-body.ensures i))))
    c.new.ensures
