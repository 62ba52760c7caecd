-- It is seen as its parts are.
use Rattle.std.proofs.Common.{◌∙◌}
use Rattle.aos_typed.specs.declared.tree.TElse.TheViews as view
use Rattle.aos_typed.specs.Program.{Block}
use Rattle.aos_typed.specs.Seen.{seen_stats}
use Rattle.aos_typed.proofs.Seen.{block_seen}
use Rattle.aos_made_stat.proofs.Made.{made_seen}
use Rattle.aos_made_stat.proofs.stat.MadeStat.block.Goals as goal

pub returns : goal.returns
returns c =
    let body = c.take-body.result in
    made_seen c.new.result (view.Block c.args.at c.args.exclusive body) (Block c.args.at c.args.exclusive (seen_stats c.args.body))
    (block_seen c.args.at c.args.exclusive body ∙ (λ i. Block c.args.at c.args.exclusive (seen_stats (c.take-body.ensures i))))
    c.new.ensures
