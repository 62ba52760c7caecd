-- It is seen as its parts are.
use Rattle.std.proofs.Common.{◌∙◌}
use Rattle.aos_typed.specs.declared.tree.TElse.TheViews as view
use Rattle.aos_typed.specs.Program.{While}
use Rattle.aos_typed.specs.Seen.{seen_expr, seen_stats}
use Rattle.aos_typed.proofs.Seen.{while_seen}
use Rattle.aos_made_stat.proofs.Made.{made_seen}
use Rattle.aos_made_stat.proofs.stat.MadeStat.while_of.Goals as goal

pub returns : goal.returns
returns c =
    let test = c.take-test.result in
    let body = c.take-body.result in
    made_seen c.new.result (view.While c.args.at test body) (While c.args.at (seen_expr c.args.test) (seen_stats c.args.body))
    (while_seen c.args.at test body ∙ (λ i. While c.args.at (seen_expr (c.take-test.ensures i)) (seen_stats (c.take-body.ensures i))))
    c.new.ensures
