-- It is seen as its parts are.
use Rattle.std.proofs.Common.{◌∙◌}
use Rattle.aos_typed.specs.declared.tree.TElse.TheViews as view
use Rattle.aos_typed.specs.Program.{With}
use Rattle.aos_typed.specs.Seen.{seen_expr, seen_stats}
use Rattle.aos_typed.proofs.Seen.{with_seen}
use Rattle.aos_made_stat.proofs.Made.{made_seen}
use Rattle.aos_made_stat.proofs.stat.MadeStat.with_of.Goals as goal

pub returns : goal.returns
returns c =
    let object = c.take-object.result in
    let body = c.take-body.result in
    made_seen c.new.result (view.With c.args.at object body) (With c.args.at (seen_expr c.args.object) (seen_stats c.args.body))
    (with_seen c.args.at object body ∙ (λ i. With c.args.at (seen_expr (c.take-object.ensures i)) (seen_stats (c.take-body.ensures i))))
    c.new.ensures
