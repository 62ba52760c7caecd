-- It is seen as its parts are.
use Rattle.std.proofs.Common.{◌∙◌}
use Rattle.aos_typed.specs.declared.tree.TElse.TheViews as view
use Rattle.aos_typed.specs.Program.{WithRecord}
use Rattle.aos_typed.specs.Seen.{seen_place, seen_stats}
use Rattle.aos_typed.proofs.Seen.{with_record_seen}
use Rattle.aos_made_stat.proofs.Made.{made_seen}
use Rattle.aos_made_stat.proofs.stat.MadeStat.with_record.Goals as goal

pub returns : goal.returns
returns c =
    let whole = c.take-whole.result in
    let body = c.take-body.result in
    made_seen c.new.result (view.WithRecord c.args.at whole body) (WithRecord c.args.at (seen_place c.args.whole) (seen_stats c.args.body))
    (with_record_seen c.args.at whole body ∙ (λ i. WithRecord c.args.at (seen_place (c.take-whole.ensures i)) (seen_stats (c.take-body.ensures i))))
    c.new.ensures
