-- It is seen as its parts are.
use Rattle.std.proofs.Common.{◌∙◌}
use Rattle.aos_typed.specs.declared.tree.TElse.TheViews as view
use Rattle.aos_typed.specs.Program.{Repeat}
use Rattle.aos_typed.specs.Seen.{seen_expr, seen_stats}
use Rattle.aos_typed.proofs.Seen.{repeat_seen}
use Rattle.aos_made_stat.proofs.Made.{made_seen}
use Rattle.aos_made_stat.proofs.stat.MadeStat.repeat_of.Goals as goal

pub returns : goal.returns
returns c =
    let test = c.take-test.result in
    let body = c.take-body.result in
    made_seen c.new.result (view.Repeat c.args.at body test) (Repeat c.args.at (seen_stats c.args.body) (seen_expr c.args.test))
    (repeat_seen c.args.at body test ∙ (λ i. Repeat c.args.at (seen_stats (c.take-body.ensures i)) (seen_expr (c.take-test.ensures i))))
    c.new.ensures
