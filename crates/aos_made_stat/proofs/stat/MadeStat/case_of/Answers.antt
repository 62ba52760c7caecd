-- It is seen as its parts are.
use Rattle.std.proofs.Common.{◌∙◌}
use Rattle.aos_typed.specs.declared.tree.TElse.TheViews as view
use Rattle.aos_typed.specs.Program.{Case}
use Rattle.aos_typed.specs.Seen.{cases_of, seen_else, seen_expr}
use Rattle.aos_typed.proofs.Seen.{case_seen}
use Rattle.aos_made_stat.proofs.Made.{made_seen}
use Rattle.aos_made_stat.proofs.stat.MadeStat.case_of.Goals as goal

pub returns : goal.returns
returns c =
    let value = c.take-value.result in
    let arms = c.take-arms.result in
    let last = c.take-last.result in
    made_seen c.new.result (view.Case c.args.at value arms last) (Case c.args.at (seen_expr c.args.value) (cases_of c.args.arms (seen_else c.args.last)))
    (case_seen c.args.at value arms last
    ∙ (λ i. Case c.args.at (seen_expr (c.take-value.ensures i)) (cases_of (c.take-arms.ensures i) (seen_else (c.take-last.ensures i)))))
    c.new.ensures
