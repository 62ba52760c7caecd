use Rattle.std.proofs.Common.{ap, ◌∙◌}
use Rattle.aos_scheduler.specs.Stands.{outcome_by}
use Rattle.aos_scheduler.proofs.Standing.{outcome_is}
use Rattle.aos_scheduler.proofs.line.Line.outcome.Goals as goal

pub returns : goal.returns
returns c line owner h =
    let l = c.args.self.now in
    c.outcome_by.ensures ∙ ap (outcome_by l.live l.awake) c.is_some.ensures ∙ outcome_is l line owner h c.args.spent
