-- One part more, and none.
use Rattle.aos_symbols.specs.Judged.{walk}
use Rattle.aos_made_types.specs.Formals as judge
use Rattle.aos_check_types.proofs.Telling.{walk_on, walk_done}
use Rattle.aos_made_types.proofs.formals.sections_in.Goals as goal

pub loop-section-preserved : goal.loop-section-preserved
loop-section-preserved c =
    walk_on judge.with_section (judge.formals_met c.loop-section.env c.loop-section.parameters) c.args.sections.now c.loop-section.section-index c.section-item.result (walk judge.with_section (judge.formals_met c.args.env.now c.args.parameters.now) c.args.sections.now)
    c.loop-section.invariant c.loop-section-test.true c.section-item.is c.in_ok-section_in.ensures

pub returns : goal.returns
returns c =
    walk_done judge.with_section (judge.formals_met c.loop-section.env c.loop-section.parameters) c.args.sections.now c.loop-section.section-index (walk judge.with_section (judge.formals_met c.args.env.now c.args.parameters.now) c.args.sections.now)
    c.loop-section.invariant c.loop-section-test.false
