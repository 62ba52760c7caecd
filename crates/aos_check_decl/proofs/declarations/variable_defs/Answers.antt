-- One part more, and none.
use Rattle.aos_symbols.specs.Judged.{walk}
use Rattle.aos_check_decl.specs.Headings as judge
use Rattle.aos_check_types.proofs.Telling.{walk_on, walk_done}
use Rattle.aos_check_decl.proofs.declarations.variable_defs.Goals as goal

pub loop-def-preserved : goal.loop-def-preserved
loop-def-preserved c =
    walk_on judge.variable_def c.loop-def.env c.args.defs.now c.loop-def.def-index c.def-item.result (walk judge.variable_def c.args.env.now c.args.defs.now)
    c.loop-def.invariant c.loop-def-test.true c.def-item.is c.in_ok-variable_def.ensures

pub returns : goal.returns
returns c =
    walk_done judge.variable_def c.loop-def.env c.args.defs.now c.loop-def.def-index (walk judge.variable_def c.args.env.now c.args.defs.now)
    c.loop-def.invariant c.loop-def-test.false
