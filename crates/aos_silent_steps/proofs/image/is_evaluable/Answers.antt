use Rattle.std.proofs.Common.{rules, tests}
use Rattle.std.proofs.lemmas.Iterator.{YieldsList-from_slice}
use Rattle.std.proofs.lemmas.Iterator.Search.{all_from_yields_List}
use Rattle.aos_code.specs.Machine.{may_evaluate}
use Rattle.aos_silent_steps.proofs.image.is_evaluable.Goals as goal

pub returns : goal.returns
returns c = all_from_yields_List may_evaluate _ _ c.all.result c.all.ensures.ran (YieldsList-from_slice c.args.code.now cc) (λ x b q k. search (rules, tests))
