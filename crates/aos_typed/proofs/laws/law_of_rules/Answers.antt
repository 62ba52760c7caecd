use Rattle.aos_typed.proofs.Rules.{no_step, no_loop, no_region}
use Rattle.aos_typed.proofs.laws.law_of_rules.Goals as goal

pub returns-clause-step : goal.returns-clause-step
returns-clause-step c r l at w p from to body h = no_step r l at w p from to body h

pub returns-clause-exit : goal.returns-clause-exit
returns-clause-exit c r at h = no_loop r at h

pub returns-clause-await_ : goal.returns-clause-await_
returns-clause-await_ c l at n e h = no_region l at n e h
