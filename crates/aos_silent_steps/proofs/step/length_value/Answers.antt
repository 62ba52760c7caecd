use Rattle.std.proofs.Common.{refl}
use Rattle.aos_base.specs.declared.root.Root.TheVariants.{Frame}
use Rattle.aos_base.specs.Question.{Lengths}
use Rattle.aos_silent_steps.proofs.Oks.{ok_more}
use Rattle.aos_silent_steps.proofs.step.length_value.Goals as goal

pub returns-clause-ok : goal.returns-clause-ok
returns-clause-ok c = ok_more c.own_value.result _ _ (λ did h here. h (Lengths (record { root = Frame here; cell = c.args.number })) refl) c.own_value.ensures.ok
