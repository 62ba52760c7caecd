use Rattle.aos_code_soundness.proofs.Conditions.{conditions_sound}
use Rattle.aos_code_soundness.proofs.law_of_conditions.Goals as goal

pub returns : goal.returns
returns c = λ p image well ok. conditions_sound p image well ok
