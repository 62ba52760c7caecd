use Rattle.aos_code_soundness.proofs.Parts.{parts_sound}
use Rattle.aos_code_soundness.proofs.law_of_parts.Goals as goal

pub returns : goal.returns
returns c = λ p image well tables. parts_sound p image well tables
