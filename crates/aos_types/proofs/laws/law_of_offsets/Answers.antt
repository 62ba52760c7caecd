use Rattle.aos_types.specs.Contents.{contents}
use Rattle.aos_types.proofs.Offsets.{apart}
use Rattle.aos_types.proofs.laws.law_of_offsets.Goals as goal

pub returns : goal.returns
returns c = λ rows t p q a b. apart (contents rows t) p q a b
