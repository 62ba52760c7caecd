use Rattle.aos_types.proofs.Offsets.{apart}
use Rattle.aos_layout.specs.Layout.{block}
use Rattle.aos_layout.proofs.laws.law_of_blocks.Goals as goal

pub returns : goal.returns
returns c = λ rows m p q a b. apart (block rows m) p q a b
