use Rattle.aos_types.proofs.Offsets.{apart}
use Rattle.aos_layout.specs.Frame.{frame}
use Rattle.aos_layout.proofs.laws.law_of_frames.Goals as goal

pub returns : goal.returns
returns c = λ rows x p q a b. apart (frame rows x) p q a b
