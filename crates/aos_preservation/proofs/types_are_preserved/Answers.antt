use Rattle.aos_preservation.proofs.Preserving.{preserved}
use Rattle.aos_preservation.proofs.types_are_preserved.Goals as goal

pub returns : goal.returns
returns c = preserved
