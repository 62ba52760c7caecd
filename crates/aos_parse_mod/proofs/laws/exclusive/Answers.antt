use Rattle.aos_parse_mod.proofs.ModExclusion.{exclude}
use Rattle.aos_parse_mod.proofs.laws.exclusive.Goals as goal

pub returns : goal.returns
returns c = λ ts. exclude ts
