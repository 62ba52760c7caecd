use Rattle.std.proofs.Common.{refl}
use Rattle.aos_tree.specs.Nesting.{anywhere}
use Rattle.aos_parse_stat.proofs.StatUnique.{unique_block}
use Rattle.aos_parse_stat.proofs.laws.unambiguous.Goals as goal

pub returns : goal.returns
returns c = λ d a b ts rest rest' h h'. unique_block anywhere h h' refl
