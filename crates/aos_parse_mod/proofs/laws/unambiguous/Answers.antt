use Rattle.std.proofs.Common.{refl}
use Rattle.aos_tree.specs.Nesting.{anywhere}
use Rattle.aos_parse_mod.proofs.ModUnique.{unique_module}
use Rattle.aos_parse_mod.proofs.laws.unambiguous.Goals as goal

pub returns : goal.returns
returns c = λ d a b ts rest rest' h h'. unique_module anywhere h h' refl
