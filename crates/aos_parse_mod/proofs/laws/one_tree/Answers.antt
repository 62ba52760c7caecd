use Rattle.aos_parse_mod.proofs.ModUnique.{unique_reads}
use Rattle.aos_parse_mod.proofs.laws.one_tree.Goals as goal

pub returns : goal.returns
returns c = unique_reads
