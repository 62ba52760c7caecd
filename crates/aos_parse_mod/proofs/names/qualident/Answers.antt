use Rattle.aos_parse_mod.proofs.Trees as tree
use Rattle.aos_parse_mod.proofs.names.qualident.Goals as goal

pub returns-clause-tree : goal.returns-clause-tree
returns-clause-tree c =
    tree.qualident_of c.in_ok-first.ensures.tree c.in_ok-second.ensures.tree
