use Rattle.aos_parse_mod.proofs.Trees as tree
use Rattle.aos_parse_mod.proofs.names.def.Goals as goal

pub returns-clause-tree : goal.returns-clause-tree
returns-clause-tree c =
    tree.def_of c.in_ok-name.ensures.tree c.mark-mark.ensures.tree
