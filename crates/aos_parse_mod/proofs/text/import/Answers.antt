use Rattle.aos_parse_mod.proofs.Trees as tree
use Rattle.aos_parse_mod.proofs.text.import.Goals as goal

pub returns-clause-tree : goal.returns-clause-tree
returns-clause-tree c =
    tree.import_of c.in_ok-name.ensures.tree c.in_ok-of.ensures.tree
