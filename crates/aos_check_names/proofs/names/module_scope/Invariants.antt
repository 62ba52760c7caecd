use Rattle.std.proofs.Common.{◌≡◌, map, take}
use Rattle.aos_check_names.proofs.names.module_scope.Given as goal

abbrev pub invariant-loop-import : goal.invariant-loop-import
invariant-loop-import l = l.names.items ≡ map (λ i. i.name) (take l.import-index l.tree.imports)
