-- The loop over scopes: what was added so far.
use Rattle.std.proofs.Common.{◌≡◌, ◌++◌, take}
use Rattle.std.specs.List.{flat_map}
use Rattle.aos_arguments.specs.Filled.{scope_texts}
use Rattle.aos_arguments.proofs.filled.put_scopes.Given as goal

abbrev pub invariant-loop-scope : goal.invariant-loop-scope
invariant-loop-scope l = l.texts.items ≡ l.initial.texts.items ++ flat_map scope_texts (take l.scope-index l.scopes)
