-- The loop over constants: what was added so far.
use Rattle.std.proofs.Common.{◌≡◌, ◌++◌, take}
use Rattle.std.specs.List.{flat_map}
use Rattle.aos_arguments.specs.Filled.{constant_texts}
use Rattle.aos_arguments.proofs.filled.put_constants.Given as goal

abbrev pub invariant-loop-constant : goal.invariant-loop-constant
invariant-loop-constant l = l.texts.items ≡ l.initial.texts.items ++ flat_map constant_texts (take l.constant-index l.constants)
