use Rattle.std.proofs.Common.{◌≡◌, map, take}
use Rattle.std.specs.String.{string_bytes}
use Rattle.aos_variables.specs.Parts as judge
use Rattle.aos_variables.proofs.fields.spellings_of.Given as goal

abbrev pub invariant-loop-def : goal.invariant-loop-def
invariant-loop-def l = map (λ s. string_bytes s) l.all.items ≡ map (judge.def_spelling l.text) (take l.def-index l.defs)
