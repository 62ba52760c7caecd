use Rattle.std.proofs.Common.{◌≡◌, ◌++◌, map, take}
use Rattle.aos_entries.proofs.entries.add_constants.Given as goal

abbrev pub invariant-loop-def : goal.invariant-loop-def
invariant-loop-def l = l.all.items ≡ l.initial.all.items ++ map (λ c. c.def) (take l.def-index l.defs)
