-- The loops over definitions of variables, and over the variables of one.
use Rattle.std.proofs.Common.{◌≡◌, ◌++◌, take}
use Rattle.std.specs.List.{flat_map}
use Rattle.aos_check_types.proofs.limits.add_singles.Given as goal

abbrev pub invariant-loop-def : goal.invariant-loop-def
invariant-loop-def l = l.singles.items ≡ l.initial.singles.items ++ flat_map (λ v. v.defs) (take l.def-index l.defs)

abbrev pub invariant-loop-single : goal.invariant-loop-single
invariant-loop-single l = l.singles.items ≡ l.initial.singles.items ++ take l.single-index l.single-items
