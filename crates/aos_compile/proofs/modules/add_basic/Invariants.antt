-- The loop over the basic types.
use Rattle.std.proofs.Common.{◌≡◌, ◌++◌, map, take}
use Rattle.aos_types.specs.declared.row.TypeRow.TheVariants as row
use Rattle.aos_compile.proofs.modules.add_basic.Given as goal

abbrev pub invariant-loop-of : goal.invariant-loop-of
invariant-loop-of l = l.types ≡ l.initial.types ++ map (λ b. row.Basic b) (take l.of-index l.basic)
