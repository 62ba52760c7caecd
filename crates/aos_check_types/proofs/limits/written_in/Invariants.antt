-- The loop over the places of types that have no name.
use Rattle.std.proofs.Common.{◌≡◌, ◌++◌, map, take}
use Rattle.aos_symbols.specs.Declarations.{all_type_defs}
use Rattle.aos_check_types.specs.Limits.{defined_at, unnamed_at}
use Rattle.aos_check_types.proofs.limits.written_in.Given as goal

abbrev pub invariant-loop-at : goal.invariant-loop-at
invariant-loop-at l = l.written.items ≡ map defined_at (all_type_defs l.decls) ++ map unnamed_at (take l.at-index l.at-items)
