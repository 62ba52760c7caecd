use Rattle.std.proofs.Common.{◌≡◌, ◌++◌, map, take}
use Rattle.aos_symbols.specs.Declarations.{types_of, seen_parts}
use Rattle.aos_check_types.specs.Limits.{defined_at}
use Rattle.aos_check_types.proofs.limits.add_defined_within.Given as goal

abbrev pub invariant-loop-part : goal.invariant-loop-part
invariant-loop-part l =
    l.written.items ≡ l.initial.written.items ++ map defined_at (types_of (seen_parts (take l.part-index l.parts)))
