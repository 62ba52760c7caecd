use Rattle.std.proofs.Common.{◌≡◌, ◌+◌, length, take}
use Rattle.aos_symbols.specs.Declarations.{type_defs, types_of, seen_parts}
use Rattle.aos_check_decl.proofs.pass.count_all_types.Given as goal

abbrev pub invariant-loop-part : goal.invariant-loop-part
invariant-loop-part l =
    l.count ≡ length (type_defs l.decls) + length (types_of (seen_parts (take l.part-index l.part-items)))
