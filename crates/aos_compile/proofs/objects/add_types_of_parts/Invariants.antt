use Rattle.std.proofs.Common.{◌≡◌, ◌++◌, map, take}
use Rattle.aos_symbols.specs.Declarations.{types_of, seen_parts}
use Rattle.aos_compile.specs.Modules as judge
use Rattle.aos_compile.specs.Seen.{seen_beside}
use Rattle.aos_compile.proofs.objects.add_types_of_parts.Given as goal

abbrev pub invariant-loop-part : goal.invariant-loop-part
invariant-loop-part l =
    map seen_beside l.objects.items
    ≡ map seen_beside l.initial.objects.items ++ map (judge.local_type l.env) (types_of (seen_parts (take l.part-index l.parts)))
