use Rattle.std.proofs.Common.{◌≡◌, ◌++◌, map, take}
use Rattle.aos_compile.specs.Modules as judge
use Rattle.aos_compile.specs.Seen.{seen_beside}
use Rattle.aos_compile.proofs.objects.add_local_types.Given as goal

abbrev pub invariant-loop-def : goal.invariant-loop-def
invariant-loop-def l = map seen_beside l.objects.items ≡ map seen_beside l.initial.objects.items ++ map (judge.local_type l.env) (take l.def-index l.defs)
