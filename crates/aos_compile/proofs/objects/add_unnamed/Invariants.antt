use Rattle.std.proofs.Common.{◌≡◌, ◌++◌, map, take}
use Rattle.aos_compile.specs.Modules as judge
use Rattle.aos_compile.specs.Seen.{seen_beside}
use Rattle.aos_compile.proofs.objects.add_unnamed.Given as goal

abbrev pub invariant-loop-place : goal.invariant-loop-place
invariant-loop-place l =
    map seen_beside l.objects.items ≡ map seen_beside l.initial.objects.items ++ map judge.unnamed_type (take l._place-index l.places)
