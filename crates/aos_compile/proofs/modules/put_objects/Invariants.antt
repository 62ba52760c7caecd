-- The loop over what stands beside types.
use Rattle.std.proofs.Common.{◌≡◌, ◌++◌, length, map}
use Rattle.aos_typed.specs.Seen.{seen_object}
use Rattle.aos_compile.specs.Modules as judge
use Rattle.aos_compile.specs.Seen.{seen_beside}
use Rattle.aos_compile.proofs.modules.put_objects.Given as goal

abbrev pub invariant-loop-beside : goal.invariant-loop-beside
invariant-loop-beside l =
    let was = map seen_object l.initial.all.items in
    map seen_object l.all.items ≡ was ++ judge.objects_from l.env (length was) (map seen_beside l.yielded)
