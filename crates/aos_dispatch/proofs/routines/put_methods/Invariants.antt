use Rattle.std.proofs.Common.{◌≡◌, ◌++◌, take, map}
use Rattle.aos_typed.specs.Routines.{methods_from}
use Rattle.aos_typed.specs.Seen.{seen_object}
use Rattle.aos_dispatch.specs.Routines.{seen_routines}
use Rattle.aos_dispatch.proofs.routines.put_methods.Given as goal

-- what was added so far
abbrev pub invariant-loop-object : goal.invariant-loop-object
invariant-loop-object l =
    seen_routines l.all.items ≡ seen_routines l.fn.all.items ++ methods_from (map seen_object (take l.object-index l.objects))
