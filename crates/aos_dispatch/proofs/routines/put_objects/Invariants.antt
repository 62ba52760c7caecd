use Rattle.std.proofs.Common.{◌≡◌, ◌++◌, take, map}
use Rattle.aos_typed.specs.Routines.{routine_of}
use Rattle.aos_typed.specs.Seen.{seen_object}
use Rattle.aos_dispatch.specs.Routines.{seen_routines}
use Rattle.aos_dispatch.proofs.routines.put_objects.Given as goal

-- what was added so far
abbrev pub invariant-loop-object : goal.invariant-loop-object
invariant-loop-object l =
    seen_routines l.all.items ≡ seen_routines l.fn.all.items ++ map (λ o. routine_of o.home o.body) (map seen_object (take l.object-index l.objects))
