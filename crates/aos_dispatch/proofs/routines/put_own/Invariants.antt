use Rattle.std.proofs.Common.{◌≡◌, ◌++◌, take, map}
use Rattle.aos_typed.specs.Routines.{routine_of}
use Rattle.aos_typed.specs.Seen.{seen_method}
use Rattle.aos_dispatch.specs.Routines.{seen_routines}
use Rattle.aos_dispatch.proofs.routines.put_own.Given as goal

-- what was added so far
abbrev pub invariant-loop-method : goal.invariant-loop-method
invariant-loop-method l =
    seen_routines l.all.items ≡ seen_routines l.fn.all.items ++ map (λ m. routine_of l.home m.procedure) (map seen_method (take l.method-index l.methods))
