use Rattle.std.proofs.Common.{◌≡◌, ◌++◌, take, map}
use Rattle.aos_typed.specs.Routines.{routine_of}
use Rattle.aos_typed.specs.Seen.{seen_procedure}
use Rattle.aos_dispatch.specs.Routines.{seen_routines}
use Rattle.aos_dispatch.proofs.routines.put_procedures.Given as goal

-- what was added so far
abbrev pub invariant-loop-procedure : goal.invariant-loop-procedure
invariant-loop-procedure l =
    seen_routines l.all.items ≡ seen_routines l.fn.all.items ++ map (routine_of l.home) (map seen_procedure (take l.procedure-index l.procedures))
