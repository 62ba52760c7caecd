use Rattle.std.proofs.Common.{◌≡◌, ◌++◌, take, map}
use Rattle.aos_typed.specs.Routines.{bodies_from}
use Rattle.aos_typed.specs.Seen.{seen_module}
use Rattle.aos_dispatch.specs.Routines.{seen_routines}
use Rattle.aos_dispatch.proofs.routines.put_bodies.Given as goal

-- what was added so far
abbrev pub invariant-loop-module : goal.invariant-loop-module
invariant-loop-module l =
    (seen_routines l.all.items ≡ seen_routines l.fn.all.items ++ bodies_from 0 (map seen_module (take l.module-index l.modules)))
    × (l.number ≡ l.module-index)
