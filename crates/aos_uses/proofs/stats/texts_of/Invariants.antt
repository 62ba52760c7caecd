-- What the loop of texts_of keeps.
use Rattle.std.proofs.Common.{◌≡◌, ◌++◌, drop, map}
use Rattle.aos_typed.specs.Routines.{routines}
use Rattle.aos_typed.specs.Seen.{seen_program}
use Rattle.aos_dispatch.specs.Routines.{seen_routines}
use Rattle.aos_uses.specs.Uses.{routine_uses}
use Rattle.aos_uses.proofs.stats.texts_of.Given as goal

-- the texts so far and those of the rest are all
abbrev pub invariant-loop-routine : goal.invariant-loop-routine
invariant-loop-routine l =
    let p = seen_program l.dispatch in
    map (λ v. v.items) l.texts.items ++ map (routine_uses p) (seen_routines (drop l.routine-index l.routines)) ≡ map (routine_uses p) (routines p)
