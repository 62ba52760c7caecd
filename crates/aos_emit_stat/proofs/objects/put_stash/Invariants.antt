use Rattle.std.proofs.Common.{◌≡◌, ◌++◌, drop}
use Rattle.aos_sim.specs.Code.{stash}
use Rattle.aos_emit_stat.proofs.objects.put_stash.Given as goal

-- the code so far, and what is left to keep
abbrev pub invariant-loop-kind : goal.invariant-loop-kind
invariant-loop-kind l = l.code.items ++ stash (drop l.kind-index l.kinds) l.number ≡ l.fn.code.items ++ stash l.fn.kinds l.fn.level
