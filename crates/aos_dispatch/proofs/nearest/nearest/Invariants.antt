use Rattle.std.proofs.Common.{◌≡◌, ◌-◌, length}
use Rattle.aos_typed.specs.Methods.{nearest_by, nearest}
use Rattle.aos_typed.specs.Seen.{seen_program}
use Rattle.aos_dispatch.specs.Nearest.{told_by}
use Rattle.aos_dispatch.proofs.nearest.nearest.Given as goal

-- the rest of the chain decides
abbrev pub invariant-loop-step : goal.invariant-loop-step
invariant-loop-step l =
    let p = seen_program l.program in
    nearest_by p (told_by p l.asked) (length p.objects - l._step) l.of ≡ nearest p (told_by p l.asked) l.t
