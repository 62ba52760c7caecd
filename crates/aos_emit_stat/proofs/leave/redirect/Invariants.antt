use Rattle.std.proofs.Common.{◌≡◌, ◌≤◌, ◌-◌, length}
use Rattle.aos_emit_stat.specs.Redirect.{redirect_behind}
use Rattle.aos_emit_stat.proofs.leave.redirect.Given as goal

-- what is left to redirect makes the whole of what was redirected
abbrev pub invariant-loop-at : goal.invariant-loop-at
invariant-loop-at l =
    (l.at ≤ length l.code.items) × (redirect_behind l.at l.pending l.to l.code.items ≡ redirect_behind l.fn.from l.fn.pending l.fn.to l.fn.code.items)

abbrev pub decreases-loop-at : goal.decreases-loop-at
decreases-loop-at l = length l.code.items - l.at
