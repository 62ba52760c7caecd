-- How statements are left, by what they stand in.
use Rattle.std.specs.Prelude.{ℕ}
use Rattle.aos_sim.specs.Code.{Within, NoRegion, AroundLoop, InLoop, Ways}
use Rattle.aos_emit_expr.specs.declared.regions.Within.{Within as Around}
use Rattle.aos_emit_expr.specs.declared.regions.Within.TheVariants as around
use Rattle.aos_emit_expr.specs.Pending.{pending_exit}
use Rattle.aos_emit_expr.specs.Scope.{Inside}

-- what statements stand in
abbrev pub seen_within : Around → Within
seen_within around.NoRegion = NoRegion
seen_within around.AroundLoop = AroundLoop
seen_within around.InLoop = InLoop

abbrev pub within_of : Inside → Within
within_of s = seen_within s.within

-- how statements are left where EXIT leads to this number, and where that isn't known yet
abbrev pub left_to : Inside → (exit : ℕ) → Ways
left_to s exit = record { exit = exit; within = within_of s }

abbrev pub pending : Inside → Ways
pending s = left_to s pending_exit
