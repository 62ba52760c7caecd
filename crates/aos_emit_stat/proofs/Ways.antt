-- What the statements of a LOOP stand in.
use Rattle.std.proofs.Common.{◌≡◌, refl}
use Rattle.aos_sim.specs.Code.{loop_within}
use Rattle.aos_emit_expr.specs.declared.regions.Within.{Within as Around}
use Rattle.aos_emit_expr.specs.declared.regions.Within.TheVariants as around
use Rattle.aos_emit_expr.specs.Scope.{around_loop}
use Rattle.aos_emit_stat.specs.Ways.{seen_within}

pub loop_left : (w : Around) → seen_within (around_loop w) ≡ loop_within (seen_within w)
loop_left around.NoRegion = refl
loop_left around.AroundLoop = refl
loop_left around.InLoop = refl
