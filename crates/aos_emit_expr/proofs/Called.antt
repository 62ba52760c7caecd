-- What something is called on is less than the call.
use Rattle.std.proofs.Common.{◌≤◌, ◌+◌, suc, Option, Some, None, arith}
use Rattle.aos_emit_expr.specs.declared.sources.Source.{Source}
use Rattle.aos_emit_expr.specs.Sizes.{source_size, first_size, called_size}

pub called_first : (r : Option Source) → first_size r ≤ suc (called_size r)
called_first None = omega arith
called_first (Some s) = omega arith
