-- What is called, as it is kept.
use Rattle.aos_typed.specs.declared.tree.TCallee.{TCallee}
use Rattle.aos_typed.specs.declared.tree.TCallee.TheVariants.{Plain, Upper}
use Rattle.aos_made.specs.declared.callee.Kept.{Kept}
use Rattle.aos_made.specs.declared.callee.Kept.TheVariants as kept

abbrev pub callee_of : Kept → TCallee
callee_of (kept.Plain m k) = Plain m k
callee_of (kept.Upper t k) = Upper t k
callee_of (kept.Made c) = c.value
