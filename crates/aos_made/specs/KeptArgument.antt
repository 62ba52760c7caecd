-- The argument that is kept.
use Rattle.aos_typed.specs.declared.tree.TArgument.{TArgument}
use Rattle.aos_typed.specs.declared.tree.TArgument.TheVariants.{Scalar, Whole, Opening}
use Rattle.aos_made.specs.declared.arguments.Handed.{Handed}
use Rattle.aos_made.specs.declared.arguments.Handed.TheVariants as kept

abbrev pub argument_of : Handed → TArgument
argument_of (kept.Scalar e) = Scalar e
argument_of (kept.Whole p) = Whole p
argument_of (kept.Opening r) = Opening r
