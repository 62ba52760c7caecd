-- What the code's arguments are seen as.
use Rattle.std.specs.Prelude.{map}
use Rattle.aos_typed.specs.Seen.{seen_place, seen_rows, seen_expr}
use Rattle.aos_typed.specs.declared.tree.TArgument.{TArgument}
use Rattle.aos_typed.specs.declared.tree.TArgument.TheVariants as argument
use Rattle.aos_arguments.specs.declared.arguments.Handing.{Handing as CodeHanding}
use Rattle.aos_arguments.specs.Arguments.{Given, Scalar, Whole, Opening, Handing}

abbrev pub seen_given : TArgument → Given
seen_given (argument.Scalar e) = Scalar (seen_expr e)
seen_given (argument.Whole p) = Whole (seen_place p)
seen_given (argument.Opening r) = Opening (seen_rows r)

abbrev pub seen_handing : CodeHanding → Handing
seen_handing h = record { are_kept = h.are_kept; given = map seen_given h.given }
