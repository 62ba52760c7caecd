-- The arguments of a call, as the code keeps them, as those of the typed program.
use Rattle.std.proofs.Common.{◌≡◌, List, [], ◌∷◌, map, refl, ap, ◌∙◌}
use Rattle.aos_typed.specs.declared.tree.TArgument.{TArgument}
use Rattle.aos_typed.specs.declared.tree.TArgument.TheVariants as argument
use Rattle.aos_typed.specs.Program.{Arguments}
use Rattle.aos_typed.specs.Seen.{seen_argument, seen_list}
use Rattle.aos_arguments.specs.Arguments.{given_as, listed}
use Rattle.aos_arguments.specs.Seen.{seen_given}

as_given : (a : TArgument) (more : Arguments) → seen_argument a more ≡ given_as (seen_given a) more
as_given (argument.Scalar e) more = refl
as_given (argument.Whole p) more = refl
as_given (argument.Opening r) more = refl

pub as_listed : (as' : List TArgument) → seen_list as' ≡ listed (map seen_given as')
as_listed [] = refl
as_listed (a ∷ as') = as_given a (seen_list as') ∙ ap (λ more. given_as (seen_given a) more) (as_listed as')
