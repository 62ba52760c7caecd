-- A module without a scope has no variables.
use Rattle.std.proofs.Common.{ap, sym, ◌∙◌, slice_get}
use Rattle.std.specs.Option.{option_copied}
use Rattle.aos_check_types.proofs.Judging.{variables_none}
use Rattle.aos_check_types.proofs.limits.note_variables.Goals as goal

pub returns-in_default : goal.returns-in_default
returns-in_default c =
    variables_none c.args.env.now.types c.args.found.now _ _ (slice_get c.args.env.now.here.scopes 0) (sym c.scope.ensures ∙ ap option_copied c.in_default.is)
