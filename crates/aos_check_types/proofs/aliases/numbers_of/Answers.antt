-- As many names are followed as there are types, and then no names are left to follow.
use Rattle.std.proofs.Common.{map, ap, ◌∙◌}
use Rattle.aos_check_types.specs.Aliases.{proper}
use Rattle.aos_check_types.proofs.Ahead.{numbers_along}
use Rattle.aos_check_types.proofs.aliases.numbers_of.Goals as goal

pub follow_all-requires-clause-own : goal.follow_all-requires-clause-own
follow_all-requires-clause-own c = c.in_ok-reached.ensures

pub follow_all-requires-clause-one : goal.follow_all-requires-clause-one
follow_all-requires-clause-one c = c.in_ok-ahead.ensures

pub returns : goal.returns
returns c =
    let first = c.args.first in
    let ts = c.args.targets.now in
    c.in_ok-proper_ones.ensures ∙ ap (map (proper first ts)) (c.as_slice.ensures.value ∙ c.in_ok-follow_all.ensures) ∙ numbers_along first ts
