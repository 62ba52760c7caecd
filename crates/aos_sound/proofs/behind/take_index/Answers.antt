-- The goal of take_index that the search leaves open.
use Rattle.std.proofs.Common.{◌-◌, sym, subst, arith}
use Rattle.aos_sound.specs.Sound.{all_topped, row}
use Rattle.aos_sound.specs.Stacks.{Means}
use Rattle.aos_sound.proofs.Taken.{index_found}
use Rattle.aos_sound.proofs.behind.take_index.Goals as goal

pub returns-in-Some-take : goal.returns-in-Some-take
returns-in-Some-take c =
    let found = index_found c.args.lengths (omega (arith, c.if-lengths-eq0.false)) _ _ _ c.in-Some.ensures.1 c.in-Some-take.ensures.1 in
    subst (λ o. Means c.args.stacks.now c.if_row-in-Some-take.result (all_topped (row (c.args.lengths - 1)) o)) (sym found) c.if_row-in-Some-take.ensures
