-- The goal of take_argument that the search leaves open.
use Rattle.std.proofs.Common.{[], ◌∷◌, reverse, sym, ap, ◌∙◌, subst}
use Rattle.aos_code.specs.Silent.{kinds_of}
use Rattle.aos_sound.specs.Sound.{without}
use Rattle.aos_sound.specs.Stacks.{stack_at, Means}
use Rattle.aos_sound.proofs.Taken.{open_row}
use Rattle.aos_sound.proofs.take.take_argument.Goals as goal

pub returns-in-Open : goal.returns-in-Open
returns-in-Open c =
    let e = ap (λ p. reverse (kinds_of (p ∷ []))) c.in-Open.is ∙ open_row c.in-Open.lengths in
    subst (λ ks. Means c.args.stacks.now c.take_row.result (without ks (stack_at c.args.stacks.now c.args.id))) (sym e) c.take_row.ensures
