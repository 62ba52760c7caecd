-- The goals of take_row that the search leaves open.
use Rattle.std.proofs.Common.{[], ◌∷◌, replicate, sym, subst}
use Rattle.aos_code.specs.declared.instr.Kind.TheVariants.{N, A}
use Rattle.aos_sound.specs.Stacks.{stack_at, Means}
use Rattle.aos_sound.proofs.Taken.{first_found, first_missed}
use Rattle.aos_sound.proofs.take.take_row.Goals as goal

pub returns-in-None : goal.returns-in-None
returns-in-None c = first_missed (replicate c.args.lengths N) (A ∷ []) (stack_at c.args.stacks.now c.args.id) c.in-None.ensures

pub returns-in-Some : goal.returns-in-Some
returns-in-Some c =
    let s = stack_at c.args.stacks.now c.args.id in
    subst (λ o. Means c.args.stacks.now c.take.result o)
    (sym (first_found (replicate c.args.lengths N) (A ∷ []) s (stack_at c.args.stacks.now c.in-Some.array) c.in-Some.ensures.1)) c.take.ensures
