-- The goals of take_arguments that the search leaves open.
use Rattle.std.proofs.Common.{[], ◌∷◌, ◌-◌, get_or, take, reverse, sym, ap, ◌∙◌, arith}
use Rattle.aos_code.specs.declared.instr.Kind.TheVariants.{N}
use Rattle.aos_code.specs.declared.image.ParamKind.TheVariants.{Scalar}
use Rattle.aos_code.specs.Silent.{kinds_of}
use Rattle.aos_sound.specs.Sound.{without}
use Rattle.aos_sound.specs.Stacks.{stack_at}
use Rattle.aos_sound.proofs.Taken.{last_first, first_found, first_missed}
use Rattle.aos_sound.proofs.take.take_arguments.Goals as goal

pub returns-in-None : goal.returns-in-None
returns-in-None c =
    let last = last_first c.args.parameters.now c.loop-todo.todo (omega (arith, c.loop-todo-test.true)) c.loop-todo.invariant.1 in
    let s = stack_at c.args.stacks.now c.loop-todo.left in
    sym c.loop-todo.invariant.2 ∙ ap (λ ks. without ks s) last ∙ first_missed (reverse (kinds_of (get_or c.args.parameters.now (c.loop-todo.todo - 1) (Scalar N) ∷ []))) (reverse (kinds_of (take (c.loop-todo.todo - 1) c.args.parameters.now))) s c.in-None.ensures

pub loop-todo-preserved : goal.loop-todo-preserved
loop-todo-preserved c =
    let last = last_first c.args.parameters.now c.loop-todo.todo (omega (arith, c.loop-todo-test.true)) c.loop-todo.invariant.1 in
    let s = stack_at c.args.stacks.now c.loop-todo.left in
    let le = c.loop-todo.invariant.1 in
    let found = first_found (reverse (kinds_of (get_or c.args.parameters.now (c.loop-todo.todo - 1) (Scalar N) ∷ []))) (reverse (kinds_of (take (c.loop-todo.todo - 1) c.args.parameters.now))) s (stack_at c.args.stacks.now c.in-Some.below) c.in-Some.ensures.1 in
    (c.in-Some.ensures.0, omega (arith, le), sym (ap (λ ks. without ks s) last ∙ found) ∙ c.loop-todo.invariant.2)
