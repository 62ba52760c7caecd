use Rattle.std.proofs.Common.{◌∷◌, [], ◌++◌, reverse, ap, ◌∙◌}
use Rattle.aos_code.specs.declared.instr.Kind.TheVariants.{A}
use Rattle.aos_code.specs.Silent.{kinds_of}
use Rattle.aos_silent_steps.specs.Taken.{kinds_from}
use Rattle.aos_silent_steps.proofs.Arguments.{open_kinds}
use Rattle.aos_silent_steps.proofs.ask.past_param.Goals as goal

pub returns-in-None : goal.returns-in-None
returns-in-None c kinds k =
    let s = reverse c.args.stack.now in
    ap (λ p. kinds_from (reverse (kinds_of (p ∷ [])) ++ kinds) c.args.depth k s) c.in-Open.is
    ∙ ap (λ ks. kinds_from ks c.args.depth k s) (open_kinds c.in-Open.lengths kinds)
    ∙ c.in-None.ensures (A ∷ kinds) k

pub returns-in-Some : goal.returns-in-Some
returns-in-Some c kinds k =
    let s = reverse c.args.stack.now in
    ap (λ p. kinds_from (reverse (kinds_of (p ∷ [])) ++ kinds) c.args.depth k s) c.in-Open.is
    ∙ ap (λ ks. kinds_from ks c.args.depth k s) (open_kinds c.in-Open.lengths kinds)
    ∙ c.in-Some.ensures (A ∷ kinds) k ∙ c.past_kind-in-Some.ensures kinds k
