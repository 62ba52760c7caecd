-- The goals of take_called that the search leaves open.
use Rattle.std.proofs.Common.{◌≡◌, [], ◌∷◌, ◌++◌, List, Some, None, reverse, sym, ap, ◌∙◌, subst}
use Rattle.aos_code.specs.declared.image.ParamKind.{ParamKind}
use Rattle.aos_code.specs.declared.instr.Kind.TheVariants.{R}
use Rattle.aos_code.specs.Silent.{kinds_of}
use Rattle.aos_sound.specs.Sound.{object_below, without}
use Rattle.aos_sound.specs.Stacks.{stack_at, Means}
use Rattle.aos_sound.proofs.Taken.{first_found, first_missed}
use Rattle.aos_sound.proofs.behind.take_called.Goals as goal

pub returns-then-method : goal.returns-then-method
returns-then-method c =
    let s = stack_at c.args.stacks.now c.args.id in
    let below = stack_at c.args.stacks.now c.in-Some.below in
    let ks = reverse (kinds_of c.args.shape.now.params.items) in
    let found : without ks s ≡ Some below = subst (λ (ps : List ParamKind). without (reverse (kinds_of ps)) s ≡ Some below) c.deref.ensures.value c.in-Some.ensures.1 in
    subst (λ o. Means c.args.stacks.now c.take.result o) (sym (ap (λ b. without (ks ++ object_below b) s) c.if-method.true ∙ first_found ks (R ∷ []) s below found)) c.take.ensures

pub returns-in-None : goal.returns-in-None
returns-in-None c =
    let s = stack_at c.args.stacks.now c.args.id in
    let ks = reverse (kinds_of c.args.shape.now.params.items) in
    let missed : without ks s ≡ None = subst (λ (ps : List ParamKind). without (reverse (kinds_of ps)) s ≡ None) c.deref.ensures.value c.in-None.ensures in
    first_missed ks (object_below c.args.method) s missed
