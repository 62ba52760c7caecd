-- The goals of take_applied that the search leaves open.
use Rattle.std.proofs.Common.{◌≡◌, [], ◌∷◌, List, Some, None, reverse, sym, subst}
use Rattle.aos_code.specs.declared.image.ParamKind.{ParamKind}
use Rattle.aos_code.specs.declared.instr.Kind.TheVariants.{C}
use Rattle.aos_code.specs.Silent.{kinds_of}
use Rattle.aos_sound.specs.Sound.{without}
use Rattle.aos_sound.specs.Stacks.{stack_at, Means}
use Rattle.aos_sound.proofs.Taken.{first_found, first_missed}
use Rattle.aos_sound.proofs.behind.take_applied.Goals as goal

pub returns-in-Some : goal.returns-in-Some
returns-in-Some c =
    let s = stack_at c.args.stacks.now c.args.id in
    let below = stack_at c.args.stacks.now c.in-Some.below in
    let ks = reverse (kinds_of c.args.shape.now.params.items) in
    let found : without ks s ≡ Some below = subst (λ (ps : List ParamKind). without (reverse (kinds_of ps)) s ≡ Some below) c.deref.ensures.value c.in-Some.ensures.1 in
    subst (λ o. Means c.args.stacks.now c.take.result o) (sym (first_found ks (C ∷ []) s below found)) c.take.ensures

pub returns-in-None : goal.returns-in-None
returns-in-None c =
    let s = stack_at c.args.stacks.now c.args.id in
    let ks = reverse (kinds_of c.args.shape.now.params.items) in
    let missed : without ks s ≡ None = subst (λ (ps : List ParamKind). without (reverse (kinds_of ps)) s ≡ None) c.deref.ensures.value c.in-None.ensures in
    first_missed ks (C ∷ []) s missed
