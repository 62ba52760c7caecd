use Rattle.std.proofs.Common.{◌<◌, length, ap, sym, ◌∙◌, subst}
use Rattle.aos_typed.specs.Methods.{slots, own_numbers}
use Rattle.aos_typed.specs.Seen.{seen_program}
use Rattle.aos_program_layout.proofs.laid.Laid.methods.Goals as goal

pub methods-requires : goal.methods-requires
methods-requires c = subst (λ p. c.args.of < length p.objects.items) (sym (c.self.invariant.same ∙ c.self.view_is)) c.requires

pub returns : goal.returns
returns c =
    c.methods.ensures ∙ ap (λ p. slots (seen_program p) (own_numbers (seen_program p)) c.args.of) (c.self.invariant.same ∙ c.self.view_is)
