use Rattle.std.proofs.Common.{◌+◌, sym, ap, ◌∙◌}
use Rattle.std.specs.Prelude.{slice_get, option_map}
use Rattle.aos_typed.specs.Numbers.{procedure_number}
use Rattle.aos_typed.specs.Seen.{seen_program}
use Rattle.aos_dispatch.proofs.Firsts.{number_is}
use Rattle.aos_dispatch.proofs.dispatch.Dispatch.called.Goals as goal

pub returns : goal.returns
returns c =
    let m = c.args.home in
    let k = c.args.number in
    number_is (seen_program c.self.inside.program.now) c.self.inside.firsts.items m k c.in_ok-all.all c.self.invariant.firsts
    (ap (λ l. option_map (λ f. f + k) (slice_get l m)) (sym c.deref.ensures.value) ∙ c.in_ok-all.ensures)
    ∙ ap (λ p. procedure_number (seen_program p) m k) c.self.view_is
