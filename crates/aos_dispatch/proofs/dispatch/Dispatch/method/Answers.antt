use Rattle.std.proofs.Common.{ap, sym, ◌∙◌}
use Rattle.std.specs.Prelude.{slice_get, option_and_then}
use Rattle.aos_typed.specs.Methods.{method_number}
use Rattle.aos_typed.specs.Seen.{seen_program}
use Rattle.aos_dispatch.proofs.Tables.{method_is}
use Rattle.aos_dispatch.proofs.dispatch.Dispatch.method.Goals as goal

pub returns : goal.returns
returns c =
    let t = c.args.of in
    let k = c.args.slot in
    method_is (seen_program c.self.inside.program.now) c.self.inside.tables.items t k c.in_ok-number.number c.self.invariant.tables
    (ap (λ l. option_and_then (λ v. slice_get v k) (slice_get l t)) (sym c.deref.ensures.value) ∙ c.in_ok-number.ensures)
    ∙ ap (λ p. method_number (seen_program p) t k) c.self.view_is
