use Rattle.std.proofs.Common.{◌<◌, [], length, ap, sym, ◌∙◌, subst}
use Rattle.std.specs.Prelude.{slice_get}
use Rattle.std.specs.Option.{unwrap_or}
use Rattle.aos_typed.specs.Methods.{slots, own_numbers}
use Rattle.aos_typed.specs.Seen.{seen_program}
use Rattle.aos_dispatch.proofs.Tables.{table_is}
use Rattle.aos_dispatch.proofs.dispatch.Dispatch.entry.Goals as goal

pub returns : goal.returns
returns c =
    let t = c.args.of in
    let q = c.self.inside.program.now in
    let there : t < length (seen_program q).objects = subst (λ p. t < length (seen_program p).objects) (sym c.self.view_is) c.requires in
    c.entry_in.ensures
    ∙ ap (λ l. slice_get (unwrap_or (slice_get l t) []) c.args.slot) c.deref.ensures.value
    ∙ ap (λ l. slice_get l c.args.slot) (table_is (seen_program q) c.self.inside.tables.items t c.self.invariant.tables there)
    ∙ ap (λ p. slice_get (slots (seen_program p) (own_numbers (seen_program p)) t) c.args.slot) c.self.view_is
