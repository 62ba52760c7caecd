use Rattle.std.proofs.Common.{◌<◌, [], length, ap, sym, ◌∙◌, subst, arith}
use Rattle.std.specs.Prelude.{slice_get}
use Rattle.std.specs.Option.{unwrap_or}
use Rattle.std.proofs.lemmas.List.{length-map}
use Rattle.aos_typed.specs.Methods.{slots, own_numbers}
use Rattle.aos_typed.specs.Seen.{seen_object, seen_program}
use Rattle.aos_dispatch.proofs.Tables.{table_is}
use Rattle.aos_dispatch.proofs.dispatch.Dispatch.methods.Goals as goal

pub returns : goal.returns
returns c =
    let t = c.args.of in
    let q = c.self.inside.program.now in
    let within : t < length q.objects.items = subst (λ p. t < length p.objects.items) (sym c.self.view_is) c.requires in
    let there : t < length (seen_program q).objects = omega (arith, within, length-map q.objects.items seen_object) in
    c.table_in.ensures
    ∙ ap (λ l. unwrap_or (slice_get l t) []) c.deref.ensures.value
    ∙ table_is (seen_program q) c.self.inside.tables.items t c.self.invariant.tables there
    ∙ ap (λ p. slots (seen_program p) (own_numbers (seen_program p)) t) c.self.view_is
