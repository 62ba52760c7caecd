-- The modules are those of the files in which all object types have names.
use Rattle.std.proofs.Common.{◌≡◌, ◌<◌, ℕ, length, map, sym, ap, subst, ◌∙◌, arith}
use Rattle.std.specs.List.{All}
use Rattle.std.proofs.lemmas.Result.{err_from_is_err_and}
use Rattle.aos_typed.specs.Seen.{seen_program}
use Rattle.aos_reading.specs.Files.{named}
use Rattle.aos_compile.specs.Seen.{seen_world}
use Rattle.aos_reading.specs.Sources.{sources}
use Rattle.aos_compile.proofs.Composed.{order_refused, order_went}
use Rattle.aos_compile.proofs.files.program_in_order.Goals as goal

pub in_load_order-requires-clause-same : goal.in_load_order-requires-clause-same
in_load_order-requires-clause-same c =
    let made = c.in_ok-named_texts.ensures in ap length c.deref-2.ensures.value ∙ made.second ∙ sym made.first ∙ sym (ap length c.deref.ensures.value)

pub in_load_order-requires-clause-files : goal.in_load_order-requires-clause-files
in_load_order-requires-clause-files c =
    let second = c.in_ok-named_texts.ensures.second in omega (arith, ap length c.deref-2.ensures.value, second, c.requires.same, c.requires.files)

pub in_load_order-requires-clause-within : goal.in_load_order-requires-clause-within
in_load_order-requires-clause-within c =
    let many = c.requires.same ∙ sym c.in_ok-named_texts.ensures.second ∙ sym (ap length c.deref-2.ensures.value) in
    subst (λ (n : ℕ). All (λ k. k < n) c.args.order.now) many c.requires.within

pub returns-clause-went : goal.returns-clause-went
returns-clause-went c =
    let ts = c.args.texts.now in
    let ms = c.args.trees.items in
    let same : sources c.deref.result.now c.deref-2.result.now ≡ map named (sources ts ms) =
    (λ i. sources (c.deref.ensures.value i) (c.deref-2.ensures.value i)) ∙ c.in_ok-named_texts.ensures.each in
    order_went (sources ts ms) (sources c.deref.result.now c.deref-2.result.now) c.args.order.now same (seen_world c.in_ok-world.world) (seen_program c.in_ok-program.program)
    c.in_ok-world.ensures.went c.in_ok-program.ensures.went

pub returns-clause-few : goal.returns-clause-few
returns-clause-few c = omega (arith, c.in_ok-program.ensures.each, c.in_ok-world.ensures.each, c.requires.few)

pub returns-in_err-world-clause-refused : goal.returns-in_err-world-clause-refused
returns-in_err-world-clause-refused c =
    let e = err_from_is_err_and c.from_residual-in_err-world.result c.from_residual-in_err-world.ensures.1 in
    let ts = c.args.texts.now in
    let ms = c.args.trees.items in
    let same : sources c.deref.result.now c.deref-2.result.now ≡ map named (sources ts ms) =
    (λ i. sources (c.deref.ensures.value i) (c.deref-2.ensures.value i)) ∙ c.in_ok-named_texts.ensures.each in
    rw (e.1, e.2) (order_refused (sources ts ms) (sources c.deref.result.now c.deref-2.result.now) c.args.order.now same c.in_err-world.field-0.0 c.in_err-world.ensures.refused)
