use Rattle.std.proofs.Common.{List, refl, ap, ◌∙◌, subst}
use Rattle.std.specs.Prelude.{Option, Err}
use Rattle.aos_code.specs.declared.image.TypeDesc.{TypeDesc}
use Rattle.aos_code.specs.Numbered.{numbered}
use Rattle.aos_store.specs.Store.{memory_in}
use Rattle.aos_store_calls.specs.declared.objects.StoreErr.TheVariants.{Full}
use Rattle.aos_store_calls.specs.Made.{IsMadeOf}
use Rattle.aos_store_calls.proofs.objects.new_object.Goals as goal

pub returns-in-None : goal.returns-in-None
returns-in-None c =
    let mem = memory_in c.args.store.now in
    let none = c.in-None.ensures ∙ ap (λ (l : List TypeDesc). numbered l c.args.of_type) c.deref.ensures.value in
    subst (λ (d : Option TypeDesc). IsMadeOf c.args.of_type c.args.lens.now mem mem d (Err Full)) none (refl, refl)

pub returns-in-Some : goal.returns-in-Some
returns-in-Some c =
    let mem = memory_in c.args.store.now in
    let some = c.in-Some.ensures ∙ ap (λ (l : List TypeDesc). numbered l c.args.of_type) c.deref.ensures.value in
    subst (λ (d : Option TypeDesc). IsMadeOf c.args.of_type c.args.lens.now mem (memory_in c.make_as.new.store) d c.make_as.result) some c.make_as.ensures
