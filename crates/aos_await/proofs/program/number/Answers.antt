-- The four passes number the program.
use Rattle.std.proofs.Common.{◌≡◌, ◌+◌, map, sum_by, ap, ◌∙◌}
use Rattle.std.proofs.lemmas.Result.{on_ok_weaker}
use Rattle.std.specs.Vec.{with_items}
use Rattle.aos_typed.specs.Conditions.{awaits, awaits_in_procedures}
use Rattle.aos_typed.specs.Seen.{seen_module, seen_object, seen_program}
use Rattle.aos_await.specs.Counts.{modules_with_bodies, objects_with_bodies, modules_with_procedures, objects_with_methods}
use Rattle.aos_await.proofs.Held.{refilled}
use Rattle.aos_await.proofs.Passes.{program_numbered}
use Rattle.aos_await.proofs.program.number.Goals as goal

pub returns : goal.returns
returns c =
    let p = c.args.program.now in
    let one = c.number_modules in
    let two = c.number_objects in
    let three = c.number_all_procedures in
    let four = c.number_all_methods in
    let told = c.in_ok-number_modules.ensures in
    let told_two = c.in_ok-number_objects.ensures in
    let told_three = c.in_ok-number_all_procedures.ensures in
    let first = c.as_mut_slice.ensures.value in
    let second = c.as_mut_slice-2.ensures.value in
    let third = c.as_mut_slice-3.ensures.value in
    let fourth = c.as_mut_slice-4.ensures.value in
    let bodies = with_items p.modules one.new.modules in
    let of_objects = with_items p.objects two.new.objects in
    let in_bodies : map seen_module bodies.items ≡ modules_with_bodies 0 (map seen_module p.modules.items) =
    ap (map seen_module) (refilled p.modules c.as_mut_slice.result.now one.new.modules first one.auto.modules) ∙ told.numbers ∙ ap (λ ms. modules_with_bodies 0 (map seen_module ms)) first in
    let in_objects : map seen_object of_objects.items ≡ objects_with_bodies one.new.next (map seen_object p.objects.items) =
    ap (map seen_object) (refilled p.objects c.as_mut_slice-2.result.now two.new.objects second two.auto.objects) ∙ told_two.numbers
    ∙ ap (λ os. objects_with_bodies one.new.next (map seen_object os)) second in
    on_ok_weaker four.result
    (λ h. program_numbered (seen_program p) one.new.next two.new.next three.new.next
    (map seen_module (with_items bodies three.new.modules).items) (map seen_object (with_items of_objects four.new.objects).items)
    (told.next ∙ ap (λ ms. 0 + sum_by (λ x. awaits x.body) (map seen_module ms)) first)
    (told_two.next ∙ ap (λ os. one.new.next + sum_by (λ o. awaits o.body.body) (map seen_object os)) second)
    (told_three.next ∙ ap (λ ms. two.new.next + sum_by awaits_in_procedures (map seen_module ms)) third ∙ ap (λ ms. two.new.next + sum_by awaits_in_procedures ms) in_bodies)
    (ap (map seen_module) (refilled bodies c.as_mut_slice-3.result.now three.new.modules third three.auto.modules)
    ∙ told_three.numbers ∙ ap (λ ms. modules_with_procedures two.new.next (map seen_module ms)) third ∙ ap (modules_with_procedures two.new.next) in_bodies)
    (ap (map seen_object) (refilled of_objects c.as_mut_slice-4.result.now four.new.objects fourth four.auto.objects)
    ∙ h ∙ ap (λ os. objects_with_methods three.new.next (map seen_object os)) fourth ∙ ap (objects_with_methods three.new.next) in_objects))
    four.ensures.numbers
