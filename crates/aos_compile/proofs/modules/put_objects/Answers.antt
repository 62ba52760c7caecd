-- What stands beside one type more.
use Rattle.std.proofs.Common.{rules, ◌≡◌, [], ◌∷◌, ◌++◌, length, map, ap, sym, ◌∙◌}
use Rattle.std.proofs.lemmas.List.{length-map, map-append}
use Rattle.aos_typed.specs.Seen.{seen_object}
use Rattle.aos_compile.specs.Modules as judge
use Rattle.aos_compile.specs.Seen.{seen_beside}
use Rattle.aos_compile.proofs.Numbered.{numbered_more}
use Rattle.aos_compile.proofs.modules.put_objects.Goals as goal

pub loop-beside-preserved : goal.loop-beside-preserved
loop-beside-preserved c =
    let e = c.args.env.now in
    let was = map seen_object c.args.all.now.items in
    let old = c.loop-beside.all.items in
    let done = c.loop-beside.yielded in
    let x = c.in-Some.beside in
    let new = c.in_ok-object_of.field-0 in
    let many : c.in-Ok.number ≡ length (map seen_object old) = search (rules, length-map) in
    ap (map seen_object) c.in_ok-push.ensures.items ∙ map-append seen_object old (new ∷ [])
    ∙ numbered_more e was (map seen_object old) (map seen_beside done) (seen_beside x) c.in-Ok.number (seen_object new) c.loop-beside.invariant many c.in_ok-object_of.ensures
    ∙ ap (λ l. was ++ judge.objects_from e (length was) l) (sym (map-append seen_beside done (x ∷ [])))
