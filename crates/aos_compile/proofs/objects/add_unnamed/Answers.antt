-- One type more.
use Rattle.std.proofs.Common.{ℕ, List, Global, [], ◌∷◌, ◌++◌, false, map, take, append_assoc, ap, sym, ◌∙◌}
use Rattle.std.specs.Prelude.{String, string_bytes}
use Rattle.std.proofs.lemmas.List.{take_more, map-append}
use Rattle.aos_base.specs.declared.priority.Priority.TheVariants.{Normal}
use Rattle.aos_base.specs.declared.text.Pos.{Pos}
use Rattle.aos_compile.specs.declared.objects.Beside.{Beside}
use Rattle.aos_typed.specs.Program.{Body, Method}
use Rattle.aos_typed.specs.Seen.{seen_body, seen_method}
use Rattle.aos_compile.specs.Modules.{Beside as Said, empty_body, nowhere, unnamed_type}
use Rattle.aos_compile.specs.Seen.{seen_beside}
use Rattle.aos_compile.proofs.objects.add_unnamed.Goals as goal

-- what is said beside a type without a body of its own
abbrev said : List ℕ → List (String Global) → Body → List Method → Said
said name fields body methods =
    record { name = name; at = nowhere; fields = map (λ s. string_bytes s) fields; has_body = false; is_active = false; priority = Normal; body = body; methods = methods }

pub loop-place-preserved : goal.loop-place-preserved
loop-place-preserved c =
    let origin : Pos = record { line = 0; col = 0 } in
    let first = map seen_beside c.args.objects.now.items in
    let ats = take c.loop-place._place-index c.args.places.now in
    let one = unnamed_type origin ∷ [] in
    let was = c.loop-place.objects.items in
    let fields = c.new-in-loop-place.result in
    let body = c.new-in-loop-place-2.result in
    let methods = c.new-in-loop-place-3.result in
    let x : Beside = record { name = c.new.result; at = origin; fields = fields; has_body = false; is_active = false; priority = Normal; is_exclusive = false; body = body; methods = methods } in
    ap (map seen_beside) c.in_ok-push.ensures.items
    ∙ map-append seen_beside was (x ∷ [])
    ∙ ap (λ b. map seen_beside was ++ said b fields.items (seen_body false body.items) (map seen_method methods.items) ∷ []) c.new.ensures.bytes
    ∙ ap (λ b. map seen_beside was ++ said [] b (seen_body false body.items) (map seen_method methods.items) ∷ []) c.new-in-loop-place.ensures.items
    ∙ ap (λ b. map seen_beside was ++ said [] [] (seen_body false b) (map seen_method methods.items) ∷ []) c.new-in-loop-place-2.ensures.items
    ∙ ap (λ b. map seen_beside was ++ said [] [] empty_body (map seen_method b) ∷ []) c.new-in-loop-place-3.ensures.items
    ∙ ap (λ l. l ++ one) c.loop-place.invariant
    ∙ append_assoc first (map unnamed_type ats) one
    ∙ sym (ap (λ l. first ++ map unnamed_type l) (take_more c.args.places.now c.loop-place._place-index origin c.loop-place-test.true) ∙ ap (λ l. first ++ l) (map-append unnamed_type ats _))
