use Rattle.std.proofs.Common.{◌++◌, ◌∷◌, [], ◌∙◌, ap, sym}
use Rattle.aos_symbols.specs.Scope.{place_of}
use Rattle.aos_symbols.proofs.Fields.{placed_more, placed_none}
use Rattle.aos_symbols.proofs.scope.Scope.field_places_in.Goals.{in-Some+in_ok-place_of+in_ok-push, in_default}
use Rattle.aos_symbols.proofs.scope.Scope.field_places_in.Goals as goal

pub loop-place-preserved : goal.loop-place-preserved
loop-place-preserved c =
    elim c.match-field_at.branch [
      | in-Some+in_ok-place_of+in_ok-push w ↦
          w.places-is ∙ w.in_ok-push.ensures.ok ∙ ap (λ k. c.loop-place.places ++ k ∷ []) w.in_ok-place_of.ensures
          ∙ ap (λ l. l ++ place_of c.args.all.now w.in-Some.word.now ∷ []) c.loop-place.invariant
          ∙ sym (placed_more c.args.self.now c.args.all.now c.loop-place.place (w.in-Some.word.now, w.in-Some.field-0-1) (sym w.in-Some.ensures))
      | in_default w ↦
          w.places-is ∙ c.loop-place.invariant ∙ sym (placed_none c.args.self.now c.args.all.now c.loop-place.place (sym w.in_default.ensures))
    ]
