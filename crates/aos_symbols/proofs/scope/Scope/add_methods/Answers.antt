use Rattle.std.proofs.Common.{◌∙◌, ap, sym}
use Rattle.aos_symbols.specs.Scope.{with_name}
use Rattle.aos_symbols.proofs.Methods.{declared_more, declared_none}
use Rattle.aos_symbols.proofs.scope.Scope.add_methods.Goals.{in-Some+in_ok-declare, in_default}
use Rattle.aos_symbols.proofs.scope.Scope.add_methods.Goals as goal

pub loop-place-preserved : goal.loop-place-preserved
loop-place-preserved c =
    elim c.match-method_at.branch [
      | in-Some+in_ok-declare w ↦
          w.all-is ∙ w.in_ok-declare.ensures.declared ∙ ap (λ s. with_name s (w.in-Some.word.now, w.in-Some.entry)) c.loop-place.invariant
          ∙ sym (declared_more c.args.self.now c.args.all.now c.loop-place.place (w.in-Some.word.now, w.in-Some.entry) (sym w.in-Some.ensures))
      | in_default w ↦
          w.all-is ∙ c.loop-place.invariant ∙ sym (declared_none c.args.self.now c.args.all.now c.loop-place.place (sym w.in_default.ensures))
    ]
