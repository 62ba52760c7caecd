use Rattle.std.proofs.Common.{◌+◌, ◌∷◌, sym, ap, ◌∙◌}
use Rattle.std.specs.Prelude.{if◌then◌else◌}
use Rattle.aos_code.specs.Silent.{Ended, lost, is_of}
use Rattle.aos_store.specs.Store.{frame_in}
use Rattle.aos_silent_steps.proofs.Oks.{ok_more}
use Rattle.aos_silent_steps.proofs.step.give_kind.Goals as goal

pub returns-clause-ok : goal.returns-clause-ok
returns-clause-ok c =
    let f = frame_in c.args.frame.now in
    let kind = c.args.kind in
    let v = c.args.value in
    ok_more c.give_value.result _ _
    (λ did step number e.
    record {
      goes = λ shapes types made next at.
          (λ i. if is_of kind (sym e i) then next 0 (at + 1) f.keeps (sym e i ∷ f.stack) else Ended lost f.keeps)
          ∙ ap (λ b. if b then next 0 (at + 1) f.keeps (v ∷ f.stack) else Ended lost f.keeps) (sym c.if-not-is_of.ensures)
          ∙ step.goes shapes types made next at;
      same = step.same;
    }) c.give_value.ensures.ok
