use Rattle.std.proofs.Common.{sym, ap, ◌∙◌}
use Rattle.std.specs.Prelude.{if◌then◌else◌}
use Rattle.aos_code.specs.Silent.{Noted, Answered, Unknown, noted_as, on_noted}
use Rattle.aos_store.specs.Store.{frame_in}
use Rattle.aos_silent_steps.proofs.Oks.{ok_more}
use Rattle.aos_silent_steps.proofs.step.own_value.Goals as goal

pub returns-else-not-is_of-clause-ok : goal.returns-else-not-is_of-clause-ok
returns-else-not-is_of-clause-ok c =
    let f = frame_in c.args.frame.now in
    let v = c.in-Some.value in
    ok_more c.give_value.result _ _
    (λ did step q e.
    record {
      goes = λ shapes types made next at.
          ap (λ (n : Noted). on_noted n q next at f.keeps f.stack) (e ∙ ap (noted_as c.args.kind) (sym c.in-Some.ensures) ∙ ap (λ b. if b then Answered v else Unknown) (sym c.if-not-is_of.ensures))
          ∙ step.goes shapes types made next at;
      same = step.same;
    }) c.give_value.ensures.ok
