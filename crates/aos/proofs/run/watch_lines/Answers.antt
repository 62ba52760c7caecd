use Rattle.std.proofs.Common.{ap, ◌∙◌}
use Rattle.std.proofs.lemmas.Result.{IfOk-weaker}
use Rattle.aos_report.specs.Texts.{probes_text}
use Rattle.aos.proofs.run.watch_lines.Goals as goal

pub returns : goal.returns
returns g c =
    IfOk-weaker c.probe_lines.result _ _ (λ lines e. e ∙ ap (probes_text 0) (c.deref.ensures.value ∙ c.in_ok-totals.ensures)) c.probe_lines.ensures
