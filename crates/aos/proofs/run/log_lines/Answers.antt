use Rattle.std.proofs.Common.{sym, ap, ◌∙◌}
use Rattle.std.proofs.lemmas.Result.{IfOk-weaker}
use Rattle.aos_script.specs.Print.{script_text}
use Rattle.aos.specs.Report.{log_text}
use Rattle.aos.specs.Shown.{script_in}
use Rattle.aos.proofs.run.log_lines.Goals as goal

pub returns-then-log : goal.returns-then-log
returns-then-log c =
    IfOk-weaker c.print_script.result _ _ (λ text e. e ∙ ap script_text c.in_ok-script.ensures.0 ∙ ap (λ b. log_text b (script_in c.args.kernel.now)) (sym c.if-log.true)) c.print_script.ensures.text

pub returns : goal.returns
returns c = c.new.ensures.items ∙ ap (λ b. log_text b (script_in c.args.kernel.now)) (sym c.if-log.false)
