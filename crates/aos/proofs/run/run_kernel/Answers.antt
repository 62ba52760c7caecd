use Rattle.std.proofs.Common.{subst}
use Rattle.std.specs.Prelude.{IfOk}
use Rattle.aos_kernel.specs.Run.{Run}
use Rattle.aos_workers.specs.Run.{IsDone}
use Rattle.aos.specs.Shown.{ShowsRun, TellsLog}
use Rattle.aos.proofs.Causes.{on_answer}
use Rattle.aos.proofs.Over.{shows_run}
use Rattle.aos.proofs.run.run_kernel.Goals as goal

pub returns : goal.returns
returns g c =
    let old = c.args.kernel.value in
    let now = c.run-kernel.result.0.value in
    let log = c.args.log in
    let over = subst (λ want. IsDone now want) c.in-None.is c.run-kernel.ensures.answer in
    on_answer (TellsLog log now) (ShowsRun old.workers old.budget log old.image) c.run_answer.result
    (λ a told. shows_run log old now a c.requires.log c.run-kernel.ensures.kernel over told)
    (subst (λ (r : Run). IfOk c.run_answer.result (TellsLog log r)) c.deref.ensures c.run_answer.ensures)
