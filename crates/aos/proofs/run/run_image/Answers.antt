use Rattle.std.proofs.Common.{ap, subst}
use Rattle.std.specs.Prelude.{IfOk}
use Rattle.aos_code.specs.declared.image.Image.{Image}
use Rattle.aos_kernel.specs.Run.{Run}
use Rattle.aos.specs.Shown.{ShowsRun}
use Rattle.aos.proofs.run.run_image.Goals as goal

pub run_kernel-requires-clause-log : goal.run_kernel-requires-clause-log
run_kernel-requires-clause-log g c κs within = ap (λ (r : Run). r.log) c.in_ok-kernel.ensures

pub run_kernel-requires-clause-lent : goal.run_kernel-requires-clause-lent
run_kernel-requires-clause-lent g c κs within = ap (λ (r : Run). r.lent) c.in_ok-kernel.ensures

pub returns : goal.returns
returns g c =
    let s = c.args.setting in
    subst (λ (i : Image). IfOk c.run_kernel.result (ShowsRun s.workers s.budget s.log i)) c.in_ok-image.ensures
    (subst (λ (r : Run). IfOk c.run_kernel.result (ShowsRun r.workers r.budget s.log r.image)) c.in_ok-kernel.ensures c.run_kernel.ensures)
