use Rattle.std.proofs.Common.{ap}
use Rattle.aos_kernel.specs.Run.{Run}
use Rattle.aos_rows.proofs.lending.kernel_of.Goals as goal

pub returns : goal.returns
returns c = ap (λ (r : Run). r.lent) c.in_ok-kernel.ensures
