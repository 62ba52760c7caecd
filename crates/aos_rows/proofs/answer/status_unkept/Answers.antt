use Rattle.std.proofs.Common.{refl}
use Rattle.aos_rows.proofs.Unkept.{none_failed}
use Rattle.aos_rows.proofs.answer.status_unkept.Goals as goal

pub returns : goal.returns
returns g c = λ seven. none_failed (c.aos.ensures.sink_failed seven).in_part refl refl refl refl
