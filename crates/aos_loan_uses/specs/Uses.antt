-- A run while a worker is lent.
use Rattle.std.specs.Prelude.{◌≡◌, ℕ, List}
use Rattle.aos_base.specs.Machine.{Choice, execution}
use Rattle.aos_concurrency.specs.Private.{NoneOf}
use Rattle.aos_code.specs.Machine.{machine}
use Rattle.aos_kernel.specs.Run.{Run, state_of}

-- it has gone on by steps and ticks of others than this worker, and as many workers are lent
pub record GoesBehind (w : ℕ) (old new : Run) : Type 0 where
  pub others : List Choice
  pub none : NoneOf w others
  pub same : new ≡ record old { log = new.log }
  pub state : state_of new ≡ execution (machine old.image) others (state_of old)
