-- A loan that is settled: its turns are steps of the worker, whatever others have done since it was lent.
use Rattle.std.proofs.Common.{◌≡◌, ℕ, List, Bool, ◌∙◌, ap}
use Rattle.aos_base.specs.Book.{Activity, Runs}
use Rattle.aos_base.specs.Machine.{Choice, Machine, State, execution}
use Rattle.aos_concurrency.specs.Orderly.{Orderly}
use Rattle.aos_concurrency.specs.Private.{steps, GoesOn, settled, NoneOf, IsLent}
use Rattle.aos_concurrency.proofs.Lent.{execution_lent}
use Rattle.aos_concurrency.proofs.Settles.{settle_at}
use Rattle.aos_settling.specs.Settling.{ArePrivateAt}

module _ {S F : Type 0} (m : Machine S F) where
  -- private turns are steps of the worker also where others have made theirs since, and none was the worker's
  pub settle_later_at : (w a : ℕ) (r : Activity) (f g : F) (cs : List Choice) (begun : List Bool) (st : State S F) → r.next ≡ Runs → NoneOf w cs → Orderly st → IsLent w a r f st → GoesOn a begun (execution m cs st).book → ArePrivateAt m (execution m cs st).store f begun g → execution m (steps w begun) (execution m cs st) ≡ settled a g begun (execution m cs st)
  settle_later_at w a r f g cs begun st runs far ord h going private =
      let k = execution_lent m w a r f cs st far ord h in
      settle_at m w a f g begun (execution m cs st) going k.on (ap (λ (x : Activity). x.next) k.activity ∙ runs) k.frames private
