-- What a condition that held still says when its waiter goes on.
use Rattle.std.specs.Prelude.{ℕ, List}
use Rattle.aos_base.specs.Machine.{Choice, execution}
use Rattle.aos_base.specs.declared.kernel.LockName.{LockName}
use Rattle.aos_concurrency.specs.Handover.{HandsOver}
use Rattle.aos_typed.specs.Program.{Program}
use Rattle.aos_typed.specs.Source.{first_state, source}
use Rattle.aos_stability.specs.Agree.{IsLocalAt}

-- Of every execution: from the entry that passes a lock to a waiter whose condition holds, up to the waiter's next turn, it owns the lock,
-- stands behind its AWAIT, and its condition, if it is local, still holds.
abbrev pub Lasts : Program → Type 0
Lasts p =
    (budget : ℕ) (before others : List Choice) (entry : Choice) (a : ℕ) (l : LockName) (c : ℕ)
    → HandsOver (source p) (IsLocalAt p) (execution (source p) before (first_state p budget)) entry a l c others
