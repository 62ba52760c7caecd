-- No worker makes more than 256 turns without a tick or a dispatch of that worker between them.
use Rattle.std.specs.Prelude.{◌≡◌, ◌≤◌, ℕ, suc, ◌==◌, if◌then◌else◌, Option, Some, None, List, [], ◌∷◌, ◌++◌}
use Rattle.aos_base.specs.Book.{on_worker}
use Rattle.aos_base.specs.Machine.{Choice, Step, Tick, Machine, State, happens}
use Rattle.aos_base.specs.Schedule.{choices}
use Rattle.aos_code.specs.Machine.{machine}
use Rattle.aos_kernel.specs.Run.{Run, state_of}

-- a step of a worker that has an activity is a turn more, and one of a worker that has none is a dispatch
abbrev pub turns_after : Option ℕ → ℕ → ℕ
turns_after None n = 0
turns_after (Some a) n = suc n

module _ {S F : Type 0} (m : Machine S F) (w : ℕ) where
  -- the turns of w since its last tick or dispatch, where there were n of them before this choice
  abbrev pub turns_by : Choice → ℕ → State S F → ℕ
  turns_by (Step v) n st = if v == w then turns_after (on_worker w st.book.line) n else n
  turns_by (Tick v) n st = if v == w then 0 else n

  -- the same after a schedule
  abbrev pub turns_since : List Choice → ℕ → State S F → ℕ
  turns_since [] n st = n
  turns_since (c ∷ cs) n st = turns_since cs (turns_by c n st) (happens m c st)

  -- there are never more than 256
  abbrev pub IsPreempted : List Choice → ℕ → State S F → Type 0
  IsPreempted [] n st = n ≤ 256
  IsPreempted (c ∷ cs) n st = (n ≤ 256) × IsPreempted cs (turns_by c n st) (happens m c st)

-- the log of the second run begins with that of the first, and the entries that it has more keep the bound
abbrev pub KeepsBound : Run → Run → Type 0
KeepsBound first now =
    (added : List Choice) × (choices now.log ≡ choices first.log ++ added)
    × ((w : ℕ) → IsPreempted (machine first.image) w added 0 (state_of first))
