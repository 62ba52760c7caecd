-- The bound behind one step.
use Rattle.std.proofs.Common.{◌≡◌, ℕ, ◌≤◌, arith}
use Rattle.std.specs.Prelude.{if◌then◌else◌, Option, Some, None}
use Rattle.aos_base.specs.Book.{on_worker}
use Rattle.aos_base.specs.Machine.{Step, Machine, State}
use Rattle.aos_concurrency.proofs.Tables.{number, by_case}
use Rattle.aos_cell.specs.Bound.{turns_after, turns_by}

few_turns : (o : Option ℕ) (n : ℕ) → n ≡ 0 → turns_after o n ≤ 256
few_turns None n none = omega arith
few_turns (Some a) n none = omega arith

module _ {S F : Type 0} (m : Machine S F) (w : ℕ) where
  -- a step of a worker that has made no turn keeps it
  pub step_by : (v n : ℕ) (st : State S F) → n ≤ 256 → (v ≡ w → n ≡ 0) → turns_by m w (Step v) n st ≤ 256
  step_by v n st le none = by_case number (λ q. (if q then turns_after (on_worker w st.book.line) n else n) ≤ 256) v w (λ e. few_turns (on_worker w st.book.line) n (none e)) (λ _. le)
