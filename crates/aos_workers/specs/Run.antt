-- A run of a kernel by all its workers.
use Rattle.std.specs.Prelude.{◌≡◌, ◌≢◌, ◌≤◌, ◌^◌, ℕ, Option, MatchOption, List, ◌++◌}
use Rattle.aos_base.specs.declared.text.NoMemory.{NoMemory}
use Rattle.aos_base.specs.declared.kernel.Outcome.TheVariants.{Going}
use Rattle.aos_base.specs.Machine.{Choice}
use Rattle.aos_base.specs.Schedule.{choices}
use Rattle.aos_code.specs.Machine.{machine}
use Rattle.aos_kernel.specs.Run.{Run, state_of}
use Rattle.aos_cell.specs.declared.rule.View.{View}
use Rattle.aos_cell.specs.Bound.{IsPreempted}
use Rattle.aos_cell.specs.Rule.{SameProgram}
use Rattle.aos_cell.specs.Passes.{MayStart}
use Rattle.aos_workers.specs.Round.{outcome_of}

-- the gives of each worker, which has 2^35 rounds with 257 gives at most
abbrev pub gives_each : ℕ
gives_each = 2 ^ 44

-- a pass whose n workers may begin their rounds
abbrev pub MayBegin : ℕ → View → Type 0
MayBegin n v = MayStart gives_each n v

-- the second run is of the same program, and its log is the first one's and then entries that keep the bound, whatever turns
-- the workers had made before
pub record GoesOn (old new : Run) : Type 0 where
  pub own : List Choice
  pub added : choices new.log ≡ choices old.log ++ own
  pub program : SameProgram old new
  pub lent : new.lent ≡ old.lent
  pub preempted : (w n : ℕ) → n ≤ 256 → IsPreempted (machine old.image) w own n (state_of old)

-- nothing is wanted exactly where the outcome isn't Going
abbrev pub IsDone : Run → Option NoMemory → Type 0
IsDone r want = MatchOption want (outcome_of r ≢ Going) (λ _. outcome_of r ≡ Going)
