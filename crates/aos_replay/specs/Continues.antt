-- A run of a kernel that goes on.
use Rattle.std.specs.Prelude.{◌≡◌, ℕ, List, [], ◌∷◌, ◌++◌}
use Rattle.aos_base.specs.declared.kernel.Sched.{Sched}
use Rattle.aos_base.specs.declared.kernel.Sched.TheVariants.{Steps, Tick}
use Rattle.aos_base.specs.Machine.{Choice, Step, happens, execution}
use Rattle.aos_base.specs.Schedule.{choices}
use Rattle.aos_code.specs.Machine.{machine}
use Rattle.aos_kernel.specs.Run.{Run, state_of}

-- the worker of an entry
abbrev pub worker_of : Sched → ℕ
worker_of (Steps w k) = w
worker_of (Tick w) = w

-- some of the choices, in their order
pub data IsSome : List Choice → List Choice → Type 0 where
  none : IsSome [] []
  kept : {c : Choice} {ds cs : List Choice} → IsSome ds cs → IsSome (c ∷ ds) (c ∷ cs)
  left_out : {c : Choice} {ds cs : List Choice} → IsSome ds cs → IsSome ds (c ∷ cs)

-- The run goes on by these choices: its state is the execution under them from the state before. The log goes on by some
-- of them; since the state is that after the log, the others change nothing.
pub record Continues (cs : List Choice) (old new : Run) : Type 0 where
  pub same : new ≡ record old { log = new.log }
  pub state : state_of new ≡ execution (machine old.image) cs (state_of old)
  pub made : List Choice
  pub some : IsSome made cs
  pub log : choices new.log ≡ choices old.log ++ made

-- it goes on by the first of these choices
pub record ContinuesPart (cs : List Choice) (old new : Run) : Type 0 where
  pub first : List Choice
  pub others : List Choice
  pub whole : cs ≡ first ++ others
  pub continues : Continues first old new

-- it stays as it is, and by a step of the worker nothing would change
abbrev pub StaysBy : ℕ → Run → Run → Type 0
StaysBy w old new = (new ≡ old) × (happens (machine old.image) (Step w) (state_of old) ≡ state_of old)
