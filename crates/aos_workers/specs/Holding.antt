-- A round of a worker while its pass has the kernel, which it gives back and takes again where it lends.
use Rattle.std.specs.Prelude.{◌≡◌, ◌≢◌, ◌⊎◌, ◌<◌, ◌≤◌, ◌+◌, ℕ, Bool, true, false, None, Some, List, [], ◌∷◌, ◌++◌, replicate}
use Rattle.aos_base.specs.declared.kernel.Outcome.{Outcome}
use Rattle.aos_base.specs.declared.kernel.Outcome.TheVariants.{Going}
use Rattle.aos_base.specs.Machine.{Choice, Step}
use Rattle.aos_base.specs.Schedule.{choices}
use Rattle.aos_code.specs.Machine.{machine}
use Rattle.aos_loan.specs.Loans.{Lending, IsLoanOf}
use Rattle.aos_kernel.specs.Run.{Run, among, state_of, comes_to}
use Rattle.aos_kernel.specs.Steps.{IsNone}
use Rattle.aos_cell.specs.declared.rule.Part.{Part}
use Rattle.aos_cell.specs.declared.rule.View.{View}
use Rattle.aos_cell.specs.Bound.{turns_since, IsPreempted}
use Rattle.aos_cell.specs.Rule.{SameProgram, HasPart}
use Rattle.aos_cell.specs.Steps.{Extends}
use Rattle.aos_workers.specs.Round.{outcome_of, activity_of, turns_made, Answers}

-- where i steps of its round are made, a worker that has made n turns since its last tick or dispatch may make as many steps as are left:
-- there are i turns at most, it has no activity, or nothing more happens
abbrev pub MayStep : ℕ → ℕ → Run → ℕ → Type 0
MayStep w i now n = (n ≤ i) ⊎ ((activity_of w now ≡ None) ⊎ (outcome_of now ≢ Going))

-- i steps have brought it forward: by a turn, or else nothing more happens, none is made, or the one that is made gave it an activity
abbrev pub GetsOn : ℕ → ℕ → Run → Run → Type 0
GetsOn w i last now =
    (turns_made w last < turns_made w now)
    ⊎ ((outcome_of now ≢ Going) ⊎ ((i ≡ 0) ⊎ ((i ≡ 1) × ((a : ℕ) × (activity_of w now ≡ Some a)))))

-- i steps of a round of w are made, which began behind the run `last`; what was added since the run `first` keeps its bound, if it had made
-- one of these numbers of turns before
pub record Stepping (w i : ℕ) (Had : ℕ → Type 0) (first last now : Run) : Type 0 where
  pub own : List Choice
  pub added : choices now.log ≡ choices first.log ++ own
  pub program : SameProgram first now
  pub preempted : (n : ℕ) → Had n → IsPreempted (machine first.image) w own n (state_of first)
  pub few : (n : ℕ) → Had n → MayStep w i now (turns_since (machine first.image) w own n (state_of first))
  pub more : turns_made w last ≤ turns_made w now
  pub gets_on : GetsOn w i last now

-- n steps of w in one call behind i of a round: they bring every such round forward
pub record Goes (w i n : ℕ) (old new : Run) : Type 0 where
  pub log : choices new.log ≡ choices old.log ++ replicate n (Step w)
  pub same : new ≡ record old { log = new.log }
  pub steps : (first last : Run) → Stepping w i (λ k. k ≡ 0) first last old → Stepping w (i + n) (λ k. k ≡ 0) first last new

-- where none is made, a step would do nothing
pub record GoesOrStays (w i n : ℕ) (old new : Run) : Type 0 where
  pub goes : 0 < n → Goes w i n old new
  pub stays : n ≡ 0 → (new ≡ old) × IsNone (comes_to w old)

-- a pass that began a round with the part p has the part q and this kernel, in which its worker is lent or not, and may give it back; it
-- gave so often before
pub record Held (lends : Bool) (w gave : ℕ) (p q : Part) (now : Run) : Type 0 where
  pub worker : q.workers ≡ w ∷ []
  pub has : q.has ≡ true
  pub first : q.first ≡ p.first
  pub enough : 257 ≤ p.gives
  pub gives : p.gives ≤ q.gives + gave
  pub extends : Extends q now
  pub range : w < now.workers
  pub lent : among w now.lent ≡ lends
  pub grows : (added : List Choice) × (choices now.log ≡ choices p.last.log ++ added)

-- the same of its views
abbrev pub IsHeld : ℕ → ℕ → View → View → Run → Type 0
IsHeld w gave v current r = HasPart (λ p. HasPart (λ q. Held false w gave p q r) current) v

-- the same where i steps are made since
abbrev pub IsWorking : ℕ → ℕ → ℕ → View → View → Run → Type 0
IsWorking w i gave v current r =
    HasPart (λ p. HasPart (λ q. Held false w gave p q r × Stepping w i (λ n. n ≡ 0) q.first p.last r) current) v

-- While the worker is lent

-- a pass that began a round with p, i steps of which are made, has q and a kernel in which its worker is lent; this loan is of its activity
pub record Lent (w i gave : ℕ) (p q : Part) (now : Run) (l : Lending) : Type 0 where
  pub held : Held true w gave p q now
  pub steps : Stepping w i (λ n. n ≡ 0) q.first p.last now
  pub going : outcome_of now ≡ Going
  pub image : l.image ≡ now.image
  pub budget : l.budget ≡ now.budget
  pub loan : IsLoanOf w l (state_of now)

abbrev pub IsLent : ℕ → ℕ → ℕ → View → View → Run → Lending → Type 0
IsLent w i gave v current r l = HasPart (λ p. HasPart (λ q. Lent w i gave p q r l) current) v

-- where the worker is still lent, and the loan one of its activity as that stands there
pub record Back (w i gave : ℕ) (p q : Part) (now : Run) (l : Lending) : Type 0 where
  pub held : Held true w gave p q now
  pub steps : Stepping w i (λ n. n ≡ 0) q.first p.last now
  pub image : l.image ≡ now.image
  pub budget : l.budget ≡ now.budget
  pub loan : IsLoanOf w l (state_of now)

abbrev pub IsBack : ℕ → ℕ → ℕ → View → View → Run → Lending → Type 0
IsBack w i gave v current r l = HasPart (λ p. HasPart (λ q. Back w i gave p q r l) current) v

-- What is answered

-- of the log that the pass gave or took last before, and that of this kernel
abbrev pub HasAnswered : ℕ → View → Run → Outcome → Type 0
HasAnswered w v r o = HasPart (λ p. Answers w p.last r o) v
