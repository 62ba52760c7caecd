-- A loan of a worker's activity, while others make steps.
use Rattle.std.proofs.Common.{◌≡◌, ◌≢◌, ℕ, List, [], ◌∷◌, ◌++◌, refl, sym, ap, ◌∙◌, subst}
use Rattle.std.specs.Prelude.{Some}
use Rattle.aos_base.specs.Machine.{Choice, Step, happens, execution}
use Rattle.aos_concurrency.specs.Private.{NoneOf}
use Rattle.aos_concurrency.proofs.Executions.{execution-append}
use Rattle.aos_code.specs.Machine.{machine}
use Rattle.aos_loan.specs.Loans.{Lending, IsLoanOf}
use Rattle.aos_loan.proofs.Turning.{loan_stays}
use Rattle.aos_kernel.specs.Run.{Run, state_of}
use Rattle.aos_kernel.specs.Lends.{Lends, after_lend}
use Rattle.aos_kernel.proofs.Lending.{orderly_run}
use Rattle.aos_loan_uses.specs.Uses.{GoesBehind}

pub goes_nowhere : (w : ℕ) (r : Run) → GoesBehind w r r
goes_nowhere w r = record { others = []; none = tt; same = refl; state = refl }

none-append : (w : ℕ) (cs ds : List Choice) → NoneOf w cs → NoneOf w ds → NoneOf w (cs ++ ds)
none-append w [] ds none more = more
none-append w (c ∷ cs) ds none more = (none.0, none-append w cs ds none.1 more)

pub goes_then : (w : ℕ) (a b c : Run) → GoesBehind w a b → GoesBehind w b c → GoesBehind w a c
goes_then w a b c x y =
    record {
      others = x.others ++ y.others;
      none = none-append w x.others y.others x.none y.none;
      same = y.same ∙ ap (λ (r : Run). let z : Run = record r { log = c.log } in z) x.same;
      state =
          y.state
          ∙ ap (λ (r : Run). execution (machine r.image) y.others (state_of b)) x.same
          ∙ ap (execution (machine a.image) y.others) x.state
          ∙ sym (execution-append (machine a.image) x.others y.others (state_of a));
    }

-- a step of another
pub goes_step : (w v : ℕ) (old new : Run) → v ≢ w → new ≡ record old { log = new.log } → state_of new ≡ happens (machine old.image) (Step v) (state_of old) → GoesBehind w old new
goes_step w v old new other same state = record { others = Step v ∷ []; none = (other, tt); same = same; state = state }

pub still_lent : (w : ℕ) (old new : Run) → GoesBehind w old new → old.lent ≡ w ∷ [] → new.lent ≡ w ∷ []
still_lent w old new h one = ap (λ (r : Run). r.lent) h.same ∙ one

-- The loan

-- it is one of the activity as that stands once the worker is lent
pub loan_begun : (w : ℕ) (old new : Run) (l : Lending) → Lends w old l → new ≡ after_lend (Some l) w old → IsLoanOf w l (state_of new)
loan_begun w old new l lends is = subst (λ (r : Run). IsLoanOf w l (state_of r)) (sym is) lends.loan

pub same_image : (w : ℕ) (old new : Run) (l : Lending) → Lends w old l → new ≡ after_lend (Some l) w old → l.image ≡ new.image
same_image w old new l lends is = lends.image ∙ sym (ap (λ (r : Run). r.image) is)

-- others' steps leave it one
pub loan_waits : (w : ℕ) (l : Lending) (old new : Run) → GoesBehind w old new → l.image ≡ old.image → IsLoanOf w l (state_of old) → IsLoanOf w l (state_of new)
loan_waits w l old new h same loan =
    subst (IsLoanOf w l) (ap (λ i. execution (machine i) h.others (state_of old)) same ∙ sym h.state)
    (loan_stays w l h.others (state_of old) h.none (orderly_run old) loan)
