use Rattle.std.proofs.Common.{ap, ◌∙◌, subst}
use Rattle.std.specs.Prelude.{Option, IfSome}
use Rattle.aos_loan.specs.Loans.{Lending}
use Rattle.aos_loan.proofs.Turning.{loan_runs}
use Rattle.aos_kernel.specs.Run.{state_of}
use Rattle.aos_kernel.specs.Lends.{Lends, after_lend}
use Rattle.aos_loan_uses.proofs.Behind.{loan_begun, same_image, loan_waits}
use Rattle.aos_loan_uses.proofs.turns.turns_by_loan.Goals as goal

pub settle-requires-clause-loan : goal.settle-requires-clause-loan
settle-requires-clause-loan c =
    let w = c.args.worker in
    let old = c.args.kernel.now in
    let l = c.in-Some.loan in
    let lent = c.lend.new.self in
    let now = c.step_others.new.kernel in
    let lends = subst (λ (o : Option Lending). IfSome o (λ x. Lends w old x)) c.in-Some.is c.in_ok-loan.ensures.loan in
    let after = c.in_ok-loan.ensures.after ∙ ap (λ (o : Option Lending). after_lend o w old) c.in-Some.is in
    let waits = loan_waits w l lent now c.step_others.ensures (same_image w old lent l lends after) (loan_begun w old lent l lends after) in
    loan_runs w l c.run.new.self (state_of now) c.run.ensures.image c.run.ensures.made c.run.ensures.fit waits
