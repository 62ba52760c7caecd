use Rattle.std.proofs.Common.{◌≡◌, ◌+◌, ◌<◌, ◌≤◌, true, arith, sym, subst}
use Rattle.aos_loan.specs.Loans.{IsLoanOf}
use Rattle.aos_kernel.specs.Run.{Run, among, state_of}
use Rattle.aos_workers.proofs.Held.{works_yet, may_step}
use Rattle.aos_workers.proofs.Loaned.{may_settle, lent_by, none_made, settled_by}
use Rattle.aos_workers.proofs.lending.by_loan.Goals as goal

pub lend-requires : goal.lend-requires
lend-requires g c = subst (λ (r : Run). c.args.w < r.workers) (sym c.deref_mut.ensures.value) (may_step _ _ _ _ _ _ c.requires.working.1).0

pub turns_by_loan-kernel-requires-clause-lent : goal.turns_by_loan-kernel-requires-clause-lent
turns_by_loan-kernel-requires-clause-lent g c =
    (c.requires.working.0, lent_by _ _ _ _ _ _ _ _ _ _ c.deref_mut.ensures.value c.in-Ok.ensures.loan c.in-Ok.ensures.after c.in-Some.is c.requires.working.1)

pub turns_by_loan-kernel-requires-clause-none : goal.turns_by_loan-kernel-requires-clause-none
turns_by_loan-kernel-requires-clause-none g c = none_made _ _ _ _ c.in-Ok.ensures.loan c.in-Some.is

pub settle-requires-clause-worker : goal.settle-requires-clause-worker
settle-requires-clause-worker g c =
    let back = c.turns_by_loan-kernel.ensures.back c.requires.working.0
    (lent_by _ _ _ _ _ _ _ _ _ _ c.deref_mut.ensures.value c.in-Ok.ensures.loan c.in-Ok.ensures.after c.in-Some.is c.requires.working.1) in
    subst (λ (r : Run). c.args.w < r.workers) (sym c.deref_mut-2.ensures.value) (may_settle _ _ _ _ _ _ _ back).0

pub settle-requires-clause-lent : goal.settle-requires-clause-lent
settle-requires-clause-lent g c =
    let back = c.turns_by_loan-kernel.ensures.back c.requires.working.0
    (lent_by _ _ _ _ _ _ _ _ _ _ c.deref_mut.ensures.value c.in-Ok.ensures.loan c.in-Ok.ensures.after c.in-Some.is c.requires.working.1) in
    subst (λ (r : Run). among c.args.w r.lent ≡ true) (sym c.deref_mut-2.ensures.value) (may_settle _ _ _ _ _ _ _ back).1

pub settle-requires-clause-image : goal.settle-requires-clause-image
settle-requires-clause-image g c =
    let back = c.turns_by_loan-kernel.ensures.back c.requires.working.0
    (lent_by _ _ _ _ _ _ _ _ _ _ c.deref_mut.ensures.value c.in-Ok.ensures.loan c.in-Ok.ensures.after c.in-Some.is c.requires.working.1) in
    subst (λ (r : Run). c.turns_by_loan-kernel.result.1.image ≡ r.image) (sym c.deref_mut-2.ensures.value) (may_settle _ _ _ _ _ _ _ back).2

pub settle-requires-clause-budget : goal.settle-requires-clause-budget
settle-requires-clause-budget g c =
    let back = c.turns_by_loan-kernel.ensures.back c.requires.working.0
    (lent_by _ _ _ _ _ _ _ _ _ _ c.deref_mut.ensures.value c.in-Ok.ensures.loan c.in-Ok.ensures.after c.in-Some.is c.requires.working.1) in
    subst (λ (r : Run). c.turns_by_loan-kernel.result.1.budget ≡ r.budget) (sym c.deref_mut-2.ensures.value) (may_settle _ _ _ _ _ _ _ back).3

pub settle-requires-clause-loan : goal.settle-requires-clause-loan
settle-requires-clause-loan g c =
    let back = c.turns_by_loan-kernel.ensures.back c.requires.working.0
    (lent_by _ _ _ _ _ _ _ _ _ _ c.deref_mut.ensures.value c.in-Ok.ensures.loan c.in-Ok.ensures.after c.in-Some.is c.requires.working.1) in
    subst (λ (r : Run). IsLoanOf c.args.w c.turns_by_loan-kernel.result.1 (state_of r)) (sym c.deref_mut-2.ensures.value) (may_settle _ _ _ _ _ _ _ back).4

pub returns-then-wait-gt0-clause-working : goal.returns-then-wait-gt0-clause-working
returns-then-wait-gt0-clause-working g c v works = works_yet _ _ c.args.steps _ _ _ _ (let more : c.args.steps ≤ c.args.steps + 1 = omega arith in more) works

pub returns-clause-working : goal.returns-clause-working
returns-clause-working g c v works =
    let t = c.turns_by_loan-kernel in
    let le : c.args.steps + t.result.1.turns ≤ 256 = (let most = t.ensures.most in omega (arith, most)) in
    settled_by _ _ _ _ v _ _ _ _ _ _ c.deref_mut-2.ensures.value le c.turns-turns.ensures.turns c.settle.ensures.settled c.settle.ensures.after
    (t.ensures.back v (lent_by _ _ _ v _ _ _ _ _ _ c.deref_mut.ensures.value c.in-Ok.ensures.loan c.in-Ok.ensures.after c.in-Some.is works))
