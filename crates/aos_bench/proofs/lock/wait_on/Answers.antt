use Rattle.std.proofs.Common.{◌≡◌, ◌∙◌, ℕ, sym, ap, subst}
use Rattle.std.specs.Prelude.{Option, Some}
use Rattle.std.specs.Option.{unwrap_or}
use Rattle.aos_lock.specs.declared.lock.Passed.TheVariants.{Waiter as ToWaiter}
use Rattle.aos_lock.specs.declared.lock.Passed.{Passed}
use Rattle.aos_lock.specs.Heirs.{new_owner}
use Rattle.aos_lock.specs.Waits.{entrants_in, waiters_in}
use Rattle.aos_bench.specs.Holder.{Holds}
use Rattle.aos_bench.proofs.Holders.{to_waiter, holds_waited}
use Rattle.aos_bench.proofs.lock.wait_on.Goals as goal

pub returns : goal.returns
returns c =
    let before = c.args.links.now in
    let after = c.wait.new.links in
    let old = c.args.locks.now in
    let new = c.wait.new.self in
    let lock = c.args.lock in
    let o = c.args.owner in
    let e = c.wait.ensures in
    let to = to_waiter (entrants_in before old lock) (waiters_in before old lock) o in
    let passed : c.wait.result ≡ ToWaiter to.0 = e.heir ∙ to.1 in
    let is : new_owner c.wait.result ≡ Some to.0 = ap (λ (p : Passed). new_owner p) passed in
    let got : unwrap_or c.owner-heir.result o ≡ to.0 = ap (λ (p : Option ℕ). unwrap_or p o) (c.owner-heir.ensures ∙ is) in
    subst (λ (k : ℕ). Holds after new lock k) (sym (c.unwrap_or.ensures ∙ got))
    (holds_waited before after old new lock o c.wait.result to.0 c.requires e.others e.belong e.marks.room e.owner e.entrants e.waiters is to.2)
