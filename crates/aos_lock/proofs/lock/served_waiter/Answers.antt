use Rattle.std.proofs.Common.{◌≡◌, ◌∙◌, ◌<◌, ℕ, ap, sym, subst}
use Rattle.std.specs.Prelude.{Option, true, false}
use Rattle.aos_queue.specs.Lists.{list_in}
use Rattle.aos_queue.proofs.Runs.{is_once}
use Rattle.aos_lock.specs.Heirs.{serves}
use Rattle.aos_lock.proofs.Walks.{Walked, walk_on, walk_serves, walk_ends, walk_falls, left_at, stands_at, reserved_at}
use Rattle.aos_lock.proofs.lock.served_waiter.Goals as goal

pub behind-at-requires : goal.behind-at-requires
behind-at-requires g c = reserved_at _ _ _ _ _ c.requires c.in-Some.is c.loop-at.invariant.walked

pub returns-then-is_served-clause-first : goal.returns-then-is_served-clause-first
returns-then-is_served-clause-first g c =
    let ws = list_in c.args.links.now c.args.waiters.now in
    let verdict = g.T.Test.verdict_of c.args.test.now in
    let a = c.in-Some.waiter in
    let served : serves (verdict a) ≡ true = ap serves (sym (c.loop-at.invariant.verdicts a)) ∙ sym c.is_served.ensures.served ∙ c.if-is_served.true in
    walk_serves verdict ws a (subst (λ (at : Option ℕ). Walked verdict ws at) c.in-Some.is c.loop-at.invariant.walked) served

pub loop-at-preserved : goal.loop-at-preserved
loop-at-preserved g c =
    let ws = list_in c.args.links.now c.args.waiters.now in
    let verdict = g.T.Test.verdict_of c.args.test.now in
    let a = c.in-Some.waiter in
    let fails : serves (verdict a) ≡ false = ap serves (sym (c.loop-at.invariant.verdicts a)) ∙ sym c.is_served.ensures.served ∙ c.if-is_served.false in
    record {
      walked = walk_on verdict ws a c.behind-at.result (subst (λ (at : Option ℕ). Walked verdict ws at) c.in-Some.is c.loop-at.invariant.walked) fails
          (λ front back e. c.behind-at.ensures c.args.waiters.now front back c.requires e);
      verdicts = λ b. c.is_served.ensures.verdicts b ∙ c.loop-at.invariant.verdicts b;
      held = λ h told. c.is_served.ensures.held h (c.loop-at.invariant.held h told);
    }

pub loop-at-smaller : goal.loop-at-smaller
loop-at-smaller g c =
    let links = c.args.links.now in
    let q = c.args.waiters.now in
    let ws = list_in links q in
    let verdict = g.T.Test.verdict_of c.args.test.now in
    let s = stands_at verdict ws c.in-Some.waiter (subst (λ (at : Option ℕ). Walked verdict ws at) c.in-Some.is c.loop-at.invariant.walked) in
    subst (λ (p : Option ℕ). left_at c.behind-at.result ws < left_at p ws) (sym c.in-Some.is)
    (walk_falls ws s.0 c.in-Some.waiter s.1 c.behind-at.result (is_once links q c.requires) s.2 (c.behind-at.ensures q s.0 s.1 c.requires s.2))

pub returns-clause-first : goal.returns-clause-first
returns-clause-first g c =
    let ws = list_in c.args.links.now c.args.waiters.now in
    let verdict = g.T.Test.verdict_of c.args.test.now in
    walk_ends verdict ws (subst (λ (at : Option ℕ). Walked verdict ws at) c.in_default.is c.loop-at.invariant.walked)
