use Rattle.std.proofs.Common.{◌≡◌, ℕ}
use Rattle.aos_queue.specs.Lists.{list_in}
use Rattle.aos_lock.proofs.Walks.{Walked, left_at}
use Rattle.aos_lock.proofs.lock.served_waiter.Given as goal

abbrev pub invariant-loop-at : goal.invariant-loop-at
invariant-loop-at g l = record {
  walked : Walked (g.T.Test.verdict_of l.fn.test) (list_in l.links l.waiters) l.at;
  verdicts : (b : ℕ) → g.T.Test.verdict_of l.test b ≡ g.T.Test.verdict_of l.fn.test b;
  held : (h : g.T.Test.Held) → g.T.Test.held l.fn.test h → g.T.Test.held l.test h;
}

abbrev pub decreases-loop-at : goal.decreases-loop-at
decreases-loop-at g l = left_at l.at (list_in l.links l.waiters)
