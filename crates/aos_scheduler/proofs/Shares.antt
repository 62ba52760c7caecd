-- Queues of those who are ready, and locks, through one table.
use Rattle.std.proofs.Common.{◌≡◌, ℕ, List, subst}
use Rattle.std.specs.List.{Contains}
use Rattle.aos_base.specs.declared.priority.Priority.{Priority}
use Rattle.aos_queue.specs.declared.links.Links.{Links}
use Rattle.aos_queue.specs.Lists.{list_in, Apart, KeepsOthers}
use Rattle.aos_ready.specs.declared.ready.Ready.{Ready}
use Rattle.aos_ready.specs.Order.{queue_of, ready_in, Belong}

-- a change that touches nobody who is ready leaves the queues of the ready ones as they were
module _ (old new : Links) (r : Ready) (touched : List ℕ) (keeps : KeepsOthers old new touched) (h : Belong old r) (idle : (p : Priority) (x : ℕ) → Contains (ready_in old r p) x → Contains touched x → ⊥) where
  untouched : (p : Priority) → Apart (list_in old (queue_of r p)) touched
  unfolding ready_in
  untouched p = record { apart = λ n i j. idle p n i j }

  pub ready_kept : (p : Priority) → ready_in new r p ≡ ready_in old r p
  unfolding ready_in
  ready_kept p = keeps.list (queue_of r p) (h.belongs p) (untouched p)

  pub ready_belong : Belong new r
  ready_belong = record {
    belongs = λ p. keeps.belongs (queue_of r p) (h.belongs p) (untouched p);
    apart = λ p q d. record {
      apart = λ n i j. (h.apart p q d).apart n (subst (λ ns. Contains ns n) (keeps.list (queue_of r p) (h.belongs p) (untouched p)) i) (subst (λ ns. Contains ns n) (keeps.list (queue_of r q) (h.belongs q) (untouched q)) j);
    };
  }
