-- Who waits for no lock after a call.
use Rattle.std.proofs.Common.{◌≡◌, ◌≢◌, ◌<◌, ◌++◌, ℕ, List, subst, inl, inr, Contains}
use Rattle.std.specs.Prelude.{Bool, Some}
use Rattle.std.proofs.lemmas.Bool.Decides.{eqb_tells}
use Rattle.std.proofs.lemmas.List.Elements.{Contains-append_cases}
use Rattle.aos_queue.specs.declared.links.Links.{Links}
use Rattle.aos_queue.proofs.Members.{among, gone}
use Rattle.aos_lock.specs.declared.lock.Passed.{Passed}
use Rattle.aos_lock.specs.declared.locks.Locks.{Locks}
use Rattle.aos_lock.specs.Heirs.{new_owner, after_passed, joined}
use Rattle.aos_lock.specs.Waits.{count_of, entrants_in, waiters_in, numbers_in, WaitsNowhere, SameWaiting, KeepsLocks}
use Rattle.aos_lock.proofs.Rows.{both_joined, both_left, passed_leaves}

same_numbers : (before after : Links) (old new : Locks) (lock : ℕ) → SameWaiting before old after new lock → numbers_in after new lock ≡ numbers_in before old lock
same_numbers before after old new lock h = λ i. h.entrants i ++ h.waiters i

-- one who doesn't come to the lock waits for as many locks as before
pub idle_kept : (before after : Links) (old new : Locks) (lock a : ℕ) → lock < count_of old → KeepsLocks before old after new lock
    → (Contains (numbers_in after new lock) a → Contains (numbers_in before old lock) a)
    → WaitsNowhere before old a → WaitsNowhere after new a
idle_kept before after old new lock a added keeps within h = record {
  nowhere = λ other l i. elim (eqb_tells other lock) [
    | inl e ↦ h.nowhere lock added (within (subst (λ k. Contains (numbers_in after new k) a) e.1 i))
    | inr d ↦ h.nowhere other (subst (λ n. other < n) keeps.count l) (subst (λ ns. Contains ns a) (same_numbers before after old new other (keeps.lists other d.1)) i)
  ];
}

-- nor does one where another one may have joined
pub idle_joined : (before after : Links) (old new : Locks) (lock a x : ℕ) (b c : Bool) → lock < count_of old → KeepsLocks before old after new lock
    → entrants_in after new lock ≡ joined b a (entrants_in before old lock) → waiters_in after new lock ≡ joined c a (waiters_in before old lock)
    → a ≢ x → WaitsNowhere before old x → WaitsNowhere after new x
idle_joined before after old new lock a x b c added keeps e w other h =
    let es = entrants_in before old lock in
    let ws = waiters_in before old lock in
    let is : numbers_in after new lock ≡ joined b a es ++ joined c a ws = λ j. e j ++ w j in
    idle_kept before after old new lock x added keeps
    (λ i. elim (among a x (es ++ ws) (both_joined b c a es ws x (subst (λ ns. Contains ns x) is i))) [
      | inl q ↦ absurd (other q)
      | inr j ↦ j
    ]) h

-- nor one from which the lock passes to somebody
pub idle_left : (before after : Links) (old new : Locks) (lock x : ℕ) (p : Passed) → lock < count_of old → KeepsLocks before old after new lock
    → entrants_in after new lock ≡ after_passed p (entrants_in before old lock) → waiters_in after new lock ≡ after_passed p (waiters_in before old lock)
    → WaitsNowhere before old x → WaitsNowhere after new x
idle_left before after old new lock x p added keeps e w h =
    let es = entrants_in before old lock in
    let ws = waiters_in before old lock in
    let is : numbers_in after new lock ≡ after_passed p es ++ after_passed p ws = λ j. e j ++ w j in
    idle_kept before after old new lock x added keeps (λ i. both_left p es ws x (subst (λ ns. Contains ns x) is i)) h

-- who gets the lock waits for none
passed_gone : (p : Passed) (a : ℕ) (es ws : List ℕ) → new_owner p ≡ Some a → Contains (after_passed p es ++ after_passed p ws) a → ⊥
passed_gone p a es ws is i = elim (Contains-append_cases (after_passed p es) (after_passed p ws) a i) [
  | inl j ↦ gone a es (subst (λ ns. Contains ns a) (passed_leaves p a es is) j)
  | inr j ↦ gone a ws (subst (λ ns. Contains ns a) (passed_leaves p a ws is) j)
]

pub heir_idle : (before after : Links) (old new : Locks) (lock a : ℕ) (p : Passed) (es ws : List ℕ) → KeepsLocks before old after new lock
    → ((other : ℕ) → other ≢ lock → other < count_of old → Contains (numbers_in before old other) a → ⊥)
    → entrants_in after new lock ≡ after_passed p es → waiters_in after new lock ≡ after_passed p ws → new_owner p ≡ Some a → WaitsNowhere after new a
heir_idle before after old new lock a p es ws keeps apart e w is =
    let all : numbers_in after new lock ≡ after_passed p es ++ after_passed p ws = λ j. e j ++ w j in
    record {
      nowhere = λ other l i. elim (eqb_tells other lock) [
        | inl q ↦ passed_gone p a es ws is (subst (λ ns. Contains ns a) all (subst (λ k. Contains (numbers_in after new k) a) q.1 i))
        | inr d ↦ apart other d.1 (subst (λ n. other < n) keeps.count l) (subst (λ ns. Contains ns a) (same_numbers before after old new other (keeps.lists other d.1)) i)
      ];
    }
