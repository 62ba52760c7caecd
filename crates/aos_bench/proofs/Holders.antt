-- Who owns a lock after it was passed on.
use Rattle.aos_queue.proofs.Members.{among, none}
use Rattle.std.proofs.Common.{◌≡◌, ◌≢◌, ◌<◌, ◌+◌, ◌++◌, ◌∷◌, ◌⊎◌, inl, inr, ℕ, List, arith, [], refl, sym, ap, subst, ◌∙◌, Contains}
use Rattle.std.specs.Prelude.{Bool, Option, Some, None, true, false}
use Rattle.std.specs.Option.{unwrap_or}
use Rattle.std.proofs.lemmas.List.Elements.{Contains-append_right}
use Rattle.aos_base.specs.declared.kernel.Verdict.TheVariants.{Holds as Served}
use Rattle.aos_queue.specs.declared.links.Links.{Links}
use Rattle.aos_queue.specs.Lists.{room_of}
use Rattle.aos_lock.specs.declared.lock.Entered.{Entered}
use Rattle.aos_lock.specs.declared.lock.Entered.TheVariants.{Taken, Waits, Recursive}
use Rattle.aos_lock.specs.declared.lock.Passed.{Passed}
use Rattle.aos_lock.specs.declared.lock.Passed.TheVariants.{Waiter as ToWaiter}
use Rattle.aos_lock.specs.declared.locks.Locks.{Locks}
use Rattle.aos_lock.specs.Heirs.{entered_owner, does_wait, joined, queued, heir_by, passed_to, new_owner, after_passed, first_served, to_first}
use Rattle.aos_lock.specs.Waits.{count_of, owner_of, entrants_in, waiters_in, numbers_in, Belong, WaitsNowhere, IsUnawaited, KeepsLocks}
use Rattle.aos_lock.proofs.Rows.{both_joined}
use Rattle.aos_lock.proofs.Chosen.{passes, served_within, heir_of_both}
use Rattle.aos_lock.proofs.Changes.{waiting_reserved, apart_waiting}
use Rattle.aos_lock.proofs.Idle.{idle_kept, idle_joined, heir_idle}
use Rattle.aos_bench.specs.Holder.{Holds}

-- where the one who left asks again
pub owner_again : (r : Entered) (o b : ℕ) → (r ≡ Taken → ⊥) → entered_owner r o (Some b) ≡ Some b
owner_again Taken o b h = absurd (h refl)
owner_again Waits o b h = refl
owner_again Recursive o b h = refl

module _ (mid after : Links) (new last : Locks) (lock o : ℕ) (r : Entered) (added : lock < count_of new) (keeps : KeepsLocks mid new after last lock)
    (belong : Belong after last) (taken : (owner_of new lock ≡ None) → r ≡ Taken) (not_taken : r ≡ Taken → owner_of new lock ≡ None)
    (owner : owner_of last lock ≡ entered_owner r o (owner_of new lock))
    (entrants : entrants_in after last lock ≡ joined (does_wait r) o (entrants_in mid new lock)) (waiters : waiters_in after last lock ≡ waiters_in mid new lock)
    (reserved : o < room_of after) (idle : WaitsNowhere mid new o) where
  pub holds_again : (p : Option ℕ) → owner_of new lock ≡ p → ((b : ℕ) → p ≡ Some b → WaitsNowhere mid new b × (o ≢ b) × (b < room_of after))
      → Holds after last lock (unwrap_or p o)
  holds_again None is heir =
      let took : r ≡ Taken = taken is in
      let es = entrants_in mid new lock in
      let same : numbers_in after last lock ≡ numbers_in mid new lock = λ i. (entrants ∙ ap (λ (e : Entered). joined (does_wait e) o es) took) i ++ waiters i in
      record {
        added = subst (λ n. lock < n) (sym keeps.count) added;
        belong = belong;
        owner = owner ∙ ap (λ (e : Entered). entered_owner e o (owner_of new lock)) took;
        reserved = reserved;
        idle = idle_kept mid after new last lock o added keeps
            (λ i. subst (λ ns. Contains ns o) same i) idle;
      }
  holds_again (Some b) is heir =
      let h = heir b refl in
      let stays : r ≡ Taken → ⊥ = λ e. let n = not_taken e in absurd (cc) in
      record {
        added = subst (λ n. lock < n) (sym keeps.count) added;
        belong = belong;
        owner = owner ∙ ap (entered_owner r o) is ∙ owner_again r o b stays;
        reserved = h.2;
        idle = idle_joined mid after new last lock o b (does_wait r) false added keeps entrants waiters h.1 h.0;
      }

-- one lock, for which nobody waits
pub nobody_waits : (links : Links) (locks : Locks) (lock : ℕ) → count_of locks ≡ lock + 1 → lock ≡ 0 → IsUnawaited links locks lock → (a : ℕ) → WaitsNowhere links locks a
nobody_waits links locks lock one zero e a = record {
  nowhere = λ other l i.
      let same : other ≡ lock = omega arith in
      let none_there : numbers_in links locks lock ≡ [] = λ j. e.entrants j ++ e.waiters j in
      none a (subst (λ ns. Contains ns a) none_there (subst (λ k. Contains (numbers_in links locks k) a) same i));
}

-- nor where the first one has taken it
pub nobody_then : (links after : Links) (locks new : Locks) (lock a : ℕ) (r : Entered) → count_of locks ≡ lock + 1 → lock ≡ 0 → IsUnawaited links locks lock → KeepsLocks links locks after new lock → r ≡ Taken
    → entrants_in after new lock ≡ joined (does_wait r) a (entrants_in links locks lock) → waiters_in after new lock ≡ waiters_in links locks lock → (b : ℕ) → WaitsNowhere after new b
nobody_then links after locks new lock a r one zero e keeps took entrants waiters b =
    let es = entrants_in links locks lock in
    let added : lock < count_of locks = omega (arith, one) in
    let same : numbers_in after new lock ≡ numbers_in links locks lock = λ i. (entrants ∙ ap (λ (x : Entered). joined (does_wait x) a es) took) i ++ waiters i in
    idle_kept links after locks new lock b added keeps (λ i. subst (λ ns. Contains ns b) same i) (nobody_waits links locks lock one zero e b)

-- where another one joins
pub holds_joined : (before after : Links) (old new : Locks) (lock a o : ℕ) (b c : Bool) → Holds before old lock o → KeepsLocks before old after new lock → Belong after new → room_of after ≡ room_of before
    → owner_of new lock ≡ owner_of old lock → entrants_in after new lock ≡ joined b a (entrants_in before old lock) → waiters_in after new lock ≡ joined c a (waiters_in before old lock)
    → a ≢ o → Holds after new lock o
holds_joined before after old new lock a o b c h keeps belong room owner e w other = record {
  added = subst (λ n. lock < n) (sym keeps.count) h.added;
  belong = belong;
  owner = owner ∙ h.owner;
  reserved = subst (λ n. o < n) (sym room) h.reserved;
  idle = idle_joined before after old new lock a o b c h.added keeps e w other h.idle;
}

-- where the owner awaits a condition, and a waiter gets the lock, since each condition holds
first_holds : (ws : List ℕ) (a : ℕ) → (b : ℕ) × (first_served (λ n. Served) (ws ++ a ∷ []) ≡ Some b)
first_holds [] a = (a, refl)
first_holds (w ∷ ws) a = (w, refl)

pub to_waiter : (es ws : List ℕ) (a : ℕ) → (b : ℕ) × (passed_to (heir_by (λ n. Served) (queued es (ws ++ a ∷ []))) ≡ ToWaiter b) × Contains (es ++ (ws ++ a ∷ [])) b
to_waiter es ws a =
    let f = first_holds ws a in (
      f.0,
      heir_of_both (λ n. Served) es (ws ++ a ∷ []) ∙ ap (λ (o : Option ℕ). passes o (to_first es)) f.1,
      Contains-append_right es (ws ++ a ∷ []) f.0 (served_within (λ n. Served) (ws ++ a ∷ []) f.0 (sym f.1)),
    )

pub holds_waited : (before after : Links) (old new : Locks) (lock a : ℕ) (p : Passed) (b : ℕ) → Holds before old lock a → KeepsLocks before old after new lock → Belong after new → room_of after ≡ room_of before
    → owner_of new lock ≡ new_owner p → entrants_in after new lock ≡ after_passed p (entrants_in before old lock) → waiters_in after new lock ≡ after_passed p (waiters_in before old lock ++ a ∷ [])
    → new_owner p ≡ Some b → Contains (entrants_in before old lock ++ (waiters_in before old lock ++ a ∷ [])) b → Holds after new lock b
holds_waited before after old new lock a p b h keeps belong room owner e w is within =
    let es = entrants_in before old lock in
    let ws = waiters_in before old lock in
    let which : (a ≡ b) ⊎ Contains (es ++ ws) b = among a b (es ++ ws) (both_joined false true a es ws b within) in
    let known : b < room_of before = elim which [
      | inl q ↦ subst (λ n. n < room_of before) q h.reserved
      | inr i ↦ waiting_reserved before old lock b h.belong i
    ] in
    record {
      added = subst (λ n. lock < n) (sym keeps.count) h.added;
      belong = belong;
      owner = owner ∙ is;
      reserved = subst (λ n. b < n) (sym room) known;
      idle = heir_idle before after old new lock b p es (ws ++ a ∷ []) keeps
          (λ other d l i. elim which [
            | inl q ↦ h.idle.nowhere other l (subst (λ k. Contains (numbers_in before old other) k) (sym q) i)
            | inr j ↦ apart_waiting before old lock other b h.belong d i j
          ]) e w is;
    }
