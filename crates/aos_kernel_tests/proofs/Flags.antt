-- Who waits for a lock, by a flag for each number.
use Rattle.std.proofs.Common.{◌≡◌, ◌≢◌, ◌<◌, ◌≤◌, ◌∷◌, [], ◌++◌, ℕ, List, length, refl, sym, ap, subst, ◌∙◌, ◌⊎◌, inl, inr, Contains}
use Rattle.std.specs.Prelude.{Bool, true, false, Option, Some, None, slice_index_or, slice_set}
use Rattle.std.proofs.lemmas.Bool.{false≢true}
use Rattle.std.proofs.lemmas.Bool.Decides.{eqb_tells}
use Rattle.std.proofs.lemmas.List.{get_or-set_same, get_or-set_other, length-set}
use Rattle.aos_queue.specs.declared.links.Links.{Links}
use Rattle.aos_queue.specs.Lists.{room_of}
use Rattle.aos_queue.proofs.Members.{among}
use Rattle.aos_lock.specs.declared.lock.Entered.{Entered}
use Rattle.aos_lock.specs.declared.lock.Entered.TheVariants.{Taken, Waits, Recursive}
use Rattle.aos_lock.specs.declared.lock.Passed.{Passed}
use Rattle.aos_lock.specs.declared.locks.Locks.{Locks}
use Rattle.aos_lock.specs.Heirs.{new_owner, after_passed, does_wait, joined}
use Rattle.aos_lock.specs.Waits.{count_of, entrants_in, waiters_in, numbers_in, Belong, WaitsNowhere, KeepsLocks}
use Rattle.aos_lock.proofs.Rows.{both_joined, both_left}
use Rattle.aos_lock.proofs.Changes.{apart_waiting}
use Rattle.aos_lock.proofs.Idle.{idle_kept, idle_joined, heir_idle}
use Rattle.aos_kernel_tests.specs.Waits.{Keeps, waits_then}

-- the one who asked, where it doesn't wait
idle_asker : (before after : Links) (old new : Locks) (lock a : ℕ) (r : Entered) → lock < count_of old → KeepsLocks before old after new lock
    → entrants_in after new lock ≡ joined (does_wait r) a (entrants_in before old lock) → waiters_in after new lock ≡ waiters_in before old lock
    → waits_then r ≡ false → WaitsNowhere before old a → WaitsNowhere after new a
idle_asker before after old new lock a r added keeps e w f h =
    let same : numbers_in after new lock ≡ numbers_in before old lock = λ i. (e ∙ stays r f) i ++ w i in
    idle_kept before after old new lock a added keeps (λ i. subst (λ ns. Contains ns a) same i) h
  where
    stays : (s : Entered) → waits_then s ≡ false → joined (does_wait s) a (entrants_in before old lock) ≡ entrants_in before old lock
    stays Taken is = refl
    stays Waits is = absurd (cc is)
    stays Recursive is = refl

pub keeps_entered : (before after : Links) (old new : Locks) (flags : List Bool) (a : ℕ) (r : Entered) → Keeps before old flags → a < length flags
    → slice_index_or flags a true ≡ false → KeepsLocks before old after new 0 → Belong after new → room_of after ≡ room_of before
    → entrants_in after new 0 ≡ joined (does_wait r) a (entrants_in before old 0) → waiters_in after new 0 ≡ waiters_in before old 0
    → Keeps after new (slice_set flags a (waits_then r))
keeps_entered before after old new flags a r k known idle keeps belong room e w = record {
  added = subst (λ n. 0 < n) (sym keeps.count) k.added;
  belong = belong;
  room = subst (λ n. length (slice_set flags a (waits_then r)) ≤ n) (sym room) (subst (λ n. n ≤ room_of before) (sym (length-set flags a (waits_then r))) k.room);
  idle = λ b f. elim (eqb_tells b a) [
    | inl q ↦ subst (λ n. WaitsNowhere after new n) (sym q.1)
        (idle_asker before after old new 0 a r k.added keeps e w
        (sym (get_or-set_same flags a (waits_then r) true known) ∙ subst (λ n. slice_index_or (slice_set flags a (waits_then r)) n true ≡ false) q.1 f) (k.idle a idle))
    | inr d ↦ idle_joined before after old new 0 a b (does_wait r) false k.added keeps e w (λ s. d.1 (sym s))
        (k.idle b (sym (get_or-set_other flags a b (waits_then r) true d.1) ∙ f))
  ];
}

-- the flags after one of them woke
module _ (flags now : List Bool) (p : Option ℕ) (some : (a : ℕ) → p ≡ Some a → now ≡ slice_set flags a false) (none_is : p ≡ None → now ≡ flags) where
  pub size_then : length now ≡ length flags
  size_then = elim p as (λ (q : Option ℕ). p ≡ q → length now ≡ length flags) [
    | Some a ↦ (λ e. ap length (some a e) ∙ length-set flags a false)
    | None ↦ (λ e. ap length (none_is e))
  ] refl

  -- a flag that is false then was so, or is that of the one who woke
  pub flag_then : (b : ℕ) → slice_index_or now b true ≡ false → (p ≡ Some b) ⊎ (slice_index_or flags b true ≡ false)
  flag_then b f = elim p as (λ (q : Option ℕ). p ≡ q → (p ≡ Some b) ⊎ (slice_index_or flags b true ≡ false)) [
    | Some a ↦ (λ e. elim (eqb_tells b a) [
      | inl q ↦ inl (e ∙ ap Some (sym q.1))
      | inr d ↦ inr (sym (get_or-set_other flags a b false true d.1) ∙ subst (λ fs. slice_index_or fs b true ≡ false) (some a e) f)
    ])
    | None ↦ (λ e. inr (subst (λ fs. slice_index_or fs b true ≡ false) (none_is e) f))
  ] refl

-- after a release, where these waited: those who did, and perhaps one more
pub keeps_passed : (before after : Links) (old new : Locks) (flags now : List Bool) (es ws : List ℕ) (r : Passed) (p : Option ℕ)
    → 0 < count_of old → KeepsLocks before old after new 0 → Belong after new → length flags ≤ room_of before → room_of after ≡ room_of before
    → entrants_in after new 0 ≡ after_passed r es → waiters_in after new 0 ≡ after_passed r ws
    → ((other b : ℕ) → other ≢ 0 → other < count_of old → Contains (numbers_in before old other) b → Contains (es ++ ws) b → ⊥)
    → ((b : ℕ) → slice_index_or flags b true ≡ false → WaitsNowhere before old b × (Contains (es ++ ws) b → Contains (numbers_in before old 0) b))
    → ((a : ℕ) → new_owner r ≡ Some a → Contains (es ++ ws) a)
    → new_owner r ≡ p → ((a : ℕ) → p ≡ Some a → now ≡ slice_set flags a false) → (p ≡ None → now ≡ flags)
    → Keeps after new now
keeps_passed before after old new flags now es ws r p added keeps belong room same e w apart idle within is some none_is =
    let all : numbers_in after new 0 ≡ after_passed r es ++ after_passed r ws = λ i. e i ++ w i in
    record {
      added = subst (λ n. 0 < n) (sym keeps.count) added;
      belong = belong;
      room = subst (λ n. length now ≤ n) (sym same) (subst (λ n. n ≤ room_of before) (sym (size_then flags now p some none_is)) room);
      idle = λ b f. elim (flag_then flags now p some none_is b f) [
        | inl q ↦ heir_idle before after old new 0 b r es ws keeps (λ other d l i. apart other b d l i (within b (is ∙ q))) e w (is ∙ q)
        | inr was ↦ let h = idle b was in
            idle_kept before after old new 0 b added keeps (λ i. h.1 (both_left r es ws b (subst (λ ns. Contains ns b) all i))) h.0
      ];
    }

pub keeps_left : (before after : Links) (old new : Locks) (flags now : List Bool) (r : Passed) (p : Option ℕ) → Keeps before old flags
    → KeepsLocks before old after new 0 → Belong after new → room_of after ≡ room_of before
    → entrants_in after new 0 ≡ after_passed r (entrants_in before old 0) → waiters_in after new 0 ≡ after_passed r (waiters_in before old 0)
    → ((a : ℕ) → new_owner r ≡ Some a → Contains (numbers_in before old 0) a)
    → new_owner r ≡ p → ((a : ℕ) → p ≡ Some a → now ≡ slice_set flags a false) → (p ≡ None → now ≡ flags)
    → Keeps after new now
keeps_left before after old new flags now r p k keeps belong same e w within is some none_is =
    keeps_passed before after old new flags now (entrants_in before old 0) (waiters_in before old 0) r p k.added keeps belong k.room same e w
    (λ other b d l i j. apart_waiting before old 0 other b k.belong d i j) (λ b f. (k.idle b f, (λ i. i))) within is some none_is

-- one more waits: a number is its own, or is that of one who waited before
joined_cases : (es ws : List ℕ) (a b : ℕ) → Contains (es ++ (ws ++ a ∷ [])) b → (a ≡ b) ⊎ Contains (es ++ ws) b
joined_cases es ws a b i = among a b (es ++ ws) (both_joined false true a es ws b i)

pub keeps_waited : (before after : Links) (old new : Locks) (flags now : List Bool) (a : ℕ) (r : Passed) (p : Option ℕ) → Keeps before old flags
    → a < length flags → slice_index_or flags a true ≡ false → KeepsLocks before old after new 0 → Belong after new → room_of after ≡ room_of before
    → entrants_in after new 0 ≡ after_passed r (entrants_in before old 0) → waiters_in after new 0 ≡ after_passed r (waiters_in before old 0 ++ a ∷ [])
    → ((b : ℕ) → new_owner r ≡ Some b → Contains (entrants_in before old 0 ++ (waiters_in before old 0 ++ a ∷ [])) b)
    → new_owner r ≡ p → ((b : ℕ) → p ≡ Some b → now ≡ slice_set (slice_set flags a true) b false) → (p ≡ None → now ≡ slice_set flags a true)
    → Keeps after new now
keeps_waited before after old new flags now a r p k known idle keeps belong same e w within is some none_is =
    let es = entrants_in before old 0 in
    let ws = waiters_in before old 0 in
    keeps_passed before after old new (slice_set flags a true) now es (ws ++ a ∷ []) r p k.added keeps belong
    (subst (λ n. n ≤ room_of before) (sym (length-set flags a true)) k.room) same e w
    (λ other b d l i j. elim (joined_cases es ws a b j) [
      | inl q ↦ (k.idle a idle).nowhere other l (subst (λ n. Contains (numbers_in before old other) n) (sym q) i)
      | inr m ↦ apart_waiting before old 0 other b k.belong d i m
    ])
    (λ b f. elim (eqb_tells b a) [
      | inl q ↦ absurd (false≢true (sym f ∙ subst (λ n. slice_index_or (slice_set flags a true) n true ≡ true) (sym q.1) (get_or-set_same flags a true true known)))
      | inr d ↦ (k.idle b (sym (get_or-set_other flags a b true true d.1) ∙ f), (λ i. elim (joined_cases es ws a b i) [ inl q ↦ absurd (d.1 (sym q)) | inr m ↦ m ]))
    ])
    within is some none_is
