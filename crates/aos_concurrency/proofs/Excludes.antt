-- Mutual exclusion in a sound state.
use Rattle.std.proofs.Common.{◌≡◌, ℕ, ◌+◌, List, [], ◌∷◌, Bool, true, false, refl, sym, ap, subst, arith, ◌≢◌}
use Rattle.std.specs.Prelude.{if◌then◌else◌, Option, Some, None, ◌&&◌}
use Rattle.aos_base.specs.declared.kernel.LockName.{LockName}
use Rattle.aos_base.specs.declared.kernel.Did.{Did}
use Rattle.aos_base.specs.declared.kernel.Outcome.TheVariants as outcome_is
use Rattle.aos_base.specs.Lock.{Wants, Entry, Condition}
use Rattle.aos_base.specs.Book.{RunState, Stand, On, Ready, At, place_of, is_at_lock, all_at_locks, outcome_of}
use Rattle.aos_base.specs.Machine.{Machine, State}
use Rattle.aos_concurrency.specs.Regions.{times, regions_of}
use Rattle.aos_concurrency.specs.Sound.{owns, waits_in, Sound}
use Rattle.aos_concurrency.specs.Mutual.{Mutual}
use Rattle.aos_concurrency.proofs.Tables.{number, lock, by_case}
use Rattle.aos_concurrency.proofs.LocalStates.{gone_nowhere, somewhere}
use Rattle.aos_concurrency.proofs.Steps.{owner_is, not_owner}

not_waiting : (l : LockName) (p : Option RunState) → ((c : ℕ) → p ≢ Some (At l (Condition c))) → waits_in l p ≡ 0
not_waiting l None h = refl
not_waiting l (Some (On v)) h = refl
not_waiting l (Some (Ready v)) h = refl
not_waiting l (Some (At k Entry)) h = refl
not_waiting l (Some (At k (Condition c))) h =
    by_case lock (λ q. ◌≡◌ {A = ℕ} (if q then 1 else 0) 0) l k (λ e. absurd (h c (ap (λ (x : LockName). Some (At x (Condition c))) (sym e)))) (λ _. refl)

and_both : (a b : Bool) → (a && b) ≡ true → (a ≡ true) × (b ≡ true)
and_both true b e = (refl, e)
and_both false b e = absurd (cc e)

at_a_lock : (p : RunState) → is_at_lock p ≡ true → (l : LockName) × (w : Wants) × (p ≡ At l w)
at_a_lock (On v) h = absurd (cc h)
at_a_lock (Ready v) h = absurd (cc h)
at_a_lock (At l w) h = (l, w, refl)

all_wait : (line : List Stand) → all_at_locks line ≡ true → (a : ℕ) → place_of line a ≢ None → (l : LockName) × (w : Wants) × (place_of line a ≡ Some (At l w))
all_wait [] h a some = absurd (some refl)
all_wait (s ∷ line) h a some =
    let both = and_both _ _ h in
    by_case number (λ q. ((if q then Some s.place else place_of line a) ≢ None) → (l : LockName) × (w : Wants) × ((if q then Some s.place else place_of line a) ≡ Some (At l w))) a s.activity
    (λ _ _. let r = at_a_lock s.place both.0 in (r.0, r.1, ap (λ (p : RunState). Some p) r.2)) (λ _ h'. all_wait line both.1 a h') some

dead_waits : (line : List Stand) (spent : Option ℕ) → outcome_of line spent ≡ outcome_is.Dead → all_at_locks line ≡ true
dead_waits [] spent h = refl
dead_waits (s ∷ rest) (Some x) h = absurd (cc h)
dead_waits (s ∷ rest) None h =
    (elim (is_at_lock s.place && all_at_locks rest) as (λ q. (if q then outcome_is.Dead else outcome_is.Going) ≡ outcome_is.Dead → q ≡ true) [ true ↦ λ _. refl | false ↦ λ e. absurd (cc e) ]) h

module _ {S F : Type 0} (m : Machine S F) (Fits : S → Did → F → Type 0) where
  pub sound_mutual : (st : State S F) → Sound m Fits st → Mutual m st
  sound_mutual st sound = record {
    owner = λ a l within free. owner_is (st.book.owner l) a (omega (arith, within, (sound.each a).regions l, not_waiting l (place_of st.book.line a) free));
    served = sound.served;
    once = sound.orderly.once;
    ended = λ a gone. (
      gone_nowhere (st.book.activity a).next (place_of st.book.line a) (sound.orderly.agrees a) gone,
      λ l. not_owner (st.book.owner l) a (let z = subst (λ k. times l (regions_of m k (st.frames a)) ≡ owns (st.book.owner l) a + waits_in l (place_of st.book.line a)) gone ((sound.each a).regions l) in omega (arith, z)),
    );
    dead = λ is a live. all_wait st.book.line (dead_waits st.book.line st.book.spent is) a (somewhere (st.book.activity a).next (place_of st.book.line a) (sound.orderly.agrees a) live);
  }
