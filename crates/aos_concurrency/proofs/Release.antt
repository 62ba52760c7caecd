-- A release keeps each activity where it may be.
use Rattle.std.proofs.Common.{◌≡◌, ℕ, suc, ◌+◌, Bool, true, false, refl, sym, ◌∙◌, ap, subst, arith, inl, inr, ◌≢◌}
use Rattle.std.specs.Prelude.{if◌then◌else◌, nat_eq, Option, Some, None}
use Rattle.aos_base.specs.declared.kernel.LockName.{LockName}
use Rattle.aos_base.specs.declared.kernel.Verdict.{Verdict}
use Rattle.aos_base.specs.declared.kernel.Did.{Did}
use Rattle.aos_base.specs.declared.kernel.Did.TheVariants.{Enter, Await}
use Rattle.aos_base.specs.declared.kernel.Event.TheVariants as event
use Rattle.aos_base.specs.Lock.{is_lock, Wants, Entry, Condition, Heir, Nobody, Entrant, Waiter, Trapping, heir}
use Rattle.aos_base.specs.Book.{Ready, At, Runs, WillTrap, put, place_of, waiting, tell, ready, next_is, owned_by}
use Rattle.aos_base.specs.Machine.{Machine, State, on_book, go_past, pass, release}
use Rattle.aos_concurrency.specs.LocalState.{LocalState, local_state}
use Rattle.aos_concurrency.specs.Orderly.{Orderly}
use Rattle.aos_concurrency.specs.Regions.{times, KeepsRegions}
use Rattle.aos_concurrency.specs.Sound.{owns, waits_in, Sits, Sound}
use Rattle.aos_concurrency.proofs.Tables.{number, lock, by_case, each_put}
use Rattle.aos_concurrency.proofs.Lines.{StandsAs, heir_stands, nobody}
use Rattle.aos_concurrency.proofs.LocalStates.{local_state-heir, local_state-trapping, orderly-heir, orderly-trapping, runs_there}
use Rattle.aos_concurrency.proofs.Works.{at_local_state, local_state_along}

pub owns_self : (a : ℕ) → owns (Some a) a ≡ 1
owns_self a = by_case number (λ q. ◌≡◌ {A = ℕ} (if q then 1 else 0) 1) a a (λ _. refl) (λ ne. absurd (ne refl))

pub owns_other : (a x : ℕ) → x ≢ a → owns (Some a) x ≡ 0
owns_other a x ne = by_case number (λ q. ◌≡◌ {A = ℕ} (if q then 1 else 0) 0) a x (λ e. absurd (ne (sym e))) (λ _. refl)

pub owns_not : (o : Option ℕ) (a : ℕ) → o ≢ Some a → owns o a ≡ 0
owns_not None a ne = refl
owns_not (Some b) a ne = owns_other b a (λ e. ne (ap (λ (x : ℕ). Some x) (sym e)))

-- a lock that was free is a's
pub owner_taken : (owner : LockName → Option ℕ) (l : LockName) (a : ℕ) → owner l ≡ None → (x : ℕ) → x ≢ a → (k : LockName) → owns (put is_lock owner l (Some a) k) x ≡ owns (owner k) x
owner_taken owner l a free x ne k =
    by_case lock (λ q. owns (if q then Some a else owner k) x ≡ owns (owner k) x) k l
    (λ e. owns_other a x ne ∙ ap (λ o. owns o x) (sym free ∙ ap owner (sym e))) (λ _. refl)

-- who wants to enter did so before, unless its place has changed to a lock's list
pub entrant_before : {F : Type 0} (f g : ℕ → LocalState F) (a : ℕ) (v : LocalState F) → ((x : ℕ) → g x ≡ put nat_eq f a v x) → ((k : LockName) → v.place ≢ Some (At k Entry)) → (x : ℕ) (k : LockName) → (g x).place ≡ Some (At k Entry) → (f x).place ≡ Some (At k Entry)
entrant_before {F = F} f g a v e new x k is =
    each_put number (λ z (y : LocalState F). y.place ≡ Some (At k Entry) → (f z).place ≡ Some (At k Entry)) f a v (λ h. absurd (new k h)) (λ z ne h. h) x (ap (λ (y : LocalState F). y.place) (sym (e x)) ∙ is)

module _ {S F : Type 0} (m : Machine S F) (Fits : S → Did → F → Type 0) where
  -- under another table of owners, in which it owns as much
  pub sits_owner : (s : S) (owner owner' : LockName → Option ℕ) (a : ℕ) (x : LocalState F) → ((l : LockName) → owns (owner' l) a ≡ owns (owner l) a) → Sits m Fits s owner a x → Sits m Fits s owner' a x
  sits_owner s owner owner' a x same h = record { regions = λ l. h.regions l ∙ ap (λ k. k + waits_in l x.place) (sym (same l)); fits = h.fits }

  pub each_sits : (s : S) (owner : LockName → Option ℕ) (f g : ℕ → LocalState F) (a : ℕ) (v : LocalState F) → ((x : ℕ) → g x ≡ put nat_eq f a v x) → Sits m Fits s owner a v → ((x : ℕ) → x ≢ a → Sits m Fits s owner x (f x)) → (x : ℕ) → Sits m Fits s owner x (g x)
  each_sits s owner f g a v e here other x =
      subst (Sits m Fits s owner x) (sym (e x)) (each_put number (λ z y. Sits m Fits s owner z y) f a v here other x)

  -- in a release the lock has lost its owner, and has no new one yet
  pub record Open (l : LockName) (st : State S F) : Type 0 where
    pub orderly : Orderly st
    pub each : (a : ℕ) → Sits m Fits st.store st.book.owner a (local_state st a)
    pub free : st.book.owner l ≡ None
    pub served : (a : ℕ) (k : LockName) → k ≢ l → (local_state st a).place ≡ Some (At k Entry) → st.book.owner k ≢ None

  heir_enters : KeepsRegions m Fits → (s : S) (owner : LockName → Option ℕ) (a : ℕ) (l : LockName) (p : ℕ) (f : F) → owner l ≡ None → Sits m Fits s owner a (at_local_state (Some (At l Entry)) Runs f) → Sits m Fits s (put is_lock owner l (Some a)) a (at_local_state (Some (Ready p)) Runs (m.past f))
  heir_enters keeps s owner a l p f free h = record {
    regions = λ k. ap (times k) (keeps.passes s (Enter l) f h.fits.1 h.fits.0) ∙ by_case lock (λ q. (if q then suc (times k (m.regions f)) else times k (m.regions f)) ≡ owns (if q then Some a else owner k) a + 0) k l
        (λ e. let z : owns (owner k) a ≡ 0 = ap (λ x. owns (owner x) a) e ∙ ap (λ o. owns o a) free in omega (arith, h.regions k, owns_self a))
        (λ _. h.regions k);
    fits = keeps.fits.past s (Enter l) f h.fits.0 h.fits.1;
  }

  -- who no longer waits for a condition of l, and owns it
  waited : (owner : LockName → Option ℕ) (a : ℕ) (l k : LockName) (n c : ℕ) → owner l ≡ None → n ≡ owns (owner k) a + waits_in k (Some (At l (Condition c))) → n ≡ owns (put is_lock owner l (Some a) k) a + 0
  waited owner a l k n c free =
      by_case lock (λ q. (n ≡ owns (owner k) a + (if q then 1 else 0)) → n ≡ owns (if q then Some a else owner k) a + 0) k l
      (λ e r. let z : owns (owner k) a ≡ 0 = ap (λ x. owns (owner x) a) e ∙ ap (λ o. owns o a) free in omega (arith, r, owns_self a))
      (λ _ r. r)

  heir_goes_on : KeepsRegions m Fits → (s : S) (owner : LockName → Option ℕ) (a : ℕ) (l : LockName) (p c : ℕ) (f : F) → owner l ≡ None → Sits m Fits s owner a (at_local_state (Some (At l (Condition c))) Runs f) → Sits m Fits s (put is_lock owner l (Some a)) a (at_local_state (Some (Ready p)) Runs (m.past f))
  heir_goes_on keeps s owner a l p c f free h = record {
    regions = λ k. ap (times k) (keeps.passes s (Await l c) f h.fits).0 ∙ waited owner a l k (times k (m.regions f)) c free (h.regions k);
    fits = keeps.fits.past s (Await l c) f tt h.fits;
  }

  heir_traps : (s : S) (owner : LockName → Option ℕ) (a : ℕ) (l : LockName) (p c n : ℕ) (f : F) → owner l ≡ None → Sits m Fits s owner a (at_local_state (Some (At l (Condition c))) Runs f) → Sits m Fits s (put is_lock owner l (Some a)) a (at_local_state (Some (Ready p)) (WillTrap n) f)
  heir_traps s owner a l p c n f free h = record {
    regions = λ k. waited owner a l k (times k (m.regions f)) c free (h.regions k);
    fits = (Await l c, (tt, h.fits));
  }

  -- l has an owner, and each other lock keeps its own
  serves : (l : LockName) (st : State S F) (g : ℕ → LocalState F) (a p : ℕ) (v : LocalState F) → ((x : ℕ) → g x ≡ put nat_eq (local_state st) a v x) → v.place ≡ Some (Ready p) → Open l st → (x : ℕ) (k : LockName) → (g x).place ≡ Some (At k Entry) → put is_lock st.book.owner l (Some a) k ≢ None
  serves l st g a p v e at opened x k is none =
      by_case lock (λ q. (if q then Some a else st.book.owner k) ≡ None → ⊥) k l (λ _ h. absurd (cc h))
      (λ ne h. opened.served x k ne (entrant_before (local_state st) g a v e (λ j z. absurd (let y = sym at ∙ z in cc y)) x k is) h)
      none

  -- the heir that stood in the list of l, as it sat there
  there : (st : State S F) (l : LockName) (w : Wants) (b : ℕ) → Open l st → place_of st.book.line b ≡ Some (At l w) → Sits m Fits st.store st.book.owner b (at_local_state (Some (At l w)) Runs (st.frames b))
  there st l w b opened at = local_state_along (Sits m Fits st.store st.book.owner b) _ _ _ _ (st.frames b) _ at (runs_there st opened.orderly b l w at) refl (opened.each b)

  heir_sound : (l : LockName) (b : ℕ) (w : Wants) (waiter : Bool) (a : ℕ) (st : State S F) → Open l st → place_of st.book.line b ≡ Some (At l w)
      → ((p : ℕ) → Sits m Fits st.store (put is_lock st.book.owner l (Some b)) b (at_local_state (Some (Ready p)) Runs (m.past (st.frames b))))
      → Sound m Fits (go_past m b (on_book (λ k. ready b (owned_by l (Some b) (tell (event.Pass l a b waiter) k))) st))
  unfolding go_past ready owned_by
  heir_sound l b w waiter a st opened at sits =
      let p = (st.book.activity b).priority in
      let runs = runs_there st opened.orderly b l w at in
      let v = record (local_state st b) { place = Some (Ready p); frames = m.past (st.frames b) } in
      record {
        orderly = orderly-heir m b l l w (event.Pass l a b waiter) st at opened.orderly;
        each = each_sits st.store (put is_lock st.book.owner l (Some b)) (local_state st) _ b v (local_state-heir m b l (event.Pass l a b waiter) st)
            (local_state_along (Sits m Fits st.store (put is_lock st.book.owner l (Some b)) b) _ _ _ _ (m.past (st.frames b)) _ refl (sym runs) refl (sits p))
            (λ x ne. sits_owner st.store st.book.owner (put is_lock st.book.owner l (Some b)) x _ (owner_taken st.book.owner l b opened.free x ne) (opened.each x));
        served = serves l st _ b p v (local_state-heir m b l (event.Pass l a b waiter) st) refl opened;
      }

  pub pass_sound : KeepsRegions m Fits → (verdict : ℕ → ℕ → Verdict) (a : ℕ) (l : LockName) (h : Heir) (st : State S F) → Open l st → StandsAs verdict l st.book.line h → (h ≡ Nobody → (x : ℕ) → place_of st.book.line x ≢ Some (At l Entry)) → Sound m Fits (pass m a l h st)
  unfolding ready next_is owned_by
  pass_sound keeps verdict a l Nobody st opened stands none =
      let o = opened.orderly in
      record {
        orderly = record { once = o.once; agrees = o.agrees; unborn = o.unborn };
        each = opened.each;
        served = λ x k is. elim (lock k l) [ inl h ↦ absurd (none refl x (subst (λ y. place_of st.book.line x ≡ Some (At y Entry)) h.1 is)) | inr h ↦ opened.served x k h.1 is ];
      }
  pass_sound keeps verdict a l (Entrant b) st opened stands none =
      heir_sound l b Entry false a st opened stands (λ p. heir_enters keeps st.store st.book.owner b l p (st.frames b) opened.free (there st l Entry b opened stands))
  pass_sound keeps verdict a l (Waiter b) st opened stands none =
      heir_sound l b (Condition stands.0) true a st opened stands.1 (λ p. heir_goes_on keeps st.store st.book.owner b l p stands.0 (st.frames b) opened.free (there st l (Condition stands.0) b opened stands.1))
  pass_sound keeps verdict a l (Trapping b n) st opened stands none =
      let p = (st.book.activity b).priority in
      let v = record (local_state st b) { place = Some (Ready p); next = WillTrap n } in
      record {
        orderly = orderly-trapping m b n l l (Condition stands.0) (event.Pass l a b true) st stands.1 opened.orderly;
        each = each_sits st.store (put is_lock st.book.owner l (Some b)) (local_state st) _ b v (local_state-trapping m b n l (event.Pass l a b true) st)
            (heir_traps st.store st.book.owner b l p stands.0 n (st.frames b) opened.free (there st l (Condition stands.0) b opened stands.1))
            (λ x ne. sits_owner st.store st.book.owner (put is_lock st.book.owner l (Some b)) x _ (owner_taken st.book.owner l b opened.free x ne) (opened.each x));
        served = serves l st _ b p v (local_state-trapping m b n l (event.Pass l a b true) st) refl opened;
      }

  pub release_sound : KeepsRegions m Fits → (a : ℕ) (l : LockName) (st : State S F) → Open l (on_book (owned_by l None) st) → Sound m Fits (release m a l st)
  unfolding release owned_by
  release_sound keeps a l st opened =
      let verdict = λ (b c : ℕ). m.verdict st.store (st.frames b) c in
      pass_sound keeps verdict a l (heir verdict (waiting l st.book.line)) (on_book (owned_by l None) st) opened (heir_stands verdict l st.book.line opened.orderly.once) (nobody verdict l st.book.line)
