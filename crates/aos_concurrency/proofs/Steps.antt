-- Each entry of a schedule keeps each activity where it may be; mutual exclusion follows.
use Rattle.std.proofs.Common.{◌≡◌, ℕ, suc, ◌+◌, ◌<◌, List, [], ◌∷◌, ◌++◌, Bool, true, false, refl, sym, ◌∙◌, ap, subst, arith, inl, inr, ◌≢◌}
use Rattle.std.specs.Prelude.{if◌then◌else◌, nat_eq, Option, Some, None}
use Rattle.aos_base.specs.declared.kernel.LockName.{LockName}
use Rattle.aos_base.specs.declared.kernel.Verdict.{Verdict}
use Rattle.aos_base.specs.declared.kernel.Verdict.TheVariants.{Holds, Fails, Traps}
use Rattle.aos_base.specs.declared.kernel.Did.{Did}
use Rattle.aos_base.specs.declared.kernel.Did.TheVariants.{Went, Ended, Enter, Leave, Await, Start, Trapped}
use Rattle.aos_base.specs.declared.kernel.Event.{Event}
use Rattle.aos_base.specs.declared.kernel.Event.TheVariants as event
use Rattle.aos_base.specs.declared.kernel.Outcome.TheVariants as outcome_is
use Rattle.aos_base.specs.Lock.{is_lock, Entry, Condition}
use Rattle.aos_base.specs.Book.{RunState, On, Ready, At, Next, Runs, WillTrap, Unwinds, Gone, put, place_of, is_at_lock, tell, stands, ready, next_is, owned_by, counted, trapped, ended, restarted, born, on_worker, first_ready, is_full, outcome}
use Rattle.aos_base.specs.Machine.{Choice, Step, Tick, Machine, State, on_book, with_frames, go_past, release, trap, enter, await, start, serve, turned, finish, turn_by, dispatch, step_of, tick_of, happens_in, if_going, happens, execution}
use Rattle.aos_concurrency.specs.LocalState.{LocalState, local_state, GoesPast, MayTrap}
use Rattle.aos_concurrency.specs.Orderly.{Agrees, Orderly}
use Rattle.aos_concurrency.specs.Regions.{times, Outside, KeepsRegions}
use Rattle.aos_concurrency.specs.Admits.{Admits, AlwaysAdmits}
use Rattle.aos_concurrency.specs.Sound.{owns, waits_in, Sits, Sound}
use Rattle.aos_concurrency.proofs.Tables.{number, lock, by_case, put_same, put_other, each_put}
use Rattle.aos_concurrency.proofs.Lines.{found_on, found_ready}
use Rattle.aos_concurrency.proofs.LocalStates.{local_state-stands, local_state-next, local_state-ended, local_state-anew, local_state-born, local_state-past, local_state-trap, local_state-turned, orderly-stands, orderly-next, orderly-ended, orderly-anew, orderly-born, orderly-past, orderly-trap, orderly-turned, live_there, not_started, awake_agrees, gone_nowhere}
use Rattle.aos_concurrency.proofs.Works.{at_local_state, local_state_along, each_at, work_map, work_elsewhere}
use Rattle.aos_concurrency.proofs.Release.{owns_self, owns_other, owns_not, owner_taken, entrant_before, sits_owner, each_sits, Open, release_sound}

-- an owner is told by its count
pub owner_is : (o : Option ℕ) (a : ℕ) → 0 < owns o a → o ≡ Some a
owner_is None a h = absurd (omega arith)
owner_is (Some b) a h = by_case number (λ q. (0 < (if q then 1 else 0)) → Some b ≡ Some a) b a (λ e _. ap (λ (x : ℕ). Some x) e) (λ _ g. absurd (omega arith)) h

pub not_owner : (o : Option ℕ) (a : ℕ) → owns o a ≡ 0 → o ≢ Some a
not_owner o a h e = absurd (omega (arith, h, ap (λ x. owns x a) e ∙ owns_self a))

-- the first of a list stands in it
pub head_within : (k : LockName) (ks : List LockName) → 0 < times k (k ∷ ks)
head_within k ks = by_case lock (λ q. 0 < (if q then suc (times k ks) else times k ks)) k k (λ _. omega arith) (λ ne. absurd (ne refl))

-- the owner of a lock gives it up
owner_lost : (owner : LockName → Option ℕ) (l : LockName) (a : ℕ) → owner l ≡ Some a → (x : ℕ) → x ≢ a → (k : LockName) → owns (put is_lock owner l None k) x ≡ owns (owner k) x
owner_lost owner l a is x ne k =
    by_case lock (λ q. owns (if q then None else owner k) x ≡ owns (owner k) x) k l
    (λ e. sym (ap (λ y. owns (owner y) x) e ∙ ap (λ o. owns o x) is ∙ owns_other a x ne)) (λ _. refl)

-- and stands in one region of it less
one_less : (owner : LockName → Option ℕ) (l k : LockName) (ls : List LockName) (a : ℕ) → owner l ≡ Some a → times k (l ∷ ls) ≡ owns (owner k) a → times k ls ≡ owns (put is_lock owner l None k) a + 0
one_less owner l k ls a mine =
    by_case lock (λ q. (if q then suc (times k ls) else times k ls) ≡ owns (owner k) a → times k ls ≡ owns (if q then None else owner k) a + 0) k l
    (λ e h. omega (arith, h, ap (λ y. owns (owner y) a) e ∙ ap (λ o. owns o a) mine ∙ owns_self a)) (λ _ h. omega (arith, h))

module _ {S F : Type 0} (m : Machine S F) (Fits : S → Did → F → Type 0) where
  -- a worker's activity, and the others are where they may be
  pub record Here (a : ℕ) (st : State S F) : Type 0 where
    pub orderly : Orderly st
    pub others : (x : ℕ) → x ≢ a → Sits m Fits st.store st.book.owner x (local_state st x)
    pub worker : ℕ
    pub on : place_of st.book.line a ≡ Some (On worker)
    pub served : (x : ℕ) (l : LockName) → (local_state st x).place ≡ Some (At l Entry) → st.book.owner l ≢ None

  -- its turn has left this work
  pub record Turning (w : Did) (a : ℕ) (st : State S F) : Type 0 where
    pub here : Here a st
    pub runs : (st.book.activity a).next ≡ Runs
    pub regions : (l : LockName) → times l (m.regions (st.frames a)) ≡ owns (st.book.owner l) a
    pub fits : Fits st.store w (st.frames a)

  went : (a : ℕ) (st : State S F) → Turning Went a st → Sound m Fits st
  went a st t =
      let h = t.here in
      record {
        orderly = h.orderly;
        each = each_at (λ x. Sits m Fits st.store st.book.owner x (local_state st x)) a
            (local_state_along (Sits m Fits st.store st.book.owner a) _ _ _ _ (st.frames a) _ (sym h.on) (sym t.runs) refl (record { regions = λ l. omega (arith, t.regions l); fits = t.fits }))
            h.others;
        served = h.served;
      }

  trap_sound : (a n c : ℕ) (w : Did) (st : State S F) → Here a st → ((l : LockName) → times l (m.regions (st.frames a)) ≡ owns (st.book.owner l) a) → MayTrap w → Fits st.store w (st.frames a) → Sound m Fits (trap m a n c st)
  unfolding trap trapped next_is
  trap_sound a n c w st h regions may fits =
      let locks = m.regions (st.frames a) in
      let v = record (local_state st a) { next = Unwinds locks } in
      record {
        orderly = orderly-trap m a n c (On h.worker) st h.on refl h.orderly;
        each = each_sits m Fits st.store st.book.owner (local_state st) _ a v (local_state-trap m a n c st)
            (local_state_along (Sits m Fits st.store st.book.owner a) _ _ _ _ (st.frames a) _ (sym h.on) refl refl (record { regions = λ l. omega (arith, regions l); fits = (w, (may, fits)) }))
            h.others;
        served = λ x l at. h.served x l (entrant_before (local_state st) (local_state (trap m a n c st)) a v (local_state-trap m a n c st) (λ k z. absurd (let y = sym h.on ∙ z in cc y)) x l at);
      }

  -- the end, where no lock is owned
  ended_sound : (a : ℕ) (st : State S F) → Here a st → ((l : LockName) → owns (st.book.owner l) a ≡ 0) → Sound m Fits (on_book (ended a) st)
  unfolding ended next_is
  ended_sound a st h none =
      let v = record (local_state st a) { place = None; next = Gone } in
      record {
        orderly = orderly-ended a (On h.worker) st h.on h.orderly;
        each = each_sits m Fits st.store st.book.owner (local_state st) _ a v (local_state-ended a st) (record { regions = λ l. omega (arith, none l); fits = tt }) h.others;
        served = λ x l at. h.served x l (entrant_before (local_state st) (local_state (on_book (ended a) st)) a v (local_state-ended a st) (λ k z. absurd (cc z)) x l at);
      }

  opened_by : (l : LockName) (a : ℕ) (st : State S F) → Orderly st
      → ((x : ℕ) → x ≢ a → Sits m Fits st.store st.book.owner x (local_state st x))
      → Sits m Fits st.store (put is_lock st.book.owner l None) a (local_state st a)
      → st.book.owner l ≡ Some a
      → ((x : ℕ) (k : LockName) → (local_state st x).place ≡ Some (At k Entry) → st.book.owner k ≢ None)
      → Open m Fits l (on_book (owned_by l None) st)
  unfolding owned_by
  opened_by l a st o others here is served = record {
    orderly = record { once = o.once; agrees = o.agrees; unborn = o.unborn };
    each = each_at (λ x. Sits m Fits st.store (put is_lock st.book.owner l None) x (local_state st x)) a here
        (λ x ne. sits_owner m Fits st.store st.book.owner (put is_lock st.book.owner l None) x _ (owner_lost st.book.owner l a is x ne) (others x ne));
    free = put_same lock st.book.owner l None;
    served = λ x k ne at none. served x k at (sym (put_other lock st.book.owner l None k ne) ∙ none);
  }

  -- past the work, with these owners
  past_sound : KeepsRegions m Fits → (w : Did) (a : ℕ) (owner : LockName → Option ℕ) (events : List Event) (st : State S F) → GoesPast (Outside m) w (st.frames a) → Turning w a st
      → ((l : LockName) → times l (m.regions (m.past (st.frames a))) ≡ owns (owner l) a)
      → ((x : ℕ) → x ≢ a → (l : LockName) → owns (owner l) x ≡ owns (st.book.owner l) x)
      → ((x : ℕ) (l : LockName) → (local_state st x).place ≡ Some (At l Entry) → owner l ≢ None)
      → Sound m Fits (go_past m a (on_book (λ k. record k { owner = owner; events = events }) st))
  unfolding go_past
  past_sound keeps w a owner events st goes t mine same served =
      let h = t.here in
      let f = m.past (st.frames a) in
      record {
        orderly = orderly-past m a owner events st h.orderly;
        each = each_sits m Fits st.store owner (local_state st) _ a (record (local_state st a) { frames = f }) (local_state-past m a owner events st)
            (local_state_along (Sits m Fits st.store owner a) _ _ _ _ f _ (sym h.on) (sym t.runs) refl (record { regions = λ l. omega (arith, mine l); fits = keeps.fits.past st.store w (st.frames a) goes t.fits }))
            (λ x ne. sits_owner m Fits st.store st.book.owner owner x _ (same x ne) (h.others x ne));
        served = served;
      }

  -- to the entrants of a lock
  blocked : (a : ℕ) (l : LockName) (st : State S F) → Turning (Enter l) a st → (b : ℕ) → st.book.owner l ≡ Some b → a ≢ b → Sound m Fits (on_book (λ k. stands a (At l Entry) (tell (event.Wait l a false) k)) st)
  unfolding stands
  blocked a l st t b is other =
      let h = t.here in
      let p = At l Entry in
      let es = st.book.events ++ event.Wait l a false ∷ [] in
      record {
        orderly = orderly-stands a p (On h.worker) es st h.on (subst (λ n. Agrees n (Some p)) (sym t.runs) tt) h.orderly;
        each = each_sits m Fits st.store st.book.owner (local_state st) _ a (record (local_state st a) { place = Some p }) (local_state-stands a p es st)
            (local_state_along (Sits m Fits st.store st.book.owner a) _ _ _ _ (st.frames a) _ refl (sym t.runs) refl (record { regions = λ k. omega (arith, t.regions k); fits = (t.regions l ∙ ap (λ o. owns o a) is ∙ owns_other b a other, t.fits) }))
            h.others;
        served = λ x k at none.
            each_put number (λ z (y : LocalState F). y.place ≡ Some (At k Entry) → ⊥) (local_state st) a (record (local_state st a) { place = Some p })
            (λ e. let q : l ≡ k = cc e in absurd (let g = sym is ∙ ap st.book.owner q ∙ none in cc g)) (λ z ne e. h.served z k e none) x
            (ap (λ (y : LocalState F). y.place) (sym (local_state-stands a p es st x)) ∙ at);
      }

  leaves : KeepsRegions m Fits → (a : ℕ) (l : LockName) (st : State S F) → Turning (Leave l) a st → Sound m Fits (release m a l (go_past m a st))
  unfolding go_past
  leaves keeps a l st t =
      let h = t.here in
      let f = m.past (st.frames a) in
      let v = record (local_state st a) { frames = f } in
      let e = local_state-past m a st.book.owner st.book.events st in
      let count : (k : LockName) → times k (l ∷ m.regions f) ≡ owns (st.book.owner k) a = λ k. ap (times k) (sym (keeps.passes st.store (Leave l) (st.frames a) t.fits)) ∙ t.regions k in
      let mine : st.book.owner l ≡ Some a = owner_is (st.book.owner l) a (omega (arith, head_within l (m.regions f), count l)) in
      release_sound m Fits keeps a l (go_past m a st) (opened_by l a (go_past m a st) (orderly-past m a st.book.owner st.book.events st h.orderly)
      (λ x ne. subst (Sits m Fits st.store st.book.owner x) (sym (e x ∙ put_other number (local_state st) a v x ne)) (h.others x ne))
      (subst (Sits m Fits st.store (put is_lock st.book.owner l None) a) (sym (e a ∙ put_same number (local_state st) a v))
      (local_state_along (Sits m Fits st.store (put is_lock st.book.owner l None) a) _ _ _ _ f _ (sym h.on) (sym t.runs) refl
      (record { regions = λ k. one_less st.book.owner l k (m.regions f) a mine (count k); fits = keeps.fits.past st.store (Leave l) (st.frames a) tt t.fits })))
      mine h.served)

  -- a condition that fails: to the waiters, and the lock is released
  waits : KeepsRegions m Fits → (a : ℕ) (l : LockName) (c : ℕ) (st : State S F) → Turning (Await l c) a st → Sound m Fits (release m a l (on_book (λ k. stands a (At l (Condition c)) (tell (event.Wait l a true) k)) st))
  unfolding stands
  waits keeps a l c st t =
      let h = t.here in
      let p = At l (Condition c) in
      let es = st.book.events ++ event.Wait l a true ∷ [] in
      let v = record (local_state st a) { place = Some p } in
      let st' = on_book (λ k. stands a p (tell (event.Wait l a true) k)) st in
      let e : (x : ℕ) → local_state st' x ≡ put nat_eq (local_state st) a v x = local_state-stands a p es st in
      let mine : st.book.owner l ≡ Some a = owner_is (st.book.owner l) a (omega (arith, t.regions l, (keeps.passes st.store (Await l c) (st.frames a) t.fits).1)) in
      release_sound m Fits keeps a l st' (opened_by l a st' (orderly-stands a p (On h.worker) es st h.on (subst (λ n. Agrees n (Some p)) (sym t.runs) tt) h.orderly)
      (λ x ne. subst (Sits m Fits st.store st.book.owner x) (sym (e x ∙ put_other number (local_state st) a v x ne)) (h.others x ne))
      (subst (Sits m Fits st.store (put is_lock st.book.owner l None) a) (sym (e a ∙ put_same number (local_state st) a v))
      (local_state_along (Sits m Fits st.store (put is_lock st.book.owner l None) a) _ _ _ _ (st.frames a) _ refl (sym t.runs) refl (record {
        regions = λ k. by_case lock (λ q. times k (m.regions (st.frames a)) ≡ owns (if q then None else st.book.owner k) a + (if q then 1 else 0)) k l
            (λ g. omega (arith, t.regions k, ap (λ y. owns (st.book.owner y) a) g ∙ ap (λ o. owns o a) mine ∙ owns_self a)) (λ _. omega (arith, t.regions k));
        fits = t.fits;
      })))
      mine (λ x k at. h.served x k (entrant_before (local_state st) (local_state st') a v e (λ j z. absurd (cc z)) x k at)))

  -- the next lock after a trap
  unwinds : KeepsRegions m Fits → (a : ℕ) (l : LockName) (locks : List LockName) (st : State S F) → Here a st → Sits m Fits st.store st.book.owner a (at_local_state (Some (On 0)) (Unwinds (l ∷ locks)) (st.frames a)) → Sound m Fits (release m a l (on_book (next_is a (Unwinds locks)) st))
  unfolding next_is
  unwinds keeps a l locks st h sits =
      let v = record (local_state st a) { next = Unwinds locks } in
      let st' = on_book (next_is a (Unwinds locks)) st in
      let e : (x : ℕ) → local_state st' x ≡ put nat_eq (local_state st) a v x = local_state-next a (Unwinds locks) st in
      let mine : st.book.owner l ≡ Some a = owner_is (st.book.owner l) a (omega (arith, head_within l locks, sits.regions l)) in
      release_sound m Fits keeps a l st' (opened_by l a st' (orderly-next a (Unwinds locks) (On h.worker) st h.on refl (λ z. absurd (cc z)) h.orderly)
      (λ x ne. subst (Sits m Fits st.store st.book.owner x) (sym (e x ∙ put_other number (local_state st) a v x ne)) (h.others x ne))
      (subst (Sits m Fits st.store (put is_lock st.book.owner l None) a) (sym (e a ∙ put_same number (local_state st) a v))
      (local_state_along (Sits m Fits st.store (put is_lock st.book.owner l None) a) _ _ _ _ (st.frames a) _ (sym h.on) refl refl
      (record { regions = λ k. one_less st.book.owner l k locks a mine (omega (arith, sits.regions k)); fits = sits.fits })))
      mine (λ x k at. h.served x k (entrant_before (local_state st) (local_state st') a v e (λ j z. absurd (let y = sym h.on ∙ z in cc y)) x k at)))

  newborn : KeepsRegions m Fits → (a o p : ℕ) (st : State S F) → Turning (Start o) a st → Turning (Start o) a (on_book (born p) (with_frames st.book.started (m.body st.store o) st))
  unfolding born
  newborn keeps a o p st t =
      let h = t.here in
      let n = st.book.started in
      let f = m.body st.store o in
      let v : LocalState F = record { place = Some (Ready p); next = Runs; frames = f } in
      let st' = on_book (born p) (with_frames n f st) in
      let e : (x : ℕ) → local_state st' x ≡ put nat_eq (local_state st) n v x = local_state-born p f st in
      let live : (local_state st a).next ≢ Gone = λ z. absurd (let y = sym t.runs ∙ z in cc y) in
      let ne_n : a ≢ n = not_started st h.orderly a live in
      let gone : (st.book.activity n).next ≡ Gone = h.orderly.unborn n (omega arith) in
      let nowhere : place_of st.book.line n ≡ None = gone_nowhere _ _ (h.orderly.agrees n) gone in
      let none : (l : LockName) → owns (st.book.owner l) n ≡ 0 = λ l.
      let z = (local_state_along (Sits m Fits st.store st.book.owner n) _ _ _ _ (st.frames n) _ nowhere gone refl (h.others n (λ y. ne_n (sym y)))).regions l in omega (arith, z) in
      let mine : local_state st' a ≡ local_state st a = e a ∙ put_other number (local_state st) n v a ne_n in
      record {
        here = record {
          orderly = orderly-born p f st h.orderly;
          others = λ x na. subst (Sits m Fits st.store st.book.owner x) (sym (e x))
              ((elim (number x n) as (λ _. Sits m Fits st.store st.book.owner x (put nat_eq (local_state st) n v x)) [
                | inl y ↦ subst (Sits m Fits st.store st.book.owner x) (sym (ap (put nat_eq (local_state st) n v) y.1 ∙ put_same number (local_state st) n v))
                    (record { regions = λ l. ap (times l) (keeps.body st.store o (st.frames a) t.fits) ∙ omega (arith, subst (λ z. owns (st.book.owner l) z ≡ 0) (sym y.1) (none l)); fits = keeps.fits.body st.store o (st.frames a) t.fits })
                | inr y ↦ subst (Sits m Fits st.store st.book.owner x) (sym (put_other number (local_state st) n v x y.1)) (h.others x na)
              ]));
          worker = h.worker;
          on = ap (λ (y : LocalState F). y.place) mine ∙ h.on;
          served = λ x l at. h.served x l (entrant_before (local_state st) (local_state st') n v e (λ j z. absurd (cc z)) x l at);
        };
        runs = ap (λ (y : LocalState F). y.next) mine ∙ t.runs;
        regions = λ l. ap (λ (y : LocalState F). times l (m.regions y.frames)) mine ∙ t.regions l;
        fits = subst (λ (y : LocalState F). Fits st.store (Start o) y.frames) (sym mine) t.fits;
      }

  enters : KeepsRegions m Fits → (a : ℕ) (l : LockName) (o : Option ℕ) (st : State S F) → st.book.owner l ≡ o → Turning (Enter l) a st → Sound m Fits (enter m a l o st)
  unfolding owned_by
  enters keeps a l None st is t =
      let outside : Outside m l (st.frames a) = t.regions l ∙ ap (λ o. owns o a) is in
      past_sound keeps (Enter l) a (put is_lock st.book.owner l (Some a)) _ st outside t
      (λ k. ap (times k) (keeps.passes st.store (Enter l) (st.frames a) t.fits outside) ∙ by_case lock (λ q. (if q then suc (times k (m.regions (st.frames a))) else times k (m.regions (st.frames a))) ≡ owns (if q then Some a else st.book.owner k) a) k l
      (λ e. omega (arith, t.regions k, ap (λ y. owns (st.book.owner y) a) e ∙ ap (λ x. owns x a) is, owns_self a)) (λ _. t.regions k))
      (owner_taken st.book.owner l a is)
      (λ x k at none. by_case lock (λ q. (if q then Some a else st.book.owner k) ≡ None → ⊥) k l (λ _ h. absurd (cc h)) (λ _ h. t.here.served x k at h) none)
  enters keeps a l (Some b) st is t =
      by_case number (λ q. Sound m Fits (if q then trap m a 9 0 st else on_book (λ k. stands a (At l Entry) (tell (event.Wait l a false) k)) st)) b a
      (λ _. trap_sound a 9 0 (Enter l) st t.here t.regions tt t.fits)
      (λ ne. blocked a l st t b is (λ e. ne (sym e)))

  awaits : KeepsRegions m Fits → (a : ℕ) (l : LockName) (c : ℕ) (v : Verdict) (st : State S F) → Turning (Await l c) a st → Sound m Fits (await m a l c v st)
  awaits keeps a l c Holds st t =
      past_sound keeps (Await l c) a st.book.owner st.book.events st tt t (λ k. ap (times k) (keeps.passes st.store (Await l c) (st.frames a) t.fits).0 ∙ t.regions k) (λ x _ k. refl) t.here.served
  awaits keeps a l c (Traps n) st t = trap_sound a n 0 (Await l c) st t.here t.regions tt t.fits
  awaits keeps a l c Fails st t = waits keeps a l c st t

  starts : KeepsRegions m Fits → (a o : ℕ) (full : Bool) (st : State S F) → Turning (Start o) a st → Sound m Fits (start m a o full st)
  starts keeps a o true st t = trap_sound a 13 0 (Start o) st t.here t.regions tt t.fits
  starts keeps a o false st t =
      let st' = on_book (born (m.priority st.store o)) (with_frames st.book.started (m.body st.store o) st) in
      let t' = newborn keeps a o (m.priority st.store o) st t in
      past_sound keeps (Start o) a st'.book.owner st'.book.events st' tt t' (λ k. ap (times k) (keeps.passes st'.store (Start o) (st'.frames a) t'.fits) ∙ t'.regions k) (λ x _ k. refl) t'.here.served

  serve_sound : KeepsRegions m Fits → (a : ℕ) (w : Did) (st : State S F) → Turning w a st → Sound m Fits (serve m a w st)
  serve_sound keeps a Went st t = went a st t
  serve_sound keeps a Ended st t = ended_sound a st t.here (λ l. sym (t.regions l) ∙ ap (times l) (keeps.passes st.store Ended (st.frames a) t.fits))
  serve_sound keeps a (Enter l) st t = enters keeps a l (st.book.owner l) st refl t
  serve_sound keeps a (Leave l) st t = leaves keeps a l st t
  serve_sound keeps a (Await l c) st t = awaits keeps a l c (m.verdict st.store (st.frames a) c) st t
  serve_sound keeps a (Start o) st t = starts keeps a o (is_full st.book) st t
  serve_sound keeps a (Trapped n c) st t = trap_sound a n c (Trapped n c) st t.here t.regions tt t.fits

  -- a worker's activity as it sits
  pub sits_on : (a : ℕ) (n : Next) (st : State S F) → Sound m Fits st → (v : ℕ) → place_of st.book.line a ≡ Some (On v) → (st.book.activity a).next ≡ n → Sits m Fits st.store st.book.owner a (at_local_state (Some (On v)) n (st.frames a))
  sits_on a n st sound v on is = local_state_along (Sits m Fits st.store st.book.owner a) _ _ _ _ (st.frames a) _ on is refl (sound.each a)

  pub turned_turning : KeepsRegions m Fits → (a : ℕ) (st : State S F) → Sound m Fits st → (v : ℕ) → place_of st.book.line a ≡ Some (On v) → (st.book.activity a).next ≡ Runs → Turning (m.turn st.store (st.frames a)).left a (turned m a (m.turn st.store (st.frames a)) st)
  unfolding turned counted
  turned_turning keeps a st sound v on runs =
      let t = m.turn st.store (st.frames a) in
      let sits = sits_on a Runs st sound v on runs in
      let st' = turned m a t st in
      let w = record (local_state st a) { frames = t.frames } in
      let e : (x : ℕ) → local_state st' x ≡ put nat_eq (local_state st) a w x = local_state-turned m a t st in
      let mine : local_state st' a ≡ w = e a ∙ put_same number (local_state st) a w in
      record {
        here = record {
          orderly = orderly-turned m a t (On v) st on sound.orderly;
          others = λ x ne. subst (Sits m Fits t.store st.book.owner x) (sym (e x ∙ put_other number (local_state st) a w x ne))
              (let s = sound.each x in record { regions = s.regions; fits = work_map (λ k. Outside m k (st.frames x)) (λ y. Fits st.store y (st.frames x)) (λ y. Fits t.store y (st.frames x)) (λ y h. keeps.fits.kept st.store (st.frames a) sits.fits y (st.frames x) h) _ _ s.fits });
          worker = v;
          on = ap (λ (y : LocalState F). y.place) mine ∙ on;
          served = λ x l at. sound.served x l (entrant_before (local_state st) (local_state st') a w e (λ k z. absurd (let y = sym on ∙ z in cc y)) x l at);
        };
        runs = ap (λ (y : LocalState F). y.next) mine ∙ runs;
        regions = λ l. ap (λ (y : LocalState F). times l (m.regions y.frames)) mine ∙ ap (times l) (keeps.turn st.store (st.frames a) sits.fits) ∙ omega (arith, sits.regions l);
        fits = subst (λ (y : LocalState F). Fits t.store t.left y.frames) (sym mine) (keeps.fits.turn st.store (st.frames a) sits.fits);
      }

  here_on : (a : ℕ) (st : State S F) → Sound m Fits st → (v : ℕ) → place_of st.book.line a ≡ Some (On v) → Here a st
  here_on a st sound v on = record { orderly = sound.orderly; others = (λ x _. sound.each x); worker = v; on = on; served = sound.served }

  anew_sound : KeepsRegions m Fits → (a : ℕ) (f : F) (w : Did) (st : State S F) → Here a st → MayTrap w → Fits st.store w (st.frames a) → m.anew (st.frames a) ≡ Some f → ((l : LockName) → owns (st.book.owner l) a ≡ 0) → Sound m Fits (on_book (restarted a) (with_frames a f st))
  unfolding restarted
  anew_sound keeps a f w st h may fits is none =
      let v = record (local_state st a) { next = Runs; frames = f } in
      record {
        orderly = orderly-anew a f (On h.worker) st h.on h.orderly;
        each = each_sits m Fits st.store st.book.owner (local_state st) _ a v (local_state-anew a f st)
            (local_state_along (Sits m Fits st.store st.book.owner a) _ _ _ _ f _ (sym h.on) refl refl
            (record { regions = λ l. ap (times l) (keeps.anew st.store w (st.frames a) f may fits is) ∙ omega (arith, none l); fits = keeps.fits.anew st.store w (st.frames a) f may fits is }))
            h.others;
        served = λ x l at. h.served x l (entrant_before (local_state st) (local_state (on_book (restarted a) (with_frames a f st))) a v (local_state-anew a f st) (λ k z. absurd (let y = sym h.on ∙ z in cc y)) x l at);
      }

  finish_sound : KeepsRegions m Fits → (a : ℕ) (few : Bool) (o : Option F) (w : Did) (st : State S F) → Here a st → MayTrap w → Fits st.store w (st.frames a) → m.anew (st.frames a) ≡ o → ((l : LockName) → owns (st.book.owner l) a ≡ 0) → Sound m Fits (finish a few o st)
  finish_sound keeps a true (Some f) w st h may fits is none = anew_sound keeps a f w st h may fits is none
  finish_sound keeps a true None w st h may fits is none = ended_sound a st h none
  finish_sound keeps a false o w st h may fits is none = ended_sound a st h none

  turn_sound : KeepsRegions m Fits → (a : ℕ) (n : Next) (st : State S F) → Sound m Fits st → (v : ℕ) → place_of st.book.line a ≡ Some (On v) → (st.book.activity a).next ≡ n → Sound m Fits (turn_by m a n st)
  turn_sound keeps a Runs st sound v on is =
      serve_sound keeps a (m.turn st.store (st.frames a)).left _ (turned_turning keeps a st sound v on is)
  turn_sound keeps a (WillTrap n) st sound v on is =
      let sits = sits_on a (WillTrap n) st sound v on is in
      trap_sound a n 0 sits.fits.0 st (here_on a st sound v on) (λ l. omega (arith, sits.regions l)) sits.fits.1.0 sits.fits.1.1
  turn_sound keeps a (Unwinds (l ∷ locks)) st sound v on is =
      let sits = sits_on a (Unwinds (l ∷ locks)) st sound v on is in
      unwinds keeps a l locks st (here_on a st sound v on) (record { regions = sits.regions; fits = sits.fits })
  turn_sound keeps a (Unwinds []) st sound v on is =
      let sits = sits_on a (Unwinds []) st sound v on is in
      finish_sound keeps a _ (m.anew (st.frames a)) sits.fits.0 st (here_on a st sound v on) sits.fits.1.0 sits.fits.1.1 refl (λ l. omega (arith, sits.regions l))
  turn_sound keeps a Gone st sound v on is = sound

  awake_free : (l : LockName) (p : RunState) → is_at_lock p ≡ false → waits_in l (Some p) ≡ 0
  awake_free l (On v) e = refl
  awake_free l (Ready v) e = refl
  awake_free l (At k w) e = absurd (cc e)

  -- from a worker to a queue, or the other way
  moved : (a : ℕ) (p q : RunState) (st : State S F) → Sound m Fits st → place_of st.book.line a ≡ Some p → is_at_lock p ≡ false → is_at_lock q ≡ false → Sound m Fits (on_book (stands a q) st)
  unfolding stands
  moved a p q st sound at hp hq =
      let n = (st.book.activity a).next in
      let v = record (local_state st a) { place = Some q } in
      let e = local_state-stands a q st.book.events st in
      let s = local_state_along (Sits m Fits st.store st.book.owner a) _ _ _ _ (st.frames a) _ at refl refl (sound.each a) in
      record {
        orderly = orderly-stands a q p st.book.events st at (awake_agrees n q (live_there st sound.orderly a p at) hq) sound.orderly;
        each = each_sits m Fits st.store st.book.owner (local_state st) _ a v e
            (record { regions = λ l. s.regions l ∙ ap (λ z. owns (st.book.owner l) a + z) (awake_free l p hp ∙ sym (awake_free l q hq)); fits = work_elsewhere (λ k. Outside m k (st.frames a)) (λ w. Fits st.store w (st.frames a)) n p q hp hq s.fits })
            (λ x ne. sound.each x);
        served = λ x l is. sound.served x l (entrant_before (local_state st) (local_state (on_book (stands a q) st)) a v e (λ k z. absurd (let y : q ≡ At k Entry = cc z in let r = sym hq ∙ ap is_at_lock y in cc r)) x l is);
      }

  dispatch_sound : (w : ℕ) (o : Option ℕ) (st : State S F) → Sound m Fits st → first_ready st.book.line ≡ o → Sound m Fits (dispatch w o st)
  dispatch_sound w None st sound is = sound
  dispatch_sound w (Some a) st sound is = let r = found_ready st.book.line a sound.orderly.once is in moved a (Ready r.0) (On w) st sound r.1 refl refl

  step_sound : KeepsRegions m Fits → (w : ℕ) (o : Option ℕ) (st : State S F) → Sound m Fits st → on_worker w st.book.line ≡ o → Sound m Fits (step_of m w o st)
  step_sound keeps w None st sound is = dispatch_sound w (first_ready st.book.line) st sound refl
  step_sound keeps w (Some a) st sound is = let r = found_on st.book.line w a sound.orderly.once is in turn_sound keeps a _ st sound r.0 r.1 refl

  tick_sound : (w : ℕ) (o : Option ℕ) (st : State S F) → Sound m Fits st → on_worker w st.book.line ≡ o → Sound m Fits (tick_of o st)
  unfolding ready stands
  tick_sound w None st sound is = sound
  tick_sound w (Some a) st sound is = let r = found_on st.book.line w a sound.orderly.once is in moved a (On r.0) (Ready (st.book.activity a).priority) st sound r.1 refl refl

  happens_in_sound : KeepsRegions m Fits → (c : Choice) (st : State S F) → Sound m Fits st → Sound m Fits (happens_in m c st)
  happens_in_sound keeps (Step w) st sound = step_sound keeps w (on_worker w st.book.line) st sound refl
  happens_in_sound keeps (Tick w) st sound = tick_sound w (on_worker w st.book.line) st sound refl

  pub happens_sound : KeepsRegions m Fits → (c : Choice) (st : State S F) → Sound m Fits st → Sound m Fits (happens m c st)
  unfolding happens
  happens_sound keeps c st sound =
      elim (outcome st.book) as (λ o. Sound m Fits (if_going o (happens_in m c st) st)) [
        | outcome_is.Going ↦ happens_in_sound keeps c st sound
        | outcome_is.Ended ↦ sound
        | outcome_is.Dead ↦ sound
        | outcome_is.Spent ↦ sound
      ]

  pub execution_sound : KeepsRegions m Fits → (cs : List Choice) (st : State S F) → Sound m Fits st → Sound m Fits (execution m cs st)
  execution_sound keeps [] st sound = sound
  execution_sound keeps (c ∷ cs) st sound = execution_sound keeps cs (happens m c st) (happens_sound keeps c st sound)

  -- whoever asks for a lock that it doesn't own is in no region of it
  pub sound_admits : KeepsRegions m Fits → (st : State S F) → Sound m Fits st → Admits m (Outside m) st
  sound_admits keeps st sound a l asks =
      let sits = sits_on a Runs st sound asks.worker asks.on asks.runs in
      ap (times l) (keeps.turn st.store (st.frames a) sits.fits) ∙ omega (arith, sits.regions l, owns_not (st.book.owner l) a asks.owner)

  pub sound_always : KeepsRegions m Fits → (st : State S F) → Sound m Fits st → AlwaysAdmits m (Outside m) st
  sound_always keeps st sound cs = sound_admits keeps (execution m cs st) (execution_sound keeps cs st sound)
