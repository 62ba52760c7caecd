-- Between a release and its heir's turn nobody touches the heir, its lock or what the lock guards.
use Rattle.std.proofs.Common.{◌≡◌, ℕ, ◌<◌, List, [], ◌∷◌, ◌++◌, Bool, true, false, refl, sym, ◌∙◌, ap, subst, arith, inl, inr, ◌≢◌}
use Rattle.std.specs.Prelude.{if◌then◌else◌, nat_eq, Option, Some, None}
use Rattle.aos_base.specs.declared.kernel.LockName.{LockName}
use Rattle.aos_base.specs.declared.kernel.Verdict.{Verdict}
use Rattle.aos_base.specs.declared.kernel.Verdict.TheVariants.{Holds, Fails, Traps}
use Rattle.aos_base.specs.declared.kernel.Did.{Did}
use Rattle.aos_base.specs.declared.kernel.Did.TheVariants.{Went, Ended, Enter, Leave, Await, Start, Trapped}
use Rattle.aos_base.specs.declared.kernel.Event.{Event}
use Rattle.aos_base.specs.declared.kernel.Event.TheVariants as event
use Rattle.aos_base.specs.declared.kernel.Outcome.TheVariants as outcome_is
use Rattle.aos_base.specs.Lock.{is_lock, Wants, Entry, Condition, Heir, Nobody, Entrant, Waiter, Trapping, heir}
use Rattle.aos_base.specs.Book.{RunState, On, Ready, At, Next, Runs, WillTrap, Unwinds, Gone, put, place_of, is_at_lock, waiting, tell, stands, ready, next_is, owned_by, counted, trapped, ended, restarted, born, on_worker, first_ready, is_full, outcome}
use Rattle.aos_base.specs.Machine.{Choice, Step, Tick, Machine, State, on_book, with_frames, go_past, pass, release, trap, enter, await, start, serve, turned, finish, turn_by, dispatch, step_of, tick_of, happens_in, if_going, happens, execution}
use Rattle.aos_concurrency.specs.LocalState.{LocalState, local_state}
use Rattle.aos_concurrency.specs.Orderly.{Distinct}
use Rattle.aos_concurrency.specs.Regions.{times, Outside, KeepsRegions}
use Rattle.aos_concurrency.specs.Sound.{owns, waits_in, Sits, Sound}
use Rattle.aos_concurrency.specs.Traps.{turn_of}
use Rattle.aos_concurrency.specs.Acting.{acts, acting}
use Rattle.aos_concurrency.specs.Handover.{GuardsBy, OfOthers, HandsOver}
use Rattle.aos_concurrency.proofs.Tables.{number, lock, put_same, put_other}
use Rattle.aos_concurrency.proofs.Lines.{StandsAs, heir_stands, found_on, found_ready, distinct-move}
use Rattle.aos_concurrency.proofs.LocalStates.{local_state-stands, local_state-next, local_state-ended, local_state-anew, local_state-born, local_state-past, local_state-trap, local_state-turned, local_state-heir, local_state-trapping, not_started, runs_there}
use Rattle.aos_concurrency.proofs.Works.{at_local_state, runs_at}
use Rattle.aos_concurrency.proofs.Release.{owns_self, owns_other}
use Rattle.aos_concurrency.proofs.Steps.{Turning, turned_turning, sits_on, head_within, happens_sound, sound_admits}
use Rattle.aos_concurrency.proofs.Itself.{sound_fitting}
use Rattle.aos_concurrency.proofs.Changes.{happens_tidy}

-- nobody stands twice, still
once_past : {S F : Type 0} (m : Machine S F) (b : ℕ) (st : State S F) → Distinct st.book.line → Distinct (go_past m b st).book.line
unfolding go_past
once_past m b st d = d

once_stands : {S F : Type 0} (b : ℕ) (p : RunState) (e : List Event) (st : State S F) → Distinct st.book.line → Distinct (on_book (λ k. stands b p (record k { events = e })) st).book.line
unfolding stands
once_stands b p e st d = distinct-move b p st.book.line d

once_next : {S F : Type 0} (b : ℕ) (n : Next) (st : State S F) → Distinct st.book.line → Distinct (on_book (next_is b n) st).book.line
unfolding next_is
once_next b n st d = d

module _ {S F : Type 0} (m : Machine S F) (Fits : S → Did → F → Type 0) (a : ℕ) (l : LockName) where
  -- nothing of the activity a, the owner of l and the store has changed
  record Same (st st' : State S F) : Type 0 where
    local_state : local_state st' a ≡ local_state st a
    owner : st'.book.owner l ≡ st.book.owner l
    store : st'.store ≡ st.store

  both : (x y z : State S F) → Same x y → Same y z → Same x z
  both x y z p q = record { local_state = q.local_state ∙ p.local_state; owner = q.owner ∙ p.owner; store = q.store ∙ p.store }

  none : (st : State S F) → Same st st
  none st = record { local_state = refl; owner = refl; store = refl }

  -- another's local state has changed
  other : (st : State S F) (y : ℕ → LocalState F) (b : ℕ) (v : LocalState F) → ((x : ℕ) → y x ≡ put nat_eq (local_state st) b v x) → a ≢ b → y a ≡ local_state st a
  other st y b v e ne = e a ∙ put_other number (local_state st) b v a ne

  trap_of : (b n c : ℕ) (st : State S F) → a ≢ b → Same st (trap m b n c st)
  unfolding trap trapped next_is
  trap_of b n c st ne = record { local_state = other st _ b _ (local_state-trap m b n c st) ne; owner = refl; store = refl }

  past_of : (b : ℕ) (st : State S F) → a ≢ b → Same st (go_past m b st)
  unfolding go_past
  past_of b st ne = record { local_state = other st _ b _ (local_state-past m b st.book.owner st.book.events st) ne; owner = refl; store = refl }

  stands_of : (b : ℕ) (p : RunState) (e : List Event) (st : State S F) → a ≢ b → Same st (on_book (λ k. stands b p (record k { events = e })) st)
  unfolding stands
  stands_of b p e st ne = record { local_state = other st _ b _ (local_state-stands b p e st) ne; owner = refl; store = refl }

  next_of : (b : ℕ) (n : Next) (st : State S F) → a ≢ b → Same st (on_book (next_is b n) st)
  unfolding next_is
  next_of b n st ne = record { local_state = other st _ b _ (local_state-next b n st) ne; owner = refl; store = refl }

  owned_of : (k : LockName) (o : Option ℕ) (e : List Event) (st : State S F) → l ≢ k → Same st (on_book (λ b. owned_by k o (record b { events = e })) st)
  unfolding owned_by
  owned_of k o e st ne = record { local_state = refl; owner = put_other lock st.book.owner k o l ne; store = refl }

  ended_of : (b : ℕ) (st : State S F) → a ≢ b → Same st (on_book (ended b) st)
  unfolding ended next_is
  ended_of b st ne = record { local_state = other st _ b _ (local_state-ended b st) ne; owner = refl; store = refl }

  anew_of : (b : ℕ) (f : F) (st : State S F) → a ≢ b → Same st (on_book (restarted b) (with_frames b f st))
  unfolding restarted
  anew_of b f st ne = record { local_state = other st _ b _ (local_state-anew b f st) ne; owner = refl; store = refl }

  born_of : (p o : ℕ) (st : State S F) → a ≢ st.book.started → Same st (on_book (born p) (with_frames st.book.started (m.body st.store o) st))
  unfolding born
  born_of p o st ne = record { local_state = other st _ st.book.started _ (local_state-born p (m.body st.store o) st) ne; owner = refl; store = refl }

  -- an heir stands in its lock's list, so it is not a
  not_heir : (st : State S F) (p : RunState) → place_of st.book.line a ≡ Some p → is_at_lock p ≡ false → (x : ℕ) (k : LockName) (w : Wants) → place_of st.book.line x ≡ Some (At k w) → a ≢ x
  not_heir st p at awake x k w is e =
      let z = sym at ∙ ap (place_of st.book.line) e ∙ is in let y : p ≡ At k w = cc z in let q = sym awake ∙ ap is_at_lock y in absurd (cc q)

  pass_of : (judge : ℕ → ℕ → Verdict) (b : ℕ) (k : LockName) (h : Heir) (st : State S F) (p : RunState) → place_of st.book.line a ≡ Some p → is_at_lock p ≡ false → l ≢ k → StandsAs judge k st.book.line h → Same st (pass m b k h st)
  unfolding ready owned_by next_is go_past
  pass_of judge b k Nobody st p at awake ne stand = record { local_state = refl; owner = refl; store = refl }
  pass_of judge b k (Entrant x) st p at awake ne stand = record { local_state = other st _ x _ (local_state-heir m x k (event.Pass k b x false) st) (not_heir st p at awake x k Entry stand); owner = put_other lock st.book.owner k (Some x) l ne; store = refl }
  pass_of judge b k (Waiter x) st p at awake ne stand = record { local_state = other st _ x _ (local_state-heir m x k (event.Pass k b x true) st) (not_heir st p at awake x k (Condition stand.0) stand.1); owner = put_other lock st.book.owner k (Some x) l ne; store = refl }
  pass_of judge b k (Trapping x n) st p at awake ne stand = record { local_state = other st _ x _ (local_state-trapping m x n k (event.Pass k b x true) st) (not_heir st p at awake x k (Condition stand.0) stand.1); owner = put_other lock st.book.owner k (Some x) l ne; store = refl }

  release_of : (b : ℕ) (k : LockName) (st : State S F) (p : RunState) → Distinct st.book.line → place_of st.book.line a ≡ Some p → is_at_lock p ≡ false → l ≢ k → Same st (release m b k st)
  unfolding release owned_by
  release_of b k st p once at awake ne =
      let judge = λ (x c : ℕ). m.verdict st.store (st.frames x) c in
      let q = pass_of judge b k (heir judge (waiting k st.book.line)) (on_book (owned_by k None) st) p at awake ne (heir_stands judge k st.book.line once) in
      record { local_state = q.local_state; owner = q.owner ∙ put_other lock st.book.owner k None l ne; store = q.store }

  enter_of : (b : ℕ) (k : LockName) (o : Option ℕ) (st : State S F) → a ≢ b → st.book.owner k ≡ o → st.book.owner l ≡ Some a → Same st (enter m b k o st)
  unfolding owned_by
  enter_of b k None st ne is mine =
      let far : l ≢ k = λ e. let z = sym mine ∙ ap st.book.owner e ∙ is in absurd (cc z) in
      let first = on_book (λ x. owned_by k (Some b) (tell (event.Enter k b) x)) st in
      both st first _ (owned_of k (Some b) (st.book.events ++ event.Enter k b ∷ []) st far) (past_of b first ne)
  enter_of b k (Some x) st ne is mine =
      elim (nat_eq x b) as (λ q. Same st (if q then trap m b 9 0 st else on_book (λ y. stands b (At k Entry) (tell (event.Wait k b false) y)) st)) [
        | true ↦ trap_of b 9 0 st ne
        | false ↦ stands_of b (At k Entry) (st.book.events ++ event.Wait k b false ∷ []) st ne
      ]

  -- the lock of another's release is another than l
  far_from : (b : ℕ) (k : LockName) (w : Did) (st : State S F) → Turning m Fits w b st → a ≢ b → st.book.owner l ≡ Some a → 0 < times k (m.regions (st.frames b)) → l ≢ k
  far_from b k w st t ne mine within e =
      absurd (omega (arith, within, t.regions k, ap (λ x. owns (st.book.owner x) b) (sym e) ∙ ap (λ o. owns o b) mine ∙ owns_other a b (λ h. ne (sym h))))

  serve_of : KeepsRegions m Fits → (b : ℕ) (w : Did) (st : State S F) (p : RunState) → Turning m Fits w b st → a ≢ b → place_of st.book.line a ≡ Some p → is_at_lock p ≡ false → (st.book.activity a).next ≡ Runs → st.book.owner l ≡ Some a → Same st (serve m b w st)
  serve_of keeps b Went st p t ne at awake runs mine = none st
  serve_of keeps b Ended st p t ne at awake runs mine = ended_of b st ne
  serve_of keeps b (Enter k) st p t ne at awake runs mine = enter_of b k (st.book.owner k) st ne refl mine
  serve_of keeps b (Leave k) st p t ne at awake runs mine =
      let first = go_past m b st in
      let s = past_of b st ne in
      let within = subst (λ ks. 0 < times k ks) (sym (keeps.passes st.store (Leave k) (st.frames b) t.fits)) (head_within k (m.regions (m.past (st.frames b)))) in
      both st first _ s (release_of b k first p (once_past m b st t.here.orderly.once) (ap (λ (y : LocalState F). y.place) s.local_state ∙ at) awake (far_from b k (Leave k) st t ne mine within))
  serve_of keeps b (Await k c) st p t ne at awake runs mine =
      elim (m.verdict st.store (st.frames b) c) as (λ v. Same st (await m b k c v st)) [
        | Holds ↦ past_of b st ne
        | Traps n ↦ trap_of b n 0 st ne
        | Fails ↦
            let first = on_book (λ x. stands b (At k (Condition c)) (tell (event.Wait k b true) x)) st in
            let e = st.book.events ++ event.Wait k b true ∷ [] in
            let s : Same st first = stands_of b (At k (Condition c)) e st ne in
            both st first _ s (release_of b k first p (once_stands b (At k (Condition c)) e st t.here.orderly.once) (ap (λ (y : LocalState F). y.place) s.local_state ∙ at) awake (far_from b k (Await k c) st t ne mine (keeps.passes st.store (Await k c) (st.frames b) t.fits).1))
      ]
  serve_of keeps b (Start o) st p t ne at awake runs mine =
      elim (is_full st.book) as (λ q. Same st (start m b o q st)) [
        | true ↦ trap_of b 13 0 st ne
        | false ↦
            let first = on_book (born (m.priority st.store o)) (with_frames st.book.started (m.body st.store o) st) in
            both st first _ (born_of (m.priority st.store o) o st (not_started st t.here.orderly a (λ e. let z = sym runs ∙ e in absurd (cc z)))) (past_of b first ne)
      ]
  serve_of keeps b (Trapped n c) st p t ne at awake runs mine = trap_of b n c st ne

  finish_of : (b : ℕ) (few : Bool) (o : Option F) (st : State S F) → a ≢ b → Same st (finish b few o st)
  finish_of b true (Some f) st ne = anew_of b f st ne
  finish_of b true None st ne = ended_of b st ne
  finish_of b false o st ne = ended_of b st ne

module _ {S F : Type 0} (m : Machine S F) (Fits : S → Did → F → Type 0) (Tidy : S → (ℕ → Option F) → Type 0) (Agree : LockName → S → S → Type 0) (IsLocal : LockName → ℕ → Type 0) where
  -- the lock is the activity's, which has yet to make a turn of its own; the store agrees with s on what it guards
  record Holding (a : ℕ) (l : LockName) (s : S) (f : F) (st : State S F) : Type 0 where
    owner : st.book.owner l ≡ Some a
    place : RunState
    local_state : local_state st a ≡ at_local_state (Some place) Runs f
    awake : is_at_lock place ≡ false
    store : Agree l s st.store

  held : (a : ℕ) (l : LockName) (s : S) (f : F) (st st' : State S F) → Holding a l s f st → Same m Fits a l st st' → Holding a l s f st'
  held a l s f st st' h q = record {
    owner = q.owner ∙ h.owner;
    place = h.place;
    local_state = q.local_state ∙ h.local_state;
    awake = h.awake;
    store = subst (Agree l s) (sym q.store) h.store;
  }

  awake_free : (l : LockName) (p : RunState) → is_at_lock p ≡ false → waits_in l (Some p) ≡ 0
  awake_free l (On v) e = refl
  awake_free l (Ready v) e = refl
  awake_free l (At k w) e = absurd (cc e)

  -- it is in a region of the lock
  within : (a : ℕ) (l : LockName) (s : S) (f : F) (st : State S F) → Sound m Fits st → Holding a l s f st → 0 < times l (m.regions f)
  within a l s f st sound h =
      let sits = (subst (Sits m Fits st.store st.book.owner a) h.local_state (sound.each a)) in
      omega (arith, sits.regions l, awake_free l h.place h.awake, ap (λ o. owns o a) h.owner ∙ owns_self a)

  -- the own part of another's turn
  turned_held : KeepsRegions m Fits → GuardsBy m Fits Tidy Agree IsLocal → (a : ℕ) (l : LockName) (b : ℕ) (s : S) (f : F) (st : State S F) → Sound m Fits st → Tidy st.store (acting m st) → Holding a l s f st → a ≢ b → (v : ℕ) → place_of st.book.line b ≡ Some (On v) → (st.book.activity b).next ≡ Runs → Holding a l s f (turned m b (m.turn st.store (st.frames b)) st)
  unfolding turned counted
  turned_held keeps guards a l b s f st sound tidy h ne v on runs =
      let t = m.turn st.store (st.frames b) in
      let sits = sits_on m Fits b Runs st sound v on runs in
      let out : times l (m.regions (st.frames b)) ≡ 0 = omega (arith, sits.regions l, ap (λ o. owns o b) h.owner ∙ owns_other a b (λ e. ne (sym e))) in
      record {
        owner = h.owner;
        place = h.place;
        local_state = local_state-turned m b t st a ∙ put_other number (local_state st) b (record (local_state st b) { frames = t.frames }) a ne ∙ h.local_state;
        awake = h.awake;
        store = guards.then_ l s st.store _ h.store (guards.outside st.store (acting m st) l a b f (st.frames b) tidy ne (ap (λ (y : LocalState F). acts m y.next y.frames) h.local_state) (within a l s f st sound h) (ap (λ n. acts m n (st.frames b)) runs) sits.fits out);
      }

  turn_held : KeepsRegions m Fits → GuardsBy m Fits Tidy Agree IsLocal → (a : ℕ) (l : LockName) (b : ℕ) (n : Next) (s : S) (f : F) (st : State S F) → Sound m Fits st → Tidy st.store (acting m st) → Holding a l s f st → a ≢ b → (v : ℕ) → place_of st.book.line b ≡ Some (On v) → (st.book.activity b).next ≡ n → Holding a l s f (turn_by m b n st)
  turn_held keeps guards a l b Runs s f st sound tidy h ne v on is =
      let t = turned_turning m Fits keeps b st sound v on is in
      let k = turned_held keeps guards a l b s f st sound tidy h ne v on is in
      held a l s f _ _ k (serve_of m Fits a l keeps b _ _ k.place t ne (ap (λ (y : LocalState F). y.place) k.local_state) k.awake (ap (λ (y : LocalState F). y.next) k.local_state) k.owner)
  turn_held keeps guards a l b (WillTrap n) s f st sound tidy h ne v on is = held a l s f st _ h (trap_of m Fits a l b n 0 st ne)
  turn_held keeps guards a l b (Unwinds (k ∷ locks)) s f st sound tidy h ne v on is =
      let sits = sits_on m Fits b (Unwinds (k ∷ locks)) st sound v on is in
      let far : l ≢ k = λ e. absurd (omega (arith, head_within k locks, sits.regions k, ap (λ x. owns (st.book.owner x) b) (sym e) ∙ ap (λ o. owns o b) h.owner ∙ owns_other a b (λ q. ne (sym q)))) in
      let first = on_book (next_is b (Unwinds locks)) st in
      let q = next_of m Fits a l b (Unwinds locks) st ne in
      held a l s f st _ h (both m Fits a l st first _ q (release_of m Fits a l b k first h.place (once_next b (Unwinds locks) st sound.orderly.once) (ap (λ (y : LocalState F). y.place) (q.local_state ∙ h.local_state)) h.awake far))
  turn_held keeps guards a l b (Unwinds []) s f st sound tidy h ne v on is = held a l s f st _ h (finish_of m Fits a l b _ _ st ne)
  turn_held keeps guards a l b Gone s f st sound tidy h ne v on is = h

  -- a goes to or from a worker, or another does
  moves : (a : ℕ) (l : LockName) (b : ℕ) (p : RunState) (s : S) (f : F) (st : State S F) → is_at_lock p ≡ false → Holding a l s f st → Holding a l s f (on_book (stands b p) st)
  unfolding stands
  moves a l b p s f st awake h =
      let e = local_state-stands b p st.book.events st in
      elim (number a b) [
        | inl i ↦ record {
          owner = h.owner;
          place = p;
          local_state = e a ∙ ap (λ x. put nat_eq (local_state st) x (record (local_state st x) { place = Some p }) a) (sym i.1) ∙ put_same number (local_state st) a (record (local_state st a) { place = Some p }) ∙ ap (λ (y : LocalState F). at_local_state (Some p) y.next y.frames) h.local_state;
          awake = awake;
          store = h.store;
        }
        | inr i ↦ held a l s f st _ h (stands_of m Fits a l b p st.book.events st i.1)
      ]

  step_held : KeepsRegions m Fits → GuardsBy m Fits Tidy Agree IsLocal → (a : ℕ) (l : LockName) (w : ℕ) (o : Option ℕ) (s : S) (f : F) (st : State S F) → Sound m Fits st → Tidy st.store (acting m st) → Holding a l s f st → on_worker w st.book.line ≡ o → o ≢ Some a → Holding a l s f (step_of m w o st)
  step_held keeps guards a l w None s f st sound tidy h is far =
      elim (first_ready st.book.line) as (λ o. Holding a l s f (dispatch w o st)) [
        | None ↦ h
        | Some b ↦ moves a l b (On w) s f st refl h
      ]
  step_held keeps guards a l w (Some b) s f st sound tidy h is far =
      let r = found_on st.book.line w b sound.orderly.once is in
      turn_held keeps guards a l b (st.book.activity b).next s f st sound tidy h (λ e. far (ap (λ (x : ℕ). Some x) (sym e))) r.0 r.1 refl

  tick_held : (a : ℕ) (l : LockName) (o : Option ℕ) (s : S) (f : F) (st : State S F) → Holding a l s f st → Holding a l s f (tick_of o st)
  unfolding ready stands
  tick_held a l None s f st h = h
  tick_held a l (Some b) s f st h = moves a l b (Ready (st.book.activity b).priority) s f st refl h

  happens_in_held : KeepsRegions m Fits → GuardsBy m Fits Tidy Agree IsLocal → (a : ℕ) (l : LockName) (c : Choice) (s : S) (f : F) (st : State S F) → Sound m Fits st → Tidy st.store (acting m st) → Holding a l s f st → turn_of c st.book ≢ Some a → Holding a l s f (happens_in m c st)
  happens_in_held keeps guards a l (Step w) s f st sound tidy h far = step_held keeps guards a l w (on_worker w st.book.line) s f st sound tidy h refl far
  happens_in_held keeps guards a l (Tick w) s f st sound tidy h far = tick_held a l (on_worker w st.book.line) s f st h

  happens_held : KeepsRegions m Fits → GuardsBy m Fits Tidy Agree IsLocal → (a : ℕ) (l : LockName) (c : Choice) (s : S) (f : F) (st : State S F) → Sound m Fits st → Tidy st.store (acting m st) → Holding a l s f st → turn_of c st.book ≢ Some a → Holding a l s f (happens m c st)
  unfolding happens
  happens_held keeps guards a l c s f st sound tidy h far =
      elim (outcome st.book) as (λ o. Holding a l s f (if_going o (happens_in m c st) st)) [
        | outcome_is.Going ↦ happens_in_held keeps guards a l c s f st sound tidy h far
        | outcome_is.Ended ↦ h
        | outcome_is.Dead ↦ h
        | outcome_is.Spent ↦ h
      ]

  tidy_still : KeepsRegions m Fits → GuardsBy m Fits Tidy Agree IsLocal → (c : Choice) (st : State S F) → Sound m Fits st → Tidy st.store (acting m st) → Tidy (happens m c st).store (acting m (happens m c st))
  tidy_still keeps guards c st sound tidy = happens_tidy m (Outside m) Fits keeps.fits Tidy guards.tidy c st (sound_admits m Fits keeps st sound) (sound_fitting m Fits st sound) tidy

  held_on : KeepsRegions m Fits → GuardsBy m Fits Tidy Agree IsLocal → (a : ℕ) (l : LockName) (s : S) (f : F) (cs : List Choice) (st : State S F) → Sound m Fits st → Tidy st.store (acting m st) → Holding a l s f st → OfOthers m a cs st → Holding a l s f (execution m cs st)
  held_on keeps guards a l s f [] st sound tidy h others = h
  held_on keeps guards a l s f (c ∷ cs) st sound tidy h others =
      held_on keeps guards a l s f cs (happens m c st) (happens_sound m Fits keeps c st sound) (tidy_still keeps guards c st sound tidy) (happens_held keeps guards a l c s f st sound tidy h others.0) others.1

  -- The release itself

  -- it waits for the condition
  record Still (a : ℕ) (l : LockName) (c : ℕ) (f : F) (st : State S F) : Type 0 where
    local_state : local_state st a ≡ at_local_state (Some (At l (Condition c))) Runs f
    fits : Fits st.store (Await l c) f

  record Got (a : ℕ) (l : LockName) (c : ℕ) (f : F) (st : State S F) : Type 0 where
    holding : Holding a l st.store (m.past f) st
    holds : m.verdict st.store f c ≡ Holds
    fits : Fits st.store (Await l c) f

  -- it waits on, has got the lock, or will trap
  data After (a : ℕ) (l : LockName) (c : ℕ) (f : F) (st : State S F) : Type 0 where
    waits_on : Still a l c f st → After a l c f st
    got : Got a l c f st → After a l c f st
    traps : (n : ℕ) → (st.book.activity a).next ≡ WillTrap n → After a l c f st

  still : (a : ℕ) (l : LockName) (c : ℕ) (k : LockName) (f : F) (st st' : State S F) → Still a l c f st → Same m Fits a k st st' → Still a l c f st'
  still a l c k f st st' h q = record { local_state = q.local_state ∙ h.local_state; fits = subst (λ x. Fits x (Await l c) f) (sym q.store) h.fits }

  pass_still : GuardsBy m Fits Tidy Agree IsLocal → (a : ℕ) (l : LockName) (c b : ℕ) (k : LockName) (f : F) (h : Heir) (st : State S F) → Still a l c f st → StandsAs (λ x d. m.verdict st.store (st.frames x) d) k st.book.line h → After a l c f (pass m b k h st)
  unfolding ready owned_by next_is go_past
  pass_still guards a l c b k f Nobody st s stand = waits_on (record { local_state = s.local_state; fits = s.fits })
  pass_still guards a l c b k f (Entrant x) st s stand =
      waits_on (record {
        local_state = other m Fits a l st _ x _ (local_state-heir m x k (event.Pass k b x false) st)
            (λ e. let z = sym (ap (λ (y : LocalState F). y.place) s.local_state) ∙ ap (place_of st.book.line) e ∙ stand in absurd (cc z)) ∙ s.local_state;
        fits = s.fits;
      })
  pass_still guards a l c b k f (Waiter x) st s stand =
      elim (number a x) [
        | inr e ↦ waits_on (record { local_state = other m Fits a l st _ x _ (local_state-heir m x k (event.Pass k b x true) st) e.1 ∙ s.local_state; fits = s.fits })
        | inl e ↦
            let place = Ready (st.book.activity x).priority in
            let here = sym (ap (λ (y : LocalState F). y.place) s.local_state) ∙ ap (place_of st.book.line) e.1 ∙ stand.1 in
            let lk : l ≡ k = cc here in
            let dk : c ≡ stand.0 = cc here in
            let own = ap (λ (y : LocalState F). y.frames) s.local_state in
            let v = record (local_state st x) { place = Some place; frames = m.past (st.frames x) } in
            got (record {
              holding = record {
                owner = ap (put is_lock st.book.owner k (Some x)) lk ∙ put_same lock st.book.owner k (Some x) ∙ ap (λ (y : ℕ). Some y) (sym e.1);
                place = place;
                local_state = local_state-heir m x k (event.Pass k b x true) st a ∙ ap (put nat_eq (local_state st) x v) e.1 ∙ put_same number (local_state st) x v
                    ∙ ap (λ z. at_local_state (Some place) (st.book.activity z).next (m.past (st.frames z))) (sym e.1) ∙ ap (λ (y : LocalState F). at_local_state (Some place) y.next (m.past y.frames)) s.local_state;
                awake = refl;
                store = guards.same l st.store;
              };
              holds = ap (λ g. m.verdict st.store g c) (sym own) ∙ (λ i. m.verdict st.store (st.frames (e.1 i)) (dk i)) ∙ stand.2;
              fits = s.fits;
            })
      ]
  pass_still guards a l c b k f (Trapping x n) st s stand =
      let v = record (local_state st x) { place = Some (Ready (st.book.activity x).priority); next = WillTrap n } in
      elim (number a x) [
        | inr e ↦ waits_on (record { local_state = other m Fits a l st _ x _ (local_state-trapping m x n k (event.Pass k b x true) st) e.1 ∙ s.local_state; fits = s.fits })
        | inl e ↦ traps n (ap (λ (y : LocalState F). y.next) (local_state-trapping m x n k (event.Pass k b x true) st a ∙ ap (put nat_eq (local_state st) x v) e.1 ∙ put_same number (local_state st) x v))
      ]

  release_still : GuardsBy m Fits Tidy Agree IsLocal → (a : ℕ) (l : LockName) (c b : ℕ) (k : LockName) (f : F) (st : State S F) → Distinct st.book.line → Still a l c f st → After a l c f (release m b k st)
  unfolding release owned_by
  release_still guards a l c b k f st once s =
      let judge = λ (x d : ℕ). m.verdict st.store (st.frames x) d in
      pass_still guards a l c b k f (heir judge (waiting k st.book.line)) (on_book (owned_by k None) st) (record { local_state = s.local_state; fits = s.fits }) (heir_stands judge k st.book.line once)

  enter_still : (a : ℕ) (l : LockName) (c b : ℕ) (k : LockName) (o : Option ℕ) (f : F) (st : State S F) → a ≢ b → Still a l c f st → After a l c f (enter m b k o st)
  unfolding owned_by go_past
  enter_still a l c b k None f st ne s =
      waits_on (record { local_state = other m Fits a l st _ b _ (local_state-past m b (owned_by k (Some b) st.book).owner (st.book.events ++ event.Enter k b ∷ []) st) ne ∙ s.local_state; fits = s.fits })
  enter_still a l c b k (Some x) f st ne s =
      elim (nat_eq x b) as (λ q. After a l c f (if q then trap m b 9 0 st else on_book (λ y. stands b (At k Entry) (tell (event.Wait k b false) y)) st)) [
        | true ↦ waits_on (still a l c l f st _ s (trap_of m Fits a l b 9 0 st ne))
        | false ↦ waits_on (still a l c l f st _ s (stands_of m Fits a l b (At k Entry) (st.book.events ++ event.Wait k b false ∷ []) st ne))
      ]

  serve_still : GuardsBy m Fits Tidy Agree IsLocal → (a : ℕ) (l : LockName) (c b : ℕ) (w : Did) (f : F) (st : State S F) → Turning m Fits w b st → a ≢ b → Still a l c f st → After a l c f (serve m b w st)
  serve_still guards a l c b Went f st t ne s = waits_on s
  serve_still guards a l c b Ended f st t ne s = waits_on (still a l c l f st _ s (ended_of m Fits a l b st ne))
  serve_still guards a l c b (Enter k) f st t ne s = enter_still a l c b k (st.book.owner k) f st ne s
  serve_still guards a l c b (Leave k) f st t ne s =
      release_still guards a l c b k f (go_past m b st) (once_past m b st t.here.orderly.once) (still a l c l f st _ s (past_of m Fits a l b st ne))
  serve_still guards a l c b (Await k d) f st t ne s =
      let e = st.book.events ++ event.Wait k b true ∷ [] in
      elim (m.verdict st.store (st.frames b) d) as (λ v. After a l c f (await m b k d v st)) [
        | Holds ↦ waits_on (still a l c l f st _ s (past_of m Fits a l b st ne))
        | Traps n ↦ waits_on (still a l c l f st _ s (trap_of m Fits a l b n 0 st ne))
        | Fails ↦ release_still guards a l c b k f (on_book (λ x. stands b (At k (Condition d)) (tell (event.Wait k b true) x)) st) (once_stands b (At k (Condition d)) e st t.here.orderly.once) (still a l c l f st _ s (stands_of m Fits a l b (At k (Condition d)) e st ne))
      ]
  serve_still guards a l c b (Start o) f st t ne s =
      elim (is_full st.book) as (λ q. After a l c f (start m b o q st)) [
        | true ↦ waits_on (still a l c l f st _ s (trap_of m Fits a l b 13 0 st ne))
        | false ↦
            let first = on_book (born (m.priority st.store o)) (with_frames st.book.started (m.body st.store o) st) in
            let fresh = not_started st t.here.orderly a (λ e. let z = sym (ap (λ (y : LocalState F). y.next) s.local_state) ∙ e in absurd (cc z)) in
            waits_on (still a l c l f first _ (still a l c l f st first s (born_of m Fits a l (m.priority st.store o) o st fresh)) (past_of m Fits a l b first ne))
      ]
  serve_still guards a l c b (Trapped n d) f st t ne s = waits_on (still a l c l f st _ s (trap_of m Fits a l b n d st ne))

  turned_still : KeepsRegions m Fits → (a : ℕ) (l : LockName) (c b : ℕ) (f : F) (st : State S F) → Sound m Fits st → Still a l c f st → a ≢ b → (v : ℕ) → place_of st.book.line b ≡ Some (On v) → (st.book.activity b).next ≡ Runs → Still a l c f (turned m b (m.turn st.store (st.frames b)) st)
  unfolding turned
  turned_still keeps a l c b f st sound s ne v on is =
      let t = m.turn st.store (st.frames b) in
      record {
        local_state = local_state-turned m b t st a ∙ put_other number (local_state st) b (record (local_state st b) { frames = t.frames }) a ne ∙ s.local_state;
        fits = keeps.fits.kept st.store (st.frames b) (let z = sits_on m Fits b Runs st sound v on is in z.fits) (Await l c) f s.fits;
      }

  turn_still : KeepsRegions m Fits → GuardsBy m Fits Tidy Agree IsLocal → (a : ℕ) (l : LockName) (c b : ℕ) (n : Next) (f : F) (st : State S F) → Sound m Fits st → Still a l c f st → a ≢ b → (v : ℕ) → place_of st.book.line b ≡ Some (On v) → (st.book.activity b).next ≡ n → After a l c f (turn_by m b n st)
  turn_still keeps guards a l c b Runs f st sound s ne v on is =
      serve_still guards a l c b _ f _ (turned_turning m Fits keeps b st sound v on is) ne (turned_still keeps a l c b f st sound s ne v on is)
  turn_still keeps guards a l c b (WillTrap n) f st sound s ne v on is = waits_on (still a l c l f st _ s (trap_of m Fits a l b n 0 st ne))
  turn_still keeps guards a l c b (Unwinds (k ∷ locks)) f st sound s ne v on is =
      release_still guards a l c b k f (on_book (next_is b (Unwinds locks)) st) (once_next b (Unwinds locks) st sound.orderly.once) (still a l c l f st _ s (next_of m Fits a l b (Unwinds locks) st ne))
  turn_still keeps guards a l c b (Unwinds []) f st sound s ne v on is = waits_on (still a l c l f st _ s (finish_of m Fits a l b _ _ st ne))
  turn_still keeps guards a l c b Gone f st sound s ne v on is = waits_on s

  -- a waiter is on no worker and in no queue
  elsewhere : (a : ℕ) (l : LockName) (c b : ℕ) (p : RunState) (f : F) (st : State S F) → Still a l c f st → is_at_lock p ≡ false → place_of st.book.line b ≡ Some p → a ≢ b
  elsewhere a l c b p f st s awake at e =
      let z = sym at ∙ ap (place_of st.book.line) (sym e) ∙ ap (λ (y : LocalState F). y.place) s.local_state in let y : p ≡ At l (Condition c) = cc z in let q = sym awake ∙ ap is_at_lock y in absurd (cc q)

  step_still : KeepsRegions m Fits → GuardsBy m Fits Tidy Agree IsLocal → (a : ℕ) (l : LockName) (c w : ℕ) (o : Option ℕ) (f : F) (st : State S F) → Sound m Fits st → Still a l c f st → on_worker w st.book.line ≡ o → After a l c f (step_of m w o st)
  step_still keeps guards a l c w (Some b) f st sound s is =
      let r = found_on st.book.line w b sound.orderly.once is in
      turn_still keeps guards a l c b (st.book.activity b).next f st sound s (elsewhere a l c b (On r.0) f st s refl r.1) r.0 r.1 refl
  step_still keeps guards a l c w None f st sound s is =
      (elim (first_ready st.book.line) as (λ o. first_ready st.book.line ≡ o → After a l c f (dispatch w o st)) [
        | None ↦ λ _. waits_on s
        | Some b ↦ λ e. let r = found_ready st.book.line b sound.orderly.once e in waits_on (still a l c l f st _ s (stands_of m Fits a l b (On w) st.book.events st (elsewhere a l c b (Ready r.0) f st s refl r.1)))
      ]) refl

  tick_still : (a : ℕ) (l : LockName) (c w : ℕ) (o : Option ℕ) (f : F) (st : State S F) → Sound m Fits st → Still a l c f st → on_worker w st.book.line ≡ o → After a l c f (tick_of o st)
  unfolding ready stands
  tick_still a l c w None f st sound s is = waits_on s
  tick_still a l c w (Some b) f st sound s is =
      let r = found_on st.book.line w b sound.orderly.once is in
      let p = Ready (st.book.activity b).priority in
      waits_on (record { local_state = other m Fits a l st _ b _ (local_state-stands b p st.book.events st) (elsewhere a l c b (On r.0) f st s refl r.1) ∙ s.local_state; fits = s.fits })

  happens_in_still : KeepsRegions m Fits → GuardsBy m Fits Tidy Agree IsLocal → (a : ℕ) (l : LockName) (c : ℕ) (e : Choice) (f : F) (st : State S F) → Sound m Fits st → Still a l c f st → After a l c f (happens_in m e st)
  happens_in_still keeps guards a l c (Step w) f st sound s = step_still keeps guards a l c w _ f st sound s refl
  happens_in_still keeps guards a l c (Tick w) f st sound s = tick_still a l c w _ f st sound s refl

  happens_still : KeepsRegions m Fits → GuardsBy m Fits Tidy Agree IsLocal → (a : ℕ) (l : LockName) (c : ℕ) (e : Choice) (f : F) (st : State S F) → Sound m Fits st → Still a l c f st → After a l c f (happens m e st)
  unfolding happens
  happens_still keeps guards a l c e f st sound s =
      elim (outcome st.book) as (λ o. After a l c f (if_going o (happens_in m e st) st)) [
        | outcome_is.Going ↦ happens_in_still keeps guards a l c e f st sound s
        | outcome_is.Ended ↦ waits_on s
        | outcome_is.Dead ↦ waits_on s
        | outcome_is.Spent ↦ waits_on s
      ]

  pub hands_over : KeepsRegions m Fits → GuardsBy m Fits Tidy Agree IsLocal → (st : State S F) (entry : Choice) (a : ℕ) (l : LockName) (c : ℕ) (cs : List Choice) → Sound m Fits st → Tidy st.store (acting m st) → HandsOver m IsLocal st entry a l c cs
  hands_over keeps guards st entry a l c cs sound tidy given others =
      let runs = runs_there st sound.orderly a l (Condition c) given.waited in
      let fits = runs_at (λ k. Outside m k (st.frames a)) (λ w. Fits st.store w (st.frames a)) _ _ (At l (Condition c)) runs given.waited (let s = sound.each a in s.fits) in
      let start : Still a l c (st.frames a) st = record { local_state = (λ i. at_local_state (given.waited i) (runs i) (st.frames a)); fits = fits } in
      elim (happens_still keeps guards a l c entry (st.frames a) st sound start) [
        | waits_on s ↦ absurd (let z = sym given.stands ∙ ap (λ (y : LocalState F). y.place) s.local_state in let y : given.place ≡ At l (Condition c) = cc z in let q = sym given.awake ∙ ap is_at_lock y in cc q)
        | traps n t ↦ absurd (let z = sym given.runs ∙ t in cc z)
        | got g ↦
            let h = held_on keeps guards a l _ _ cs (happens m entry st) (happens_sound m Fits keeps entry st sound) (tidy_still keeps guards entry st sound tidy) g.holding others in
            record {
              owner = h.owner;
              frames = ap (λ (y : LocalState F). y.frames) h.local_state;
              condition = λ local. sym (guards.reads l c _ _ (st.frames a) g.fits local h.store) ∙ g.holds;
            }
      ]
