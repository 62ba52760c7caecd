-- Two machines that make the same turns have the same executions.
use Rattle.std.proofs.Common.{◌≡◌, ℕ, zero, suc, List, [], ◌∷◌, ◌++◌, Bool, true, false, refl, sym, ◌∙◌, ap, subst, not, ◌≢◌}
use Rattle.std.specs.Prelude.{if◌then◌else◌, nat_eq, Option, Some, None, is_some}
use Rattle.aos_base.specs.declared.kernel.LockName.{LockName}
use Rattle.aos_base.specs.declared.kernel.Verdict.{Verdict}
use Rattle.aos_base.specs.declared.kernel.Verdict.TheVariants.{Holds, Fails, Traps}
use Rattle.aos_base.specs.declared.kernel.Did.{Did}
use Rattle.aos_base.specs.declared.kernel.Did.TheVariants.{Went, Ended, Enter, Leave, Await, Start, Trapped}
use Rattle.aos_base.specs.declared.kernel.Event.{Event}
use Rattle.aos_base.specs.declared.kernel.Event.TheVariants as event
use Rattle.aos_base.specs.declared.kernel.Outcome.TheVariants as outcome_is
use Rattle.aos_base.specs.Lock.{Wants, Entry, Condition, Heir, Nobody, Entrant, Waiter, Trapping, heir, enters}
use Rattle.aos_base.specs.Book.{RunState, On, Ready, At, Next, Runs, WillTrap, Unwinds, Gone, Book, put, place_of, is_at_lock, waiting, tell, stands, ready, next_is, owned_by, counted, trapped, ended, restarted, born, on_worker, first_ready, is_full, outcome}
use Rattle.aos_base.specs.Machine.{Choice, Step, Tick, Turn, Machine, State, start_of, on_book, go_past, pass, release, trap, enter, await, start, serve, turned, finish, turn_by, dispatch, step_of, tick_of, happens_in, if_going, happens, execution}
use Rattle.aos_base.specs.Observation.{status_of, waits_if, spent_if, wait_row, waits_below, observation}
use Rattle.aos_concurrency.specs.LocalState.{LocalState, local_state, before, GoesPast, MayTrap, AtRunState, AtWork}
use Rattle.aos_concurrency.specs.Orderly.{Agrees, Orderly}
use Rattle.aos_concurrency.specs.Admits.{Admits, AlwaysAdmits}
use Rattle.aos_concurrency.specs.Simulates.{SameAnew, Simulates, Matches}
use Rattle.aos_concurrency.proofs.Tables.{number, by_case, put_same, put_other, put_back}
use Rattle.aos_concurrency.proofs.Lines.{StandsAs, heir_stands, heir_same, found_on, found_ready}
use Rattle.aos_concurrency.proofs.LocalStates.{local_state-stands, local_state-next, local_state-ended, local_state-anew, local_state-born, local_state-past, local_state-trap, local_state-turned, local_state-heir, local_state-trapping, orderly-stands, orderly-next, orderly-ended, orderly-anew, orderly-born, orderly-past, orderly-trap, orderly-turned, orderly-heir, orderly-trapping, live_there, runs_there, not_started, awake_agrees}
use Rattle.aos_concurrency.proofs.Works.{at_rest, work_elsewhere, runs_at, admitted_at, work_along, work_map}
use Rattle.aos_concurrency.proofs.Begin.{each_start, orderly_start}

-- a state of these parts
abbrev one : {S F : Type 0} → S → (ℕ → F) → Book → State S F
one s f b = record { store = s; frames = f; book = b }

module _ {S F T G : Type 0} (Stores : S → T → Type 0) (Frames : S → T → Did → F → G → Type 0) (Admitted : LockName → F → Type 0) (m : Machine S F) (n : Machine T G) (sim : Simulates Stores Frames Admitted m n) where
  -- an activity of one machine's, and its frames in the other's
  abbrev Same : S → T → LocalState F → G → Type 0
  Same s t x g = AtWork (λ l. Admitted l x.frames) (λ w. Frames s t w x.frames g) x.next x.place

  each_same : (s : S) (t : T) (x y : ℕ → LocalState F) (g h : ℕ → G) (a : ℕ) (v : LocalState F) (k : G) → ((z : ℕ) → y z ≡ put nat_eq x a v z) → ((z : ℕ) → h z ≡ put nat_eq g a k z) → Same s t v k → ((z : ℕ) → z ≢ a → Same s t (x z) (g z)) → (z : ℕ) → Same s t (y z) (h z)
  each_same s t x y g h a v k ey eh here other z =
      subst (λ u. Same s t u (h z)) (sym (ey z)) (subst (λ u. Same s t (put nat_eq x a v z) u) (sym (eh z))
      (by_case number (λ q. Same s t (if q then v else x z) (if q then k else g z)) z a (λ _. here) (λ ne. other z ne)))

  -- related parts under one book
  record Pair (s : S) (t : T) (f : ℕ → F) (g : ℕ → G) (b : Book) : Type 0 where
    stores : Stores s t
    orderly : Orderly (one s f b)
    frames : (a : ℕ) → Same s t (local_state (one s f b) a) (g a)

  -- the same, while a turn has left this work to the kernel
  record Turning (w : Did) (a : ℕ) (s : S) (t : T) (f : ℕ → F) (g : ℕ → G) (b : Book) : Type 0 where
    stores : Stores s t
    orderly : Orderly (one s f b)
    others : (x : ℕ) → x ≢ a → Same s t (local_state (one s f b) x) (g x)
    mine : Frames s t w (f a) (g a)
    worker : ℕ
    on : place_of b.line a ≡ Some (On worker)

  same_book : (s : S) (t : T) (f : ℕ → F) (g : ℕ → G) (b : Book) → Pair s t f g b → Matches Stores Frames Admitted (one s f b) (one t g b)
  same_book s t f g b p = record { book = refl; stores = p.stores; orderly = p.orderly; frames = p.frames }

  to_pair : (st : State S F) (tu : State T G) → Matches Stores Frames Admitted st tu → Pair st.store tu.store st.frames tu.frames st.book
  to_pair st tu h = record { stores = h.stores; orderly = h.orderly; frames = h.frames }

  -- what holds under one book holds of states that match
  aligned : (P : State T G → Type 0) (st : State S F) (tu : State T G) → Matches Stores Frames Admitted st tu → P (one tu.store tu.frames st.book) → P tu
  aligned P st tu h p = subst (λ b. P (one tu.store tu.frames b)) h.book p

  heir_same_past : (b : ℕ) (l k : LockName) (w : Wants) (e : Event) (s : S) (t : T) (f : ℕ → F) (g : ℕ → G) (c : Book) → GoesPast Admitted (before (At k w)) (f b) → Pair s t f g c → place_of c.line b ≡ Some (At k w)
      → Matches Stores Frames Admitted (go_past m b (on_book (λ x. ready b (owned_by l (Some b) (tell e x))) (one s f c))) (go_past n b (on_book (λ x. ready b (owned_by l (Some b) (tell e x))) (one t g c)))
  unfolding ready owned_by go_past
  heir_same_past b l k w e s t f g c goes p at =
      let r = Ready (c.activity b).priority in
      let runs = runs_there (one s f c) p.orderly b k w at in
      record {
        book = refl;
        stores = p.stores;
        orderly = orderly-heir m b l k w e (one s f c) at p.orderly;
        frames = each_same s t (local_state (one s f c)) _ g _ b (record (local_state (one s f c) b) { place = Some r; frames = m.past (f b) }) (n.past (g b)) (local_state-heir m b l e (one s f c)) (λ z. refl)
            (at_rest (λ l. Admitted l (m.past (f b))) (λ w. Frames s t w (m.past (f b)) (n.past (g b))) (c.activity b).next r refl runs
            (sim.past s t (before (At k w)) (f b) (g b) goes p.stores (runs_at (λ l. Admitted l (f b)) (λ w. Frames s t w (f b) (g b)) _ _ (At k w) runs at (p.frames b))))
            (λ z _. p.frames z);
      }

  pass_same : (verdict : ℕ → ℕ → Verdict) (a : ℕ) (l : LockName) (h : Heir) (s : S) (t : T) (f : ℕ → F) (g : ℕ → G) (c : Book) → Pair s t f g c → StandsAs verdict l c.line h → Matches Stores Frames Admitted (pass m a l h (one s f c)) (pass n a l h (one t g c))
  unfolding ready next_is owned_by
  pass_same verdict a l Nobody s t f g c p stand = let o = p.orderly in record { book = refl; stores = p.stores; orderly = record { once = o.once; agrees = o.agrees; unborn = o.unborn }; frames = p.frames }
  pass_same verdict a l (Entrant b) s t f g c p stand =
      heir_same_past b l l Entry (event.Pass l a b false) s t f g c
      (admitted_at (λ k. Admitted k (f b)) (λ w. Frames s t w (f b) (g b)) _ _ l (runs_there (one s f c) p.orderly b l Entry stand) stand (p.frames b)) p stand
  pass_same verdict a l (Waiter b) s t f g c p stand = heir_same_past b l l (Condition stand.0) (event.Pass l a b true) s t f g c tt p stand.1
  pass_same verdict a l (Trapping b k) s t f g c p stand =
      let r = Ready (c.activity b).priority in
      let w = Condition stand.0 in
      let runs = runs_there (one s f c) p.orderly b l w stand.1 in
      let e = event.Pass l a b true in
      record {
        book = refl;
        stores = p.stores;
        orderly = orderly-trapping m b k l l w e (one s f c) stand.1 p.orderly;
        frames = each_same s t (local_state (one s f c)) _ g _ b (record (local_state (one s f c) b) { place = Some r; next = WillTrap k }) (g b) (local_state-trapping m b k l e (one s f c)) (put_back number g b)
            (Await l stand.0, (tt, runs_at (λ l. Admitted l (f b)) (λ w. Frames s t w (f b) (g b)) _ _ (At l w) runs stand.1 (p.frames b)))
            (λ z _. p.frames z);
      }

  release_same : (a : ℕ) (l : LockName) (s : S) (t : T) (f : ℕ → F) (g : ℕ → G) (c : Book) → Pair s t f g c → Matches Stores Frames Admitted (release m a l (one s f c)) (release n a l (one t g c))
  unfolding release owned_by
  release_same a l s t f g c p =
      let o = p.orderly in
      let judge = λ (x d : ℕ). m.verdict s (f x) d in
      let judge' = λ (x d : ℕ). n.verdict t (g x) d in
      let c' = owned_by l None c in
      subst (λ h. Matches Stores Frames Admitted (pass m a l (heir judge (waiting l c.line)) (one s f c')) (pass n a l h (one t g c')))
      (heir_same judge judge' l c.line o.once (λ x d at. sim.verdict s t l d (f x) (g x) p.stores (runs_at (λ l. Admitted l (f x)) (λ w. Frames s t w (f x) (g x)) _ _ (At l (Condition d)) (runs_there (one s f c) o x l (Condition d) at) at (p.frames x))))
      (pass_same judge a l (heir judge (waiting l c.line)) s t f g c' (record { stores = p.stores; orderly = record { once = o.once; agrees = o.agrees; unborn = o.unborn }; frames = p.frames }) (heir_stands judge l c.line o.once))

  some_same : (s : S) (t : T) (o : Option F) (o' : Option G) → SameAnew Stores Frames s t o o' → is_some o ≡ is_some o'
  some_same s t None None h = refl
  some_same s t (Some f) (Some g) h = refl
  some_same s t None (Some g) h = absurd h
  some_same s t (Some f) None h = absurd h

  trap_same : (w : Did) (a k d : ℕ) (s : S) (t : T) (f : ℕ → F) (g : ℕ → G) (c : Book) → MayTrap w → Turning w a s t f g c → Matches Stores Frames Admitted (trap m a k d (one s f c)) (trap n a k d (one t g c))
  unfolding trap trapped next_is
  trap_same w a k d s t f g c may h =
      record {
        book = λ i. trapped a k d (sim.position s t w (f a) (g a) may h.stores h.mine i) (sim.regions s t w (f a) (g a) may h.stores h.mine i) (some_same s t _ _ (sim.anew s t w (f a) (g a) may h.stores h.mine) i) c;
        stores = h.stores;
        orderly = orderly-trap m a k d (On h.worker) (one s f c) h.on refl h.orderly;
        frames = each_same s t (local_state (one s f c)) _ g _ a (record (local_state (one s f c) a) { next = Unwinds (m.regions (f a)) }) (g a) (local_state-trap m a k d (one s f c)) (put_back number g a) (w, (may, h.mine)) h.others;
      }

  ended_same : (w : Did) (a : ℕ) (s : S) (t : T) (f : ℕ → F) (g : ℕ → G) (c : Book) → Turning w a s t f g c → Matches Stores Frames Admitted (on_book (ended a) (one s f c)) (on_book (ended a) (one t g c))
  unfolding ended next_is
  ended_same w a s t f g c h =
      record {
        book = refl;
        stores = h.stores;
        orderly = orderly-ended a (On h.worker) (one s f c) h.on h.orderly;
        frames = each_same s t (local_state (one s f c)) _ g _ a (record (local_state (one s f c) a) { place = None; next = Gone }) (g a) (local_state-ended a (one s f c)) (put_back number g a) tt h.others;
      }

  live_here : (w : Did) (a : ℕ) (s : S) (t : T) (f : ℕ → F) (g : ℕ → G) (c : Book) → Turning w a s t f g c → (c.activity a).next ≢ Gone
  live_here w a s t f g c h = live_there (one s f c) h.orderly a (On h.worker) h.on

  -- one that runs, past the work
  past_pair : (w : Did) (a : ℕ) (s : S) (t : T) (f : ℕ → F) (g : ℕ → G) (c : Book) → GoesPast Admitted w (f a) → (c.activity a).next ≡ Runs → Turning w a s t f g c → Pair s t (put nat_eq f a (m.past (f a))) (put nat_eq g a (n.past (g a))) c
  unfolding go_past
  past_pair w a s t f g c goes runs h = record {
    stores = h.stores;
    orderly = orderly-past m a c.owner c.events (one s f c) h.orderly;
    frames = each_same s t (local_state (one s f c)) _ g _ a (record (local_state (one s f c) a) { frames = m.past (f a) }) (n.past (g a)) (local_state-past m a c.owner c.events (one s f c)) (λ z. refl)
        (work_along (λ l. Admitted l (m.past (f a))) (λ w. Frames s t w (m.past (f a)) (n.past (g a))) _ _ _ _ (sym runs) (sym h.on) (sim.past s t w (f a) (g a) goes h.stores h.mine)) h.others;
  }

  -- to a lock's list, before the work of that place
  joins : (w : Did) (a : ℕ) (l : LockName) (wants : Wants) (e : List Event) (s : S) (t : T) (f : ℕ → F) (g : ℕ → G) (c : Book) → (c.activity a).next ≡ Runs → Turning w a s t f g c → AtRunState (λ k. Admitted k (f a)) (λ w. Frames s t w (f a) (g a)) (At l wants)
      → Pair s t f g (stands a (At l wants) (record c { events = e }))
  unfolding stands
  joins w a l wants e s t f g c runs h there =
      let r = At l wants in
      record {
        stores = h.stores;
        orderly = orderly-stands a r (On h.worker) e (one s f c) h.on (subst (λ k. Agrees k (Some r)) (sym runs) tt) h.orderly;
        frames = each_same s t (local_state (one s f c)) _ g _ a (record (local_state (one s f c) a) { place = Some r }) (g a) (local_state-stands a r e (one s f c)) (put_back number g a)
            (work_along (λ l. Admitted l (f a)) (λ w. Frames s t w (f a) (g a)) _ _ _ _ (sym runs) refl there) h.others;
      }

  enter_same : (a : ℕ) (l : LockName) (o : Option ℕ) (s : S) (t : T) (f : ℕ → F) (g : ℕ → G) (c : Book) → (o ≢ Some a → Admitted l (f a)) → (c.activity a).next ≡ Runs → Turning (Enter l) a s t f g c → Matches Stores Frames Admitted (enter m a l o (one s f c)) (enter n a l o (one t g c))
  unfolding go_past owned_by
  enter_same a l None s t f g c admitted runs h =
      let p = past_pair (Enter l) a s t f g c (admitted (λ e. absurd (cc e))) runs h in
      let o = p.orderly in
      record { book = refl; stores = p.stores; orderly = record { once = o.once; agrees = o.agrees; unborn = o.unborn }; frames = p.frames }
  enter_same a l (Some x) s t f g c admitted runs h =
      by_case number (λ q. Matches Stores Frames Admitted (if q then trap m a 9 0 (one s f c) else on_book (λ k. stands a (At l Entry) (tell (event.Wait l a false) k)) (one s f c)) (if q then trap n a 9 0 (one t g c) else on_book (λ k. stands a (At l Entry) (tell (event.Wait l a false) k)) (one t g c))) x a
      (λ _. trap_same (Enter l) a 9 0 s t f g c tt h)
      (λ ne. same_book s t f g _ (joins (Enter l) a l Entry (c.events ++ event.Wait l a false ∷ []) s t f g c runs h (admitted (λ e. ne (cc e)), h.mine)))

  await_same : (a : ℕ) (l : LockName) (d : ℕ) (v : Verdict) (s : S) (t : T) (f : ℕ → F) (g : ℕ → G) (c : Book) → (c.activity a).next ≡ Runs → Turning (Await l d) a s t f g c → Matches Stores Frames Admitted (await m a l d v (one s f c)) (await n a l d v (one t g c))
  unfolding go_past
  await_same a l d Holds s t f g c runs h = same_book s t _ _ c (past_pair (Await l d) a s t f g c tt runs h)
  await_same a l d (Traps k) s t f g c runs h = trap_same (Await l d) a k 0 s t f g c tt h
  await_same a l d Fails s t f g c runs h = release_same a l s t f g _ (joins (Await l d) a l (Condition d) (c.events ++ event.Wait l a true ∷ []) s t f g c runs h h.mine)

  born_turning : (a o p : ℕ) (s : S) (t : T) (f : ℕ → F) (g : ℕ → G) (c : Book) → Turning (Start o) a s t f g c → Turning (Start o) a s t (put nat_eq f c.started (m.body s o)) (put nat_eq g c.started (n.body t o)) (born p c)
  unfolding born
  born_turning a o p s t f g c h =
      let k = c.started in
      let v : LocalState F = record { place = Some (Ready p); next = Runs; frames = m.body s o } in
      let ne : a ≢ k = not_started (one s f c) h.orderly a (live_here (Start o) a s t f g c h) in
      let e = local_state-born p (m.body s o) (one s f c) in
      record {
        stores = h.stores;
        orderly = orderly-born p (m.body s o) (one s f c) h.orderly;
        others = λ x na. subst (λ u. Same s t u (put nat_eq g k (n.body t o) x)) (sym (e x))
            (by_case number (λ q. Same s t (if q then v else local_state (one s f c) x) (if q then n.body t o else g x)) x k (λ _. sim.body s t o (f a) (g a) h.stores h.mine) (λ _. h.others x na));
        mine = subst (λ x. Frames s t (Start o) x (put nat_eq g k (n.body t o) a)) (sym (put_other number f k _ a ne)) (subst (Frames s t (Start o) (f a)) (sym (put_other number g k _ a ne)) h.mine);
        worker = h.worker;
        on = ap (λ (y : LocalState F). y.place) (e a ∙ put_other number (local_state (one s f c)) k v a ne) ∙ h.on;
      }

  born_runs : (a o p : ℕ) (s : S) (t : T) (f : ℕ → F) (g : ℕ → G) (c : Book) → (c.activity a).next ≡ Runs → Turning (Start o) a s t f g c → ((born p c).activity a).next ≡ Runs
  unfolding born
  born_runs a o p s t f g c runs h =
      let v : LocalState F = record { place = Some (Ready p); next = Runs; frames = m.body s o } in
      let ne : a ≢ c.started = not_started (one s f c) h.orderly a (live_here (Start o) a s t f g c h) in
      ap (λ (y : LocalState F). y.next) (local_state-born p (m.body s o) (one s f c) a ∙ put_other number (local_state (one s f c)) c.started v a ne) ∙ runs

  passes : (a : ℕ) (s : S) (t : T) (f : ℕ → F) (g : ℕ → G) (c : Book) → Pair s t (put nat_eq f a (m.past (f a))) (put nat_eq g a (n.past (g a))) c → Matches Stores Frames Admitted (go_past m a (one s f c)) (go_past n a (one t g c))
  unfolding go_past
  passes a s t f g c p = record { book = refl; stores = p.stores; orderly = p.orderly; frames = p.frames }

  start_same : (a o : ℕ) (full : Bool) (s : S) (t : T) (f : ℕ → F) (g : ℕ → G) (c : Book) → (c.activity a).next ≡ Runs → Turning (Start o) a s t f g c → Matches Stores Frames Admitted (start m a o full (one s f c)) (start n a o full (one t g c))
  start_same a o true s t f g c runs h = trap_same (Start o) a 13 0 s t f g c tt h
  start_same a o false s t f g c runs h =
      subst (λ p. Matches Stores Frames Admitted (start m a o false (one s f c)) (go_past n a (one t (put nat_eq g c.started (n.body t o)) (born p c)))) (sim.priority s t o (f a) (g a) h.stores h.mine)
      (passes a s t _ _ _ (past_pair (Start o) a s t _ _ (born (m.priority s o) c) tt (born_runs a o (m.priority s o) s t f g c runs h) (born_turning a o (m.priority s o) s t f g c h)))

  serve_same : (a : ℕ) (w : Did) (s : S) (t : T) (f : ℕ → F) (g : ℕ → G) (c : Book) → ((l : LockName) → w ≡ Enter l → c.owner l ≢ Some a → Admitted l (f a)) → (c.activity a).next ≡ Runs → Turning w a s t f g c → Matches Stores Frames Admitted (serve m a w (one s f c)) (serve n a w (one t g c))
  unfolding go_past
  serve_same a Went s t f g c asked runs h = record {
    book = refl;
    stores = h.stores;
    orderly = h.orderly;
    frames = each_same s t (local_state (one s f c)) _ g _ a (local_state (one s f c) a) (g a) (put_back number (local_state (one s f c)) a) (put_back number g a)
        (work_along (λ l. Admitted l (f a)) (λ w. Frames s t w (f a) (g a)) _ _ _ _ (sym runs) (sym h.on) h.mine) h.others;
  }
  serve_same a Ended s t f g c asked runs h = ended_same Ended a s t f g c h
  serve_same a (Enter l) s t f g c asked runs h = enter_same a l (c.owner l) s t f g c (asked l refl) runs h
  serve_same a (Leave l) s t f g c asked runs h = release_same a l s t _ _ c (past_pair (Leave l) a s t f g c tt runs h)
  serve_same a (Await l d) s t f g c asked runs h =
      subst (λ v. Matches Stores Frames Admitted (await m a l d (m.verdict s (f a) d) (one s f c)) (await n a l d v (one t g c))) (sim.verdict s t l d (f a) (g a) h.stores h.mine) (await_same a l d (m.verdict s (f a) d) s t f g c runs h)
  serve_same a (Start o) s t f g c asked runs h = start_same a o (is_full c) s t f g c runs h
  serve_same a (Trapped k d) s t f g c asked runs h = trap_same (Trapped k d) a k d s t f g c tt h

  turned_turning : (a : ℕ) (s : S) (t : T) (f : ℕ → F) (g : ℕ → G) (c : Book) → Pair s t f g c → (v : ℕ) → place_of c.line a ≡ Some (On v) → Frames s t Went (f a) (g a)
      → Turning (m.turn s (f a)).left a (m.turn s (f a)).store (n.turn t (g a)).store (put nat_eq f a (m.turn s (f a)).frames) (put nat_eq g a (n.turn t (g a)).frames) (counted a (m.turn s (f a)).output (m.turn s (f a)).begun c)
  unfolding turned counted
  turned_turning a s t f g c p v on rest =
      let x = m.turn s (f a) in
      let y = n.turn t (g a) in
      let same = sim.turn s t (f a) (g a) p.stores rest in
      let u = record (local_state (one s f c) a) { frames = x.frames } in
      let e = local_state-turned m a x (one s f c) in
      record {
        stores = same.stores;
        orderly = orderly-turned m a x (On v) (one s f c) on p.orderly;
        others = λ z ne. subst (λ q. Same x.store y.store q (put nat_eq g a y.frames z)) (sym (e z ∙ put_other number (local_state (one s f c)) a u z ne)) (subst (λ q. Same x.store y.store (local_state (one s f c) z) q) (sym (put_other number g a y.frames z ne))
            (work_map (λ l. Admitted l (f z)) (λ w. Frames s t w (f z) (g z)) (λ w. Frames x.store y.store w (f z) (g z)) (λ w h. sim.kept s t (f a) (g a) p.stores rest w (f z) (g z) h) _ _ (p.frames z)));
        mine = subst (λ q. Frames x.store y.store x.left q (put nat_eq g a y.frames a)) (sym (put_same number f a x.frames)) (subst (Frames x.store y.store x.left x.frames) (sym (put_same number g a y.frames)) same.frames);
        worker = v;
        on = on;
      }

  counted_runs : (a : ℕ) (x : Turn S F) (s : S) (f : ℕ → F) (c : Book) → (c.activity a).next ≡ Runs → ((counted a x.output x.begun c).activity a).next ≡ Runs
  unfolding turned counted
  counted_runs a x s f c runs =
      ap (λ (y : LocalState F). y.next) (local_state-turned m a x (one s f c) a ∙ put_same number (local_state (one s f c)) a (record (local_state (one s f c) a) { frames = x.frames })) ∙ runs

  -- the whole turn of one that runs
  run_same : (a : ℕ) (s : S) (t : T) (f : ℕ → F) (g : ℕ → G) (c : Book) → Admits m Admitted (one s f c) → Pair s t f g c → (v : ℕ) → place_of c.line a ≡ Some (On v) → (c.activity a).next ≡ Runs → Frames s t Went (f a) (g a)
      → Matches Stores Frames Admitted (serve m a (m.turn s (f a)).left (turned m a (m.turn s (f a)) (one s f c))) (serve n a (n.turn t (g a)).left (turned n a (n.turn t (g a)) (one t g c)))
  unfolding turned counted
  run_same a s t f g c admits p v on runs rest =
      let x = m.turn s (f a) in
      let y = n.turn t (g a) in
      let same = sim.turn s t (f a) (g a) p.stores rest in
      let c' = counted a x.output x.begun c in
      subst (λ w. Matches Stores Frames Admitted (serve m a x.left (one x.store (put nat_eq f a x.frames) c')) (serve n a w (one y.store (put nat_eq g a y.frames) (counted a y.output y.begun c)))) same.left
      (subst (λ d. Matches Stores Frames Admitted (serve m a x.left (one x.store (put nat_eq f a x.frames) c')) (serve n a x.left (one y.store (put nat_eq g a y.frames) d))) (λ i. counted a (same.output i) (same.begun i) c)
      (serve_same a x.left x.store y.store (put nat_eq f a x.frames) (put nat_eq g a y.frames) c'
      (λ l is other. subst (Admitted l) (sym (put_same number f a x.frames)) (admits a l (record { worker = v; on = on; runs = runs; left = is; owner = other })))
      (counted_runs a x s f c runs) (turned_turning a s t f g c p v on rest)))

  finish_same : (w : Did) (a : ℕ) (few : Bool) (o : Option F) (o' : Option G) (s : S) (t : T) (f : ℕ → F) (g : ℕ → G) (c : Book) → Turning w a s t f g c → SameAnew Stores Frames s t o o' → Matches Stores Frames Admitted (finish a few o (one s f c)) (finish a few o' (one t g c))
  unfolding restarted
  finish_same w a false o o' s t f g c h same = ended_same w a s t f g c h
  finish_same w a true None None s t f g c h same = ended_same w a s t f g c h
  finish_same w a true None (Some g') s t f g c h same = absurd same
  finish_same w a true (Some f') None s t f g c h same = absurd same
  finish_same w a true (Some f') (Some g') s t f g c h same =
      record {
        book = refl;
        stores = h.stores;
        orderly = orderly-anew a f' (On h.worker) (one s f c) h.on h.orderly;
        frames = each_same s t (local_state (one s f c)) _ g _ a (record (local_state (one s f c) a) { next = Runs; frames = f' }) g' (local_state-anew a f' (one s f c)) (λ z. refl)
            (work_along (λ l. Admitted l f') (λ w. Frames s t w f' g') Runs Runs _ _ refl (sym h.on) same) h.others;
      }

  -- an activity on a worker, whose frames stand before some work
  turning_at : (w : Did) (a : ℕ) (s : S) (t : T) (f : ℕ → F) (g : ℕ → G) (c : Book) → Pair s t f g c → (v : ℕ) → place_of c.line a ≡ Some (On v) → Frames s t w (f a) (g a) → Turning w a s t f g c
  turning_at w a s t f g c p v on h = record { stores = p.stores; orderly = p.orderly; others = (λ x _. p.frames x); mine = h; worker = v; on = on }

  unwind_same : (a : ℕ) (l : LockName) (locks : List LockName) (s : S) (t : T) (f : ℕ → F) (g : ℕ → G) (c : Book) → Pair s t f g c → (v : ℕ) → place_of c.line a ≡ Some (On v) → (c.activity a).next ≡ Unwinds (l ∷ locks) → Pair s t f g (next_is a (Unwinds locks) c)
  unfolding next_is
  unwind_same a l locks s t f g c p v on is =
      record {
        stores = p.stores;
        orderly = orderly-next a (Unwinds locks) (On v) (one s f c) on refl (λ e. absurd (cc e)) p.orderly;
        frames = each_same s t (local_state (one s f c)) _ g _ a (record (local_state (one s f c) a) { next = Unwinds locks }) (g a) (local_state-next a (Unwinds locks) (one s f c)) (put_back number g a)
            (work_along (λ l. Admitted l (f a)) (λ w. Frames s t w (f a) (g a)) _ (Unwinds (l ∷ locks)) _ _ is on (p.frames a)) (λ z _. p.frames z);
      }

  turn_same : (a : ℕ) (k : Next) (s : S) (t : T) (f : ℕ → F) (g : ℕ → G) (c : Book) → Admits m Admitted (one s f c) → Pair s t f g c → (v : ℕ) → place_of c.line a ≡ Some (On v) → (c.activity a).next ≡ k → Matches Stores Frames Admitted (turn_by m a k (one s f c)) (turn_by n a k (one t g c))
  turn_same a Runs s t f g c admits p v on is = run_same a s t f g c admits p v on is (runs_at (λ l. Admitted l (f a)) (λ w. Frames s t w (f a) (g a)) _ _ (On v) is on (p.frames a))
  turn_same a (WillTrap j) s t f g c admits p v on is =
      let h = work_along (λ l. Admitted l (f a)) (λ w. Frames s t w (f a) (g a)) _ (WillTrap j) _ _ is on (p.frames a) in
      trap_same h.0 a j 0 s t f g c h.1.0 (turning_at h.0 a s t f g c p v on h.1.1)
  turn_same a (Unwinds (l ∷ locks)) s t f g c admits p v on is = release_same a l s t f g _ (unwind_same a l locks s t f g c p v on is)
  turn_same a (Unwinds []) s t f g c admits p v on is =
      let h = work_along (λ l. Admitted l (f a)) (λ w. Frames s t w (f a) (g a)) _ (Unwinds []) _ _ is on (p.frames a) in
      finish_same h.0 a _ (m.anew (f a)) (n.anew (g a)) s t f g c (turning_at h.0 a s t f g c p v on h.1.1) (sim.anew s t h.0 (f a) (g a) h.1.0 p.stores h.1.1)
  turn_same a Gone s t f g c admits p v on is = same_book s t f g c p

  moved_same : (a : ℕ) (x y : RunState) (s : S) (t : T) (f : ℕ → F) (g : ℕ → G) (c : Book) → Pair s t f g c → place_of c.line a ≡ Some x → is_at_lock x ≡ false → is_at_lock y ≡ false → Matches Stores Frames Admitted (on_book (stands a y) (one s f c)) (on_book (stands a y) (one t g c))
  unfolding stands
  moved_same a x y s t f g c p at hx hy = record {
    book = refl;
    stores = p.stores;
    orderly = orderly-stands a y x c.events (one s f c) at (awake_agrees (c.activity a).next y (live_there (one s f c) p.orderly a x at) hy) p.orderly;
    frames = each_same s t (local_state (one s f c)) _ g _ a (record (local_state (one s f c) a) { place = Some y }) (g a) (local_state-stands a y c.events (one s f c)) (put_back number g a)
        (work_elsewhere (λ l. Admitted l (f a)) (λ w. Frames s t w (f a) (g a)) (c.activity a).next x y hx hy (work_along (λ l. Admitted l (f a)) (λ w. Frames s t w (f a) (g a)) _ (c.activity a).next _ _ refl at (p.frames a))) (λ z _. p.frames z);
  }

  dispatch_same : (w : ℕ) (o : Option ℕ) (s : S) (t : T) (f : ℕ → F) (g : ℕ → G) (c : Book) → Pair s t f g c → first_ready c.line ≡ o → Matches Stores Frames Admitted (dispatch w o (one s f c)) (dispatch w o (one t g c))
  dispatch_same w None s t f g c p is = same_book s t f g c p
  dispatch_same w (Some a) s t f g c p is = let r = found_ready c.line a p.orderly.once is in moved_same a (Ready r.0) (On w) s t f g c p r.1 refl refl

  step_same : (w : ℕ) (o : Option ℕ) (s : S) (t : T) (f : ℕ → F) (g : ℕ → G) (c : Book) → Admits m Admitted (one s f c) → Pair s t f g c → on_worker w c.line ≡ o → Matches Stores Frames Admitted (step_of m w o (one s f c)) (step_of n w o (one t g c))
  step_same w None s t f g c admits p is = dispatch_same w (first_ready c.line) s t f g c p refl
  step_same w (Some a) s t f g c admits p is = let r = found_on c.line w a p.orderly.once is in turn_same a (c.activity a).next s t f g c admits p r.0 r.1 refl

  tick_same : (w : ℕ) (o : Option ℕ) (s : S) (t : T) (f : ℕ → F) (g : ℕ → G) (c : Book) → Pair s t f g c → on_worker w c.line ≡ o → Matches Stores Frames Admitted (tick_of o (one s f c)) (tick_of o (one t g c))
  unfolding ready stands
  tick_same w None s t f g c p is = same_book s t f g c p
  tick_same w (Some a) s t f g c p is = let r = found_on c.line w a p.orderly.once is in moved_same a (On r.0) (Ready (c.activity a).priority) s t f g c p r.1 refl refl

  happens_in_same : (c : Choice) (s : S) (t : T) (f : ℕ → F) (g : ℕ → G) (b : Book) → Admits m Admitted (one s f b) → Pair s t f g b → Matches Stores Frames Admitted (happens_in m c (one s f b)) (happens_in n c (one t g b))
  happens_in_same (Step w) s t f g b admits p = step_same w (on_worker w b.line) s t f g b admits p refl
  happens_in_same (Tick w) s t f g b admits p = tick_same w (on_worker w b.line) s t f g b p refl

  happens_same : (c : Choice) (s : S) (t : T) (f : ℕ → F) (g : ℕ → G) (b : Book) → Admits m Admitted (one s f b) → Pair s t f g b → Matches Stores Frames Admitted (happens m c (one s f b)) (happens n c (one t g b))
  unfolding happens
  happens_same c s t f g b admits p =
      elim (outcome b) as (λ o. Matches Stores Frames Admitted (if_going o (happens_in m c (one s f b)) (one s f b)) (if_going o (happens_in n c (one t g b)) (one t g b))) [
        | outcome_is.Going ↦ happens_in_same c s t f g b admits p
        | outcome_is.Ended ↦ same_book s t f g b p
        | outcome_is.Dead ↦ same_book s t f g b p
        | outcome_is.Spent ↦ same_book s t f g b p
      ]

  -- one entry of a schedule, and a whole schedule
  pub happens_matches : (c : Choice) (st : State S F) (tu : State T G) → Admits m Admitted st → Matches Stores Frames Admitted st tu → Matches Stores Frames Admitted (happens m c st) (happens n c tu)
  happens_matches c st tu admits h = aligned (λ x. Matches Stores Frames Admitted (happens m c st) (happens n c x)) st tu h (happens_same c st.store tu.store st.frames tu.frames st.book admits (to_pair st tu h))

  pub execution_matches : (cs : List Choice) (st : State S F) (tu : State T G) → AlwaysAdmits m Admitted st → Matches Stores Frames Admitted st tu → Matches Stores Frames Admitted (execution m cs st) (execution n cs tu)
  execution_matches [] st tu always h = h
  execution_matches (c ∷ cs) st tu always h = execution_matches cs (happens m c st) (happens n c tu) (λ later. always (c ∷ later)) (happens_matches c st tu (always []) h)

  pub start_matches : (s : S) (t : T) (f : F) (g : G) (budget : ℕ) → Stores s t → Frames s t Went f g → Matches Stores Frames Admitted (start_of s f budget) (start_of t g budget)
  start_matches s t f g budget stores rest = record {
    book = refl;
    stores = stores;
    orderly = orderly_start s f budget;
    frames = each_start s f budget (λ x y. Same s t y g) rest (λ x ne. tt);
  }

  -- What is seen

  may_wait : (l : LockName) (w : Wants) → MayTrap (before (At l w))
  may_wait l Entry = tt
  may_wait l (Condition d) = tt

  wait_row_same : (s : S) (t : T) (f : ℕ → F) (g : ℕ → G) (b : Book) → Pair s t f g b → (a : ℕ) (p : Option RunState) → place_of b.line a ≡ p → wait_row m a p (f a) ≡ wait_row n a p (g a)
  wait_row_same s t f g b h a None at = refl
  wait_row_same s t f g b h a (Some (On v)) at = refl
  wait_row_same s t f g b h a (Some (Ready v)) at = refl
  wait_row_same s t f g b h a (Some (At l w)) at =
      let e = sim.position s t (before (At l w)) (f a) (g a) (may_wait l w) h.stores (runs_at (λ l. Admitted l (f a)) (λ k. Frames s t k (f a) (g a)) _ _ (At l w) (runs_there (one s f b) h.orderly a l w at) at (h.frames a)) in
      λ i. record { activity = a; lock = l; awaits = not (enters w); at = e i } ∷ []

  waits_same : (s : S) (t : T) (f : ℕ → F) (g : ℕ → G) (b : Book) → Pair s t f g b → (k : ℕ) → waits_below m k b.line f ≡ waits_below n k b.line g
  waits_same s t f g b p zero = refl
  waits_same s t f g b p (suc k) = λ i. waits_same s t f g b p k i ++ wait_row_same s t f g b p k (place_of b.line k) refl i

  observed_same : (s : S) (t : T) (f : ℕ → F) (g : ℕ → G) (b : Book) → Pair s t f g b → observation m (one s f b) ≡ observation n (one t g b)
  unfolding observation
  observed_same s t f g b p = λ i. record {
    outcome = outcome b;
    output = b.output;
    traps = b.traps;
    waits = waits_if (outcome b) (waits_same s t f g b p b.started i);
    spent = spent_if (outcome b) b.spent;
    status = status_of (outcome b) b.traps;
  }

  pub observation_matches : (st : State S F) (tu : State T G) → Matches Stores Frames Admitted st tu → observation m st ≡ observation n tu
  observation_matches st tu h = aligned (λ x. observation m st ≡ observation n x) st tu h (observed_same st.store tu.store st.frames tu.frames st.book (to_pair st tu h))

  pub events_match : (st : State S F) (tu : State T G) → Matches Stores Frames Admitted st tu → st.book.events ≡ tu.book.events
  events_match st tu h = ap (λ (b : Book). b.events) h.book
