-- What each operation of the kernel does to where activities stand, their next turns and their frames; and it keeps their order.
use Rattle.std.proofs.Common.{◌≡◌, ℕ, suc, ◌≤◌, List, true, false, refl, sym, ◌∙◌, ap, subst, arith, ◌≢◌}
use Rattle.std.specs.Prelude.{if◌then◌else◌, nat_eq, Option, Some, None}
use Rattle.aos_base.specs.declared.kernel.LockName.{LockName}
use Rattle.aos_base.specs.declared.kernel.Event.{Event}
use Rattle.aos_base.specs.Lock.{Wants}
use Rattle.aos_base.specs.Book.{RunState, Stand, On, Ready, At, Next, Runs, WillTrap, Unwinds, Gone, Activity, put, place_of, is_at_lock, tell, stands, ready, next_is, owned_by, counted, trapped, ended, restarted, born}
use Rattle.aos_base.specs.Machine.{Turn, Machine, State, on_book, with_frames, go_past, trap, turned}
use Rattle.aos_concurrency.specs.LocalState.{LocalState, local_state}
use Rattle.aos_concurrency.specs.Orderly.{Distinct, Agrees, Orderly}
use Rattle.aos_concurrency.proofs.Tables.{number, put_back, each_put}
use Rattle.aos_concurrency.proofs.Lines.{place_of-move, place_of-leave, distinct-move, distinct-leave}

module _ {F : Type 0} where
  abbrev of_parts : List Stand → (ℕ → Next) → (ℕ → F) → ℕ → LocalState F
  of_parts line next frames x = record { place = place_of line x; next = next x; frames = frames x }

  local_state_changed : (line line' : List Stand) (next next' : ℕ → Next) (fr fr' : ℕ → F) (a : ℕ) (v : LocalState F)
      → ((x : ℕ) → place_of line' x ≡ put nat_eq (place_of line) a v.place x)
      → ((x : ℕ) → next' x ≡ put nat_eq next a v.next x)
      → ((x : ℕ) → fr' x ≡ put nat_eq fr a v.frames x)
      → (x : ℕ) → of_parts line' next' fr' x ≡ put nat_eq (of_parts line next fr) a v x
  local_state_changed line line' next next' fr fr' a v p n f x =
      (λ i. let y : LocalState F = record { place = p x i; next = n x i; frames = f x i } in y)
      ∙ elim (nat_eq x a) as (λ q. (let y : LocalState F = record { place = if q then v.place else place_of line x; next = if q then v.next else next x; frames = if q then v.frames else fr x } in y) ≡ (if q then v else of_parts line next fr x)) [ true ↦ refl | false ↦ refl ]

next-put : (act : ℕ → Activity) (a : ℕ) (r : Activity) (x : ℕ) → (put nat_eq act a r x).next ≡ put nat_eq (λ y. (act y).next) a r.next x
next-put act a r x = elim (nat_eq x a) as (λ q. (let y : Activity = if q then r else act x in y.next) ≡ (if q then r.next else (act x).next)) [ true ↦ refl | false ↦ refl ]

module _ {S F : Type 0} where
  pub local_state-stands : (a : ℕ) (p : RunState) (e : List Event) (st : State S F) (x : ℕ) → local_state (on_book (λ k. stands a p (record k { events = e })) st) x ≡ put nat_eq (local_state st) a (record (local_state st a) { place = Some p }) x
  unfolding stands
  local_state-stands a p e st =
      local_state_changed st.book.line _ (λ y. (st.book.activity y).next) _ st.frames _ a (record (local_state st a) { place = Some p }) (place_of-move a p st.book.line) (put_back number (λ y. (st.book.activity y).next) a) (put_back number st.frames a)

  pub local_state-next : (a : ℕ) (n : Next) (st : State S F) (x : ℕ) → local_state (on_book (next_is a n) st) x ≡ put nat_eq (local_state st) a (record (local_state st a) { next = n }) x
  unfolding next_is
  local_state-next a n st =
      local_state_changed st.book.line _ (λ y. (st.book.activity y).next) _ st.frames _ a (record (local_state st a) { next = n }) (put_back number (place_of st.book.line) a) (next-put st.book.activity a (record (st.book.activity a) { next = n })) (put_back number st.frames a)

  pub local_state-ended : (a : ℕ) (st : State S F) (x : ℕ) → local_state (on_book (ended a) st) x ≡ put nat_eq (local_state st) a (record (local_state st a) { place = None; next = Gone }) x
  unfolding ended next_is
  local_state-ended a st =
      local_state_changed st.book.line _ (λ y. (st.book.activity y).next) _ st.frames _ a (record (local_state st a) { place = None; next = Gone }) (place_of-leave a st.book.line) (next-put st.book.activity a (record (st.book.activity a) { next = Gone })) (put_back number st.frames a)

  pub local_state-anew : (a : ℕ) (f : F) (st : State S F) (x : ℕ) → local_state (on_book (restarted a) (with_frames a f st)) x ≡ put nat_eq (local_state st) a (record (local_state st a) { next = Runs; frames = f }) x
  unfolding restarted
  local_state-anew a f st =
      local_state_changed st.book.line _ (λ y. (st.book.activity y).next) _ st.frames _ a (record (local_state st a) { next = Runs; frames = f }) (put_back number (place_of st.book.line) a) (next-put st.book.activity a (record (st.book.activity a) { next = Runs; restarts = suc (st.book.activity a).restarts })) (λ x. refl)

  pub local_state-born : (p : ℕ) (f : F) (st : State S F) (x : ℕ) → local_state (on_book (born p) (with_frames st.book.started f st)) x ≡ put nat_eq (local_state st) st.book.started (record { place = Some (Ready p); next = Runs; frames = f }) x
  unfolding born
  local_state-born p f st =
      local_state_changed st.book.line _ (λ y. (st.book.activity y).next) _ st.frames _ st.book.started (record { place = Some (Ready p); next = Runs; frames = f }) (place_of-move st.book.started (Ready p) st.book.line) (next-put st.book.activity st.book.started (record { priority = p; begun = 0; restarts = 0; next = Runs })) (λ x. refl)

module _ {S F : Type 0} (m : Machine S F) where
  pub local_state-past : (a : ℕ) (owner : LockName → Option ℕ) (e : List Event) (st : State S F) (x : ℕ) → local_state (go_past m a (on_book (λ k. record k { owner = owner; events = e }) st)) x ≡ put nat_eq (local_state st) a (record (local_state st a) { frames = m.past (st.frames a) }) x
  unfolding go_past
  local_state-past a owner e st =
      local_state_changed st.book.line _ (λ y. (st.book.activity y).next) _ st.frames _ a (record (local_state st a) { frames = m.past (st.frames a) }) (put_back number (place_of st.book.line) a) (put_back number (λ y. (st.book.activity y).next) a) (λ x. refl)

  pub local_state-trap : (a n c : ℕ) (st : State S F) (x : ℕ) → local_state (trap m a n c st) x ≡ put nat_eq (local_state st) a (record (local_state st a) { next = Unwinds (m.regions (st.frames a)) }) x
  unfolding trap trapped next_is
  local_state-trap a n c st =
      local_state_changed st.book.line _ (λ y. (st.book.activity y).next) _ st.frames _ a (record (local_state st a) { next = Unwinds (m.regions (st.frames a)) }) (put_back number (place_of st.book.line) a) (next-put st.book.activity a (record (st.book.activity a) { next = Unwinds (m.regions (st.frames a)) })) (put_back number st.frames a)

  pub local_state-turned : (a : ℕ) (t : Turn S F) (st : State S F) (x : ℕ) → local_state (turned m a t st) x ≡ put nat_eq (local_state st) a (record (local_state st a) { frames = t.frames }) x
  unfolding turned counted
  local_state-turned a t st =
      let n = if t.begun then suc (st.book.activity a).begun else (st.book.activity a).begun in
      local_state_changed st.book.line _ (λ y. (st.book.activity y).next) _ st.frames _ a (record (local_state st a) { frames = t.frames }) (put_back number (place_of st.book.line) a) (next-put st.book.activity a (record (st.book.activity a) { begun = n })) (λ x. refl)

  -- the heir of a lock, which goes on
  pub local_state-heir : (b : ℕ) (l : LockName) (e : Event) (st : State S F) (x : ℕ) → local_state (go_past m b (on_book (λ k. ready b (owned_by l (Some b) (tell e k))) st)) x ≡ put nat_eq (local_state st) b (record (local_state st b) { place = Some (Ready (st.book.activity b).priority); frames = m.past (st.frames b) }) x
  unfolding go_past ready owned_by
  local_state-heir b l e st =
      let p = Ready (st.book.activity b).priority in
      local_state_changed st.book.line _ (λ y. (st.book.activity y).next) _ st.frames _ b (record (local_state st b) { place = Some p; frames = m.past (st.frames b) }) (place_of-move b p st.book.line) (put_back number (λ y. (st.book.activity y).next) b) (λ x. refl)

  -- one whose condition traps
  pub local_state-trapping : (b n : ℕ) (l : LockName) (e : Event) (st : State S F) (x : ℕ) → local_state (on_book (λ k. next_is b (WillTrap n) (ready b (owned_by l (Some b) (tell e k)))) st) x ≡ put nat_eq (local_state st) b (record (local_state st b) { place = Some (Ready (st.book.activity b).priority); next = WillTrap n }) x
  unfolding next_is ready owned_by
  local_state-trapping b n l e st =
      let p = Ready (st.book.activity b).priority in
      local_state_changed st.book.line _ (λ y. (st.book.activity y).next) _ st.frames _ b (record (local_state st b) { place = Some p; next = WillTrap n }) (place_of-move b p st.book.line) (next-put st.book.activity b (record (st.book.activity b) { next = WillTrap n })) (put_back number st.frames b)

-- Next turns and places that go together

pub live_at : (n : Next) (p : RunState) → Agrees n (Some p) → n ≢ Gone
live_at Gone p h e = absurd h
live_at Runs p h e = absurd (cc e)
live_at (WillTrap n) p h e = absurd (cc e)
live_at (Unwinds ls) p h e = absurd (cc e)

-- one in a lock's list runs, once it has left it
pub waits_runs : (n : Next) (l : LockName) (w : Wants) → Agrees n (Some (At l w)) → n ≡ Runs
waits_runs Runs l w h = refl
waits_runs (WillTrap n) l w h = absurd h
waits_runs (Unwinds ls) l w h = absurd h
waits_runs Gone l w h = absurd h

pub gone_nowhere : (n : Next) (p : Option RunState) → Agrees n p → n ≡ Gone → p ≡ None
gone_nowhere n None h e = refl
gone_nowhere Gone (Some p) h e = absurd h
gone_nowhere Runs (Some p) h e = absurd (cc e)
gone_nowhere (WillTrap k) (Some p) h e = absurd (cc e)
gone_nowhere (Unwinds k) (Some p) h e = absurd (cc e)

pub somewhere : (n : Next) (p : Option RunState) → Agrees n p → n ≢ Gone → p ≢ None
somewhere Gone p h live e = live refl
somewhere n (Some p) h live e = absurd (cc e)
somewhere Runs None h live e = absurd h
somewhere (WillTrap k) None h live e = absurd h
somewhere (Unwinds k) None h live e = absurd h

-- at any place that is no lock's
pub awake_agrees : (n : Next) (p : RunState) → n ≢ Gone → is_at_lock p ≡ false → Agrees n (Some p)
awake_agrees n (At l w) live e = absurd (cc e)
awake_agrees Runs (On v) live e = tt
awake_agrees Runs (Ready v) live e = tt
awake_agrees (WillTrap k) (On v) live e = tt
awake_agrees (WillTrap k) (Ready v) live e = tt
awake_agrees (Unwinds k) (On v) live e = tt
awake_agrees (Unwinds k) (Ready v) live e = tt
awake_agrees Gone p live e = absurd (live refl)

-- Order is kept

module _ {S F : Type 0} where
  pub orderly_put : (st st' : State S F) (a : ℕ) (v : LocalState F) → ((x : ℕ) → local_state st' x ≡ put nat_eq (local_state st) a v x) → st'.book.started ≡ st.book.started → Distinct st'.book.line → Agrees v.next v.place → (local_state st a).next ≢ Gone → Orderly st → Orderly st'
  orderly_put st st' a v e same once new live o = record {
    once = once;
    agrees = λ x. subst (λ (y : LocalState F). Agrees y.next y.place) (sym (e x)) (each_put number (λ z (y : LocalState F). Agrees y.next y.place) (local_state st) a v new (λ z ne. o.agrees z) x);
    unborn = λ x late. ap (λ (y : LocalState F). y.next) (e x) ∙ each_put number (λ z (y : LocalState F). st.book.started ≤ z → y.next ≡ Gone) (local_state st) a v (λ h. absurd (live (o.unborn a h))) (λ z ne h. o.unborn z h) x (subst (λ k. k ≤ x) same late);
  }

  -- whoever stands somewhere hasn't ended
  pub live_there : (st : State S F) → Orderly st → (a : ℕ) (p : RunState) → place_of st.book.line a ≡ Some p → (local_state st a).next ≢ Gone
  live_there st o a p at = live_at (local_state st a).next p (subst (Agrees (local_state st a).next) at (o.agrees a))

  pub runs_there : (st : State S F) → Orderly st → (a : ℕ) (l : LockName) (w : Wants) → place_of st.book.line a ≡ Some (At l w) → (local_state st a).next ≡ Runs
  runs_there st o a l w at = waits_runs (local_state st a).next l w (subst (Agrees (local_state st a).next) at (o.agrees a))

  pub orderly-stands : (a : ℕ) (p q : RunState) (e : List Event) (st : State S F) → place_of st.book.line a ≡ Some q → Agrees (local_state st a).next (Some p) → Orderly st → Orderly (on_book (λ k. stands a p (record k { events = e })) st)
  unfolding stands
  orderly-stands a p q e st at new o = orderly_put st _ a _ (local_state-stands a p e st) refl (distinct-move a p st.book.line o.once) new (live_there st o a q at) o

  pub orderly-next : (a : ℕ) (n : Next) (q : RunState) (st : State S F) → place_of st.book.line a ≡ Some q → is_at_lock q ≡ false → n ≢ Gone → Orderly st → Orderly (on_book (next_is a n) st)
  unfolding next_is
  orderly-next a n q st at awake live o = orderly_put st _ a _ (local_state-next a n st) refl o.once (subst (Agrees n) (sym at) (awake_agrees n q live awake)) (live_there st o a q at) o

  pub orderly-ended : (a : ℕ) (q : RunState) (st : State S F) → place_of st.book.line a ≡ Some q → Orderly st → Orderly (on_book (ended a) st)
  unfolding ended next_is
  orderly-ended a q st at o = orderly_put st _ a _ (local_state-ended a st) refl (distinct-leave a st.book.line o.once) tt (live_there st o a q at) o

  pub orderly-anew : (a : ℕ) (f : F) (q : RunState) (st : State S F) → place_of st.book.line a ≡ Some q → Orderly st → Orderly (on_book (restarted a) (with_frames a f st))
  unfolding restarted
  orderly-anew a f q st at o = orderly_put st _ a _ (local_state-anew a f st) refl o.once (subst (Agrees Runs) (sym at) tt) (live_there st o a q at) o

  pub orderly-born : (p : ℕ) (f : F) (st : State S F) → Orderly st → Orderly (on_book (born p) (with_frames st.book.started f st))
  unfolding born
  orderly-born p f st o =
      let v : LocalState F = record { place = Some (Ready p); next = Runs; frames = f } in
      record {
        once = distinct-move st.book.started (Ready p) st.book.line o.once;
        agrees = λ x. subst (λ (y : LocalState F). Agrees y.next y.place) (sym (local_state-born p f st x)) (each_put number (λ z (y : LocalState F). Agrees y.next y.place) (local_state st) st.book.started v tt (λ z ne. o.agrees z) x);
        unborn = λ x late. ap (λ (y : LocalState F). y.next) (local_state-born p f st x) ∙ each_put number (λ z (y : LocalState F). suc st.book.started ≤ z → y.next ≡ Gone) (local_state st) st.book.started v (λ h. absurd (omega arith)) (λ z ne h. o.unborn z (omega arith)) x late;
      }

  -- who isn't started yet is another
  pub not_started : (st : State S F) → Orderly st → (a : ℕ) → (local_state st a).next ≢ Gone → a ≢ st.book.started
  not_started st o a live e = live (o.unborn a (subst (λ k. k ≤ a) e (omega arith)))

module _ {S F : Type 0} (m : Machine S F) where
  pub orderly-past : (a : ℕ) (owner : LockName → Option ℕ) (e : List Event) (st : State S F) → Orderly st → Orderly (go_past m a (on_book (λ k. record k { owner = owner; events = e }) st))
  unfolding go_past
  orderly-past a owner e st o = record { once = o.once; agrees = o.agrees; unborn = o.unborn }

  pub orderly-trap : (a n c : ℕ) (q : RunState) (st : State S F) → place_of st.book.line a ≡ Some q → is_at_lock q ≡ false → Orderly st → Orderly (trap m a n c st)
  unfolding trap trapped next_is
  orderly-trap a n c q st at awake o =
      let k = Unwinds (m.regions (st.frames a)) in
      orderly_put st _ a _ (local_state-trap m a n c st) refl o.once (subst (Agrees k) (sym at) (awake_agrees k q (λ e. absurd (cc e)) awake)) (live_there st o a q at) o

  pub orderly-turned : (a : ℕ) (t : Turn S F) (q : RunState) (st : State S F) → place_of st.book.line a ≡ Some q → Orderly st → Orderly (turned m a t st)
  unfolding turned counted
  orderly-turned a t q st at o = orderly_put st _ a _ (local_state-turned m a t st) refl o.once (o.agrees a) (live_there st o a q at) o

  pub orderly-heir : (b : ℕ) (l k : LockName) (w : Wants) (e : Event) (st : State S F) → place_of st.book.line b ≡ Some (At k w) → Orderly st → Orderly (go_past m b (on_book (λ x. ready b (owned_by l (Some b) (tell e x))) st))
  unfolding go_past ready owned_by
  orderly-heir b l k w e st at o =
      let p = Ready (st.book.activity b).priority in
      let live = live_there st o b (At k w) at in
      orderly_put st _ b _ (local_state-heir m b l e st) refl (distinct-move b p st.book.line o.once) (awake_agrees (local_state st b).next p live refl) live o

  pub orderly-trapping : (b n : ℕ) (l k : LockName) (w : Wants) (e : Event) (st : State S F) → place_of st.book.line b ≡ Some (At k w) → Orderly st → Orderly (on_book (λ x. next_is b (WillTrap n) (ready b (owned_by l (Some b) (tell e x)))) st)
  unfolding next_is ready owned_by
  orderly-trapping b n l k w e st at o =
      let p = Ready (st.book.activity b).priority in
      orderly_put st _ b _ (local_state-trapping m b n l e st) refl (distinct-move b p st.book.line o.once) tt (live_there st o b (At k w) at) o
