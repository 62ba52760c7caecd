-- An entry of a schedule changes the store and the frames of those that act in five ways only.
use Rattle.std.proofs.Common.{◌≡◌, ℕ, List, [], ◌∷◌, ◌++◌, Bool, true, false, refl, sym, ◌∙◌, ap, subst, arith, ◌≢◌}
use Rattle.std.specs.Prelude.{if◌then◌else◌, nat_eq, Option, Some, None}
use Rattle.aos_base.specs.declared.kernel.LockName.{LockName}
use Rattle.aos_base.specs.declared.kernel.Verdict.{Verdict}
use Rattle.aos_base.specs.declared.kernel.Verdict.TheVariants.{Holds, Fails, Traps}
use Rattle.aos_base.specs.declared.kernel.Did.{Did}
use Rattle.aos_base.specs.declared.kernel.Did.TheVariants.{Went, Ended, Enter, Leave, Await, Start, Trapped}
use Rattle.aos_base.specs.declared.kernel.Event.{Event}
use Rattle.aos_base.specs.declared.kernel.Event.TheVariants as event
use Rattle.aos_base.specs.declared.kernel.Outcome.TheVariants as outcome_is
use Rattle.aos_base.specs.Lock.{Entry, Condition, Heir, Nobody, Entrant, Waiter, Trapping, heir}
use Rattle.aos_base.specs.Book.{RunState, On, Ready, At, Next, Runs, WillTrap, Unwinds, Gone, put, place_of, waiting, tell, stands, ready, next_is, owned_by, counted, trapped, ended, born, on_worker, first_ready, is_full, outcome}
use Rattle.aos_base.specs.Machine.{Choice, Step, Tick, Machine, State, on_book, with_frames, go_past, pass, release, trap, enter, await, start, serve, turned, finish, turn_by, dispatch, step_of, tick_of, happens_in, if_going, happens, execution}
use Rattle.aos_concurrency.specs.LocalState.{LocalState, local_state, GoesPast, MayTrap, AtWork}
use Rattle.aos_concurrency.specs.Orderly.{Agrees, Orderly}
use Rattle.aos_concurrency.specs.Regions.{KeepsFits}
use Rattle.aos_concurrency.specs.Admits.{Admits, AlwaysAdmits}
use Rattle.aos_concurrency.specs.Sound.{Fitting}
use Rattle.aos_concurrency.specs.Acting.{acts, acting, Change, ByTurn, ByGoingPast, ByStart, ByTrap, ByEnd, Changes, Unchanged, OneThen, KeepsTidy}
use Rattle.aos_concurrency.proofs.Tables.{number, put_same, put_other, put_back, each_put}
use Rattle.aos_concurrency.proofs.Lines.{StandsAs, heir_stands, found_on}
use Rattle.aos_concurrency.proofs.LocalStates.{local_state-stands, local_state-next, local_state-ended, local_state-anew, local_state-born, local_state-past, local_state-trap, local_state-turned, local_state-heir, local_state-trapping, orderly-stands, orderly-next, orderly-past, orderly-turned, live_there, runs_there, not_started}
use Rattle.aos_concurrency.proofs.Works.{runs_at, admitted_at, work_along, work_map}
use Rattle.aos_concurrency.proofs.Itself.{happens_fitting}

module _ {S F : Type 0} (m : Machine S F) (Admitted : LockName → F → Type 0) (Fits : S → Did → F → Type 0) where
  then_changes : (s : S) (t : ℕ → Option F) (s1 : S) (t1 : ℕ → Option F) (s2 : S) (t2 : ℕ → Option F) → Changes m Admitted Fits s t s1 t1 → Changes m Admitted Fits s1 t1 s2 t2 → Changes m Admitted Fits s t s2 t2
  then_changes s t s1 t1 s2 t2 (Unchanged x y) h = h
  then_changes s t s1 t1 s2 t2 (OneThen x y x1 y1 x2 y2 change rest) h = OneThen s t x1 y1 s2 t2 change (then_changes x1 y1 s1 t1 s2 t2 rest h)

  one_change : (s : S) (t : ℕ → Option F) (s1 : S) (t1 : ℕ → Option F) → Change m Admitted Fits s t s1 t1 → Changes m Admitted Fits s t s1 t1
  one_change s t s1 t1 h = OneThen s t s1 t1 s1 t1 h (Unchanged s1 t1)

  -- an invariant that each way keeps is kept by all of them
  tidy_along : (Tidy : S → (ℕ → Option F) → Type 0) → KeepsTidy m Admitted Fits Tidy → (s : S) (t : ℕ → Option F) (s1 : S) (t1 : ℕ → Option F) → Changes m Admitted Fits s t s1 t1 → Tidy s t → Tidy s1 t1
  tidy_along Tidy keeps s t s1 t1 (Unchanged x y) h = h
  tidy_along Tidy keeps s t s1 t1 (OneThen x y x1 y1 x2 y2 change rest) h = tidy_along Tidy keeps x1 y1 s1 t1 rest (keeps s t x1 y1 change h)

  abbrev pub Moves : State S F → State S F → Type 0
  Moves st st' = Changes m Admitted Fits st.store (acting m st) st'.store (acting m st')

  then_moves : (x y : State S F) (s : S) (t : ℕ → Option F) → Moves x y → Changes m Admitted Fits y.store (acting m y) s t → Changes m Admitted Fits x.store (acting m x) s t
  then_moves x y s t h k = then_changes x.store (acting m x) y.store (acting m y) s t h k

  abbrev of_local_states : (ℕ → LocalState F) → ℕ → Option F
  of_local_states x z = acts m (x z).next (x z).frames

  acting_put : (x y : ℕ → LocalState F) (a : ℕ) (v : LocalState F) → ((z : ℕ) → y z ≡ put nat_eq x a v z) → put nat_eq (of_local_states x) a (acts m v.next v.frames) ≡ of_local_states y
  acting_put x y a v e = λ i z. one z i
    where
      one : (z : ℕ) → put nat_eq (of_local_states x) a (acts m v.next v.frames) z ≡ of_local_states y z
      one z = (elim (nat_eq z a) as (λ q. (if q then acts m v.next v.frames else of_local_states x z) ≡ acts m ((if q then v else x z)).next ((if q then v else x z)).frames) [ true ↦ refl | false ↦ refl ]) ∙ ap (λ (u : LocalState F). acts m u.next u.frames) (sym (e z))

  put_nothing : (t : ℕ → Option F) (a : ℕ) (o : Option F) → t a ≡ o → t ≡ put nat_eq t a o
  put_nothing t a o is = (λ i z. put_back number t a z i) ∙ ap (put nat_eq t a) is

  -- to a store and local states that are equal to these
  ends_at : (s : S) (t : ℕ → Option F) (s1 : S) (t1 : ℕ → Option F) (s2 : S) (t2 : ℕ → Option F) → s1 ≡ s2 → t1 ≡ t2 → Changes m Admitted Fits s t s1 t1 → Changes m Admitted Fits s t s2 t2
  ends_at s t s1 t1 s2 t2 p q h = subst (λ x. Changes m Admitted Fits s t x t2) p (subst (λ y. Changes m Admitted Fits s t s1 y) q h)

  unchanged : (st : State S F) (s : S) (y : ℕ → LocalState F) (a : ℕ) (v : LocalState F) → st.store ≡ s → ((x : ℕ) → y x ≡ put nat_eq (local_state st) a v x) → acts m v.next v.frames ≡ acting m st a → Changes m Admitted Fits st.store (acting m st) s (of_local_states y)
  unchanged st s y a v p e same =
      ends_at st.store (acting m st) st.store (acting m st) s (of_local_states y) p (put_nothing (acting m st) a _ (sym same) ∙ acting_put (local_state st) y a v e) (Unchanged st.store (acting m st))

  goes : (st : State S F) (s : S) (y : ℕ → LocalState F) (a : ℕ) (v : LocalState F) (w : Did) → st.store ≡ s → ((x : ℕ) → y x ≡ put nat_eq (local_state st) a v x) → acts m v.next v.frames ≡ Some (m.past (st.frames a)) → (st.book.activity a).next ≡ Runs → GoesPast Admitted w (st.frames a) → Fits st.store w (st.frames a) → Changes m Admitted Fits st.store (acting m st) s (of_local_states y)
  goes st s y a v w p e is runs past fits =
      ends_at st.store (acting m st) st.store _ s (of_local_states y) p (ap (put nat_eq (acting m st) a) (sym is) ∙ acting_put (local_state st) y a v e)
      (one_change st.store (acting m st) _ _ (ByGoingPast st.store (acting m st) a w (st.frames a) (ap (λ n. acts m n (st.frames a)) runs) past fits))

  -- it traps
  falls : (st : State S F) (s : S) (y : ℕ → LocalState F) (a : ℕ) (v : LocalState F) (w : Did) → st.store ≡ s → ((x : ℕ) → y x ≡ put nat_eq (local_state st) a v x) → acts m v.next v.frames ≡ m.anew (st.frames a) → (st.book.activity a).next ≡ Runs → MayTrap w → Fits st.store w (st.frames a) → Changes m Admitted Fits st.store (acting m st) s (of_local_states y)
  falls st s y a v w p e is runs may fits =
      ends_at st.store (acting m st) st.store _ s (of_local_states y) p (ap (put nat_eq (acting m st) a) (sym is) ∙ acting_put (local_state st) y a v e)
      (one_change st.store (acting m st) _ _ (ByTrap st.store (acting m st) a w (st.frames a) (ap (λ n. acts m n (st.frames a)) runs) may fits))

  -- it acts no more, if it did
  quits : (st : State S F) (s : S) (y : ℕ → LocalState F) (a : ℕ) (v : LocalState F) → st.store ≡ s → ((x : ℕ) → y x ≡ put nat_eq (local_state st) a v x) → acts m v.next v.frames ≡ None → Changes m Admitted Fits st.store (acting m st) s (of_local_states y)
  quits st s y a v p e is =
      (elim (acting m st a) as (λ o. acting m st a ≡ o → Changes m Admitted Fits st.store (acting m st) s (of_local_states y)) [
        | None ↦ λ none. unchanged st s y a v p e (is ∙ sym none)
        | Some f ↦ λ some. ends_at st.store (acting m st) st.store _ s (of_local_states y) p (ap (put nat_eq (acting m st) a) (sym is) ∙ acting_put (local_state st) y a v e)
            (one_change st.store (acting m st) _ _ (ByEnd st.store (acting m st) a f some))
      ]) refl

  -- a worker's activity, whose turn has left this work
  record Turning (w : Did) (a : ℕ) (st : State S F) : Type 0 where
    orderly : Orderly st
    others : (x : ℕ) → x ≢ a → AtWork (λ l. Admitted l (st.frames x)) (λ k. Fits st.store k (st.frames x)) (local_state st x).next (local_state st x).place
    worker : ℕ
    on : place_of st.book.line a ≡ Some (On worker)
    runs : (st.book.activity a).next ≡ Runs
    fits : Fits st.store w (st.frames a)

  fits_put : (s : S) (x y : ℕ → LocalState F) (a : ℕ) (v : LocalState F) → ((z : ℕ) → y z ≡ put nat_eq x a v z) → AtWork (λ l. Admitted l v.frames) (λ k. Fits s k v.frames) v.next v.place → ((z : ℕ) → z ≢ a → AtWork (λ l. Admitted l (x z).frames) (λ k. Fits s k (x z).frames) (x z).next (x z).place) → (z : ℕ) → AtWork (λ l. Admitted l (y z).frames) (λ k. Fits s k (y z).frames) (y z).next (y z).place
  fits_put s x y a v e here others z =
      subst (λ (u : LocalState F). AtWork (λ l. Admitted l u.frames) (λ k. Fits s k u.frames) u.next u.place) (sym (e z)) (each_put number (λ _ (u : LocalState F). AtWork (λ l. Admitted l u.frames) (λ k. Fits s k u.frames) u.next u.place) x a v here others z)

  pass_moves : (verdict : ℕ → ℕ → Verdict) (a : ℕ) (l : LockName) (h : Heir) (st : State S F) → Fitting Admitted Fits st → StandsAs verdict l st.book.line h → Moves st (pass m a l h st)
  unfolding go_past next_is ready owned_by
  pass_moves verdict a l Nobody st fit stand = Unchanged st.store (acting m st)
  pass_moves verdict a l (Entrant b) st fit stand =
      let runs = runs_there st fit.orderly b l Entry stand in
      goes st _ _ b (record (local_state st b) { place = Some (Ready (st.book.activity b).priority); frames = m.past (st.frames b) }) (Enter l) refl (local_state-heir m b l (event.Pass l a b false) st) (ap (λ n. acts m n (m.past (st.frames b))) runs) runs
      (admitted_at (λ k. Admitted k (st.frames b)) (λ k. Fits st.store k (st.frames b)) _ _ l runs stand (fit.fits b))
      (runs_at (λ l. Admitted l (st.frames b)) (λ k. Fits st.store k (st.frames b)) _ _ (At l Entry) runs stand (fit.fits b))
  pass_moves verdict a l (Waiter b) st fit stand =
      let runs = runs_there st fit.orderly b l (Condition stand.0) stand.1 in
      goes st _ _ b (record (local_state st b) { place = Some (Ready (st.book.activity b).priority); frames = m.past (st.frames b) }) (Await l stand.0) refl (local_state-heir m b l (event.Pass l a b true) st) (ap (λ n. acts m n (m.past (st.frames b))) runs) runs tt
      (runs_at (λ l. Admitted l (st.frames b)) (λ k. Fits st.store k (st.frames b)) _ _ (At l (Condition stand.0)) runs stand.1 (fit.fits b))
  pass_moves verdict a l (Trapping b n) st fit stand =
      let runs = runs_there st fit.orderly b l (Condition stand.0) stand.1 in
      falls st _ _ b (record (local_state st b) { place = Some (Ready (st.book.activity b).priority); next = WillTrap n }) (Await l stand.0) refl (local_state-trapping m b n l (event.Pass l a b true) st) refl runs tt
      (runs_at (λ l. Admitted l (st.frames b)) (λ k. Fits st.store k (st.frames b)) _ _ (At l (Condition stand.0)) runs stand.1 (fit.fits b))

  release_moves : (a : ℕ) (l : LockName) (st : State S F) → Fitting Admitted Fits st → Moves st (release m a l st)
  unfolding release owned_by
  release_moves a l st fit =
      let o = fit.orderly in
      let verdict = λ (b c : ℕ). m.verdict st.store (st.frames b) c in
      pass_moves verdict a l (heir verdict (waiting l st.book.line)) (on_book (owned_by l None) st) (record { orderly = record { once = o.once; agrees = o.agrees; unborn = o.unborn }; fits = fit.fits }) (heir_stands verdict l st.book.line o.once)

  trap_moves : (a n c : ℕ) (w : Did) (st : State S F) → (st.book.activity a).next ≡ Runs → MayTrap w → Fits st.store w (st.frames a) → Moves st (trap m a n c st)
  unfolding trap trapped next_is
  trap_moves a n c w st runs may fits = falls st _ _ a (record (local_state st a) { next = Unwinds (m.regions (st.frames a)) }) w refl (local_state-trap m a n c st) refl runs may fits

  -- one that got its lock in order to trap
  due_moves : (a n k c : ℕ) (st : State S F) → (st.book.activity a).next ≡ WillTrap k → Moves st (trap m a n c st)
  unfolding trap trapped next_is
  due_moves a n k c st is = unchanged st _ _ a (record (local_state st a) { next = Unwinds (m.regions (st.frames a)) }) refl (local_state-trap m a n c st) (ap (λ x. acts m x (st.frames a)) (sym is))

  ended_moves : (a : ℕ) (st : State S F) → Moves st (on_book (ended a) st)
  ended_moves a st = quits st _ _ a (record (local_state st a) { place = None; next = Gone }) refl (local_state-ended a st) refl

  stands_moves : (a : ℕ) (p : RunState) (e : List Event) (st : State S F) → Moves st (on_book (λ k. stands a p (record k { events = e })) st)
  stands_moves a p e st = unchanged st _ _ a (record (local_state st a) { place = Some p }) refl (local_state-stands a p e st) refl

  past_moves : (a : ℕ) (w : Did) (st : State S F) → (st.book.activity a).next ≡ Runs → GoesPast Admitted w (st.frames a) → Fits st.store w (st.frames a) → Moves st (go_past m a st)
  unfolding go_past
  past_moves a w st runs past fits =
      goes st _ _ a (record (local_state st a) { frames = m.past (st.frames a) }) w refl (local_state-past m a st.book.owner st.book.events st) (ap (λ n. acts m n (m.past (st.frames a))) runs) runs past fits

  -- past its work, with the lock left or joined
  past_fitting : KeepsFits m Admitted Fits → (w : Did) (a : ℕ) (st : State S F) → GoesPast Admitted w (st.frames a) → Turning w a st → Fitting Admitted Fits (go_past m a st)
  unfolding go_past
  past_fitting keeps w a st past t = record {
    orderly = orderly-past m a st.book.owner st.book.events st t.orderly;
    fits = fits_put st.store (local_state st) _ a (record (local_state st a) { frames = m.past (st.frames a) }) (local_state-past m a st.book.owner st.book.events st)
        (work_along (λ l. Admitted l (m.past (st.frames a))) (λ k. Fits st.store k (m.past (st.frames a))) _ _ _ _ (sym t.runs) (sym t.on) (keeps.past st.store w (st.frames a) past t.fits)) t.others;
  }

  joins_fitting : (a : ℕ) (l : LockName) (c : ℕ) (st : State S F) → Turning (Await l c) a st → Fitting Admitted Fits (on_book (λ k. stands a (At l (Condition c)) (tell (event.Wait l a true) k)) st)
  unfolding stands
  joins_fitting a l c st t =
      let p = At l (Condition c) in
      let e = st.book.events ++ event.Wait l a true ∷ [] in
      record {
        orderly = orderly-stands a p (On t.worker) e st t.on (subst (λ n. Agrees n (Some p)) (sym t.runs) tt) t.orderly;
        fits = fits_put st.store (local_state st) _ a (record (local_state st a) { place = Some p }) (local_state-stands a p e st)
            (work_along (λ l. Admitted l (st.frames a)) (λ k. Fits st.store k (st.frames a)) _ _ _ _ (sym t.runs) refl t.fits) t.others;
      }

  enter_moves : (a : ℕ) (l : LockName) (o : Option ℕ) (st : State S F) → (o ≢ Some a → Admitted l (st.frames a)) → Turning (Enter l) a st → Moves st (enter m a l o st)
  unfolding go_past owned_by
  enter_moves a l None st admitted t =
      goes st _ _ a (record (local_state st a) { frames = m.past (st.frames a) }) (Enter l) refl (local_state-past m a (owned_by l (Some a) st.book).owner (st.book.events ++ event.Enter l a ∷ []) st) (ap (λ n. acts m n (m.past (st.frames a))) t.runs) t.runs (admitted (λ e. absurd (cc e))) t.fits
  enter_moves a l (Some b) st admitted t =
      elim (nat_eq b a) as (λ q. Moves st (if q then trap m a 9 0 st else on_book (λ k. stands a (At l Entry) (tell (event.Wait l a false) k)) st)) [
        | true ↦ trap_moves a 9 0 (Enter l) st t.runs tt t.fits
        | false ↦ stands_moves a (At l Entry) (st.book.events ++ event.Wait l a false ∷ []) st
      ]

  await_moves : (a : ℕ) (l : LockName) (c : ℕ) (v : Verdict) (st : State S F) → Turning (Await l c) a st → Moves st (await m a l c v st)
  await_moves a l c Holds st t = past_moves a (Await l c) st t.runs tt t.fits
  await_moves a l c (Traps n) st t = trap_moves a n 0 (Await l c) st t.runs tt t.fits
  await_moves a l c Fails st t =
      let st1 = on_book (λ k. stands a (At l (Condition c)) (tell (event.Wait l a true) k)) st in
      then_moves st st1 _ _ (stands_moves a (At l (Condition c)) (st.book.events ++ event.Wait l a true ∷ []) st) (release_moves a l st1 (joins_fitting a l c st t))

  start_moves : (a o : ℕ) (full : Bool) (st : State S F) → Turning (Start o) a st → Moves st (start m a o full st)
  start_moves a o true st t = trap_moves a 13 0 (Start o) st t.runs tt t.fits
  start_moves a o false st t =
      let n = st.book.started in
      let p = m.priority st.store o in
      let f = m.body st.store o in
      let v : LocalState F = record { place = Some (Ready p); next = Runs; frames = f } in
      let st1 = on_book (born p) (with_frames n f st) in
      let e : (x : ℕ) → local_state st1 x ≡ put nat_eq (local_state st) n v x = local_state-born p f st in
      let ne = not_started st t.orderly a (live_there st t.orderly a (On t.worker) t.on) in
      let mine : local_state st1 a ≡ local_state st a = e a ∙ put_other number (local_state st) n v a ne in
      then_moves st st1 _ _
      (ends_at st.store (acting m st) st.store _ st1.store (acting m st1) refl (acting_put (local_state st) (local_state st1) n v e)
      (one_change st.store (acting m st) _ _ (ByStart st.store (acting m st) n a o (st.frames a) (ap (λ k. acts m k (st.frames n)) (t.orderly.unborn n (omega arith))) (ap (λ k. acts m k (st.frames a)) t.runs) t.fits)))
      (past_moves a (Start o) st1 (ap (λ (y : LocalState F). y.next) mine ∙ t.runs) tt (subst (λ (y : LocalState F). Fits st.store (Start o) y.frames) (sym mine) t.fits))

  serve_moves : KeepsFits m Admitted Fits → (a : ℕ) (w : Did) (st : State S F) → ((l : LockName) → w ≡ Enter l → st.book.owner l ≢ Some a → Admitted l (st.frames a)) → Turning w a st → Moves st (serve m a w st)
  serve_moves keeps a Went st asked t = Unchanged st.store (acting m st)
  serve_moves keeps a Ended st asked t = ended_moves a st
  serve_moves keeps a (Enter l) st asked t = enter_moves a l (st.book.owner l) st (asked l refl) t
  serve_moves keeps a (Leave l) st asked t = then_moves st (go_past m a st) _ _ (past_moves a (Leave l) st t.runs tt t.fits) (release_moves a l (go_past m a st) (past_fitting keeps (Leave l) a st tt t))
  serve_moves keeps a (Await l c) st asked t = await_moves a l c (m.verdict st.store (st.frames a) c) st t
  serve_moves keeps a (Start o) st asked t = start_moves a o (is_full st.book) st t
  serve_moves keeps a (Trapped n c) st asked t = trap_moves a n c (Trapped n c) st t.runs tt t.fits

  turned_turning : KeepsFits m Admitted Fits → (a : ℕ) (st : State S F) → Fitting Admitted Fits st → (v : ℕ) → place_of st.book.line a ≡ Some (On v) → (st.book.activity a).next ≡ Runs → Fits st.store Went (st.frames a) → Turning (m.turn st.store (st.frames a)).left a (turned m a (m.turn st.store (st.frames a)) st)
  unfolding turned counted
  turned_turning keeps a st fit v on runs rest =
      let t = m.turn st.store (st.frames a) in
      let u = record (local_state st a) { frames = t.frames } in
      let e = local_state-turned m a t st in
      let mine = e a ∙ put_same number (local_state st) a u in
      record {
        orderly = orderly-turned m a t (On v) st on fit.orderly;
        others = λ x ne. subst (λ (y : LocalState F). AtWork (λ l. Admitted l y.frames) (λ k. Fits t.store k y.frames) y.next y.place) (sym (e x ∙ put_other number (local_state st) a u x ne))
            (work_map (λ l. Admitted l (st.frames x)) (λ k. Fits st.store k (st.frames x)) (λ k. Fits t.store k (st.frames x)) (λ k h. keeps.kept st.store (st.frames a) rest k (st.frames x) h) _ _ (fit.fits x));
        worker = v;
        on = on;
        runs = ap (λ (y : LocalState F). y.next) mine ∙ runs;
        fits = subst (λ (y : LocalState F). Fits t.store t.left y.frames) (sym mine) (keeps.turn st.store (st.frames a) rest);
      }

  turned_moves : (a : ℕ) (st : State S F) → (st.book.activity a).next ≡ Runs → Fits st.store Went (st.frames a) → Moves st (turned m a (m.turn st.store (st.frames a)) st)
  unfolding turned
  turned_moves a st runs rest =
      let t = m.turn st.store (st.frames a) in
      let u = record (local_state st a) { frames = t.frames } in
      let st1 = turned m a t st in
      ends_at st.store (acting m st) t.store _ st1.store (acting m st1) refl (ap (λ n. put nat_eq (acting m st) a (acts m n t.frames)) (sym runs) ∙ acting_put (local_state st) (local_state st1) a u (local_state-turned m a t st))
      (one_change st.store (acting m st) _ _ (ByTurn st.store (acting m st) a (st.frames a) (ap (λ k. acts m k (st.frames a)) runs) rest))

  finish_moves : (a : ℕ) (few : Bool) (o : Option F) (st : State S F) → (st.book.activity a).next ≡ Unwinds [] → m.anew (st.frames a) ≡ o → Moves st (finish a few o st)
  finish_moves a false o st unwound is = ended_moves a st
  finish_moves a true None st unwound is = ended_moves a st
  finish_moves a true (Some g) st unwound is =
      unchanged st _ _ a (record (local_state st a) { next = Runs; frames = g }) refl (local_state-anew a g st) (sym is ∙ ap (λ n. acts m n (st.frames a)) (sym unwound))

  next_fitting : (a : ℕ) (l : LockName) (locks : List LockName) (v : ℕ) (st : State S F) → Fitting Admitted Fits st → place_of st.book.line a ≡ Some (On v) → (st.book.activity a).next ≡ Unwinds (l ∷ locks) → Fitting Admitted Fits (on_book (next_is a (Unwinds locks)) st)
  unfolding next_is
  next_fitting a l locks v st fit on is = record {
    orderly = orderly-next a (Unwinds locks) (On v) st on refl (λ e. absurd (cc e)) fit.orderly;
    fits = fits_put st.store (local_state st) _ a (record (local_state st a) { next = Unwinds locks }) (local_state-next a (Unwinds locks) st)
        (work_along (λ l. Admitted l (st.frames a)) (λ k. Fits st.store k (st.frames a)) _ (Unwinds (l ∷ locks)) _ (place_of st.book.line a) is refl (fit.fits a)) (λ x _. fit.fits x);
  }

  -- whoever asks in its turn may be let in
  asked : (a : ℕ) (st : State S F) (v : ℕ) → place_of st.book.line a ≡ Some (On v) → (st.book.activity a).next ≡ Runs → Admits m Admitted st
      → let t = m.turn st.store (st.frames a) in (l : LockName) → t.left ≡ Enter l → (turned m a t st).book.owner l ≢ Some a → Admitted l ((turned m a t st).frames a)
  unfolding turned counted
  asked a st v on runs admits l left owner =
      let t = m.turn st.store (st.frames a) in
      subst (Admitted l) (sym (put_same number st.frames a t.frames)) (admits a l (record { worker = v; on = on; runs = runs; left = left; owner = owner }))

  turn_moves : KeepsFits m Admitted Fits → (a : ℕ) (n : Next) (st : State S F) → Admits m Admitted st → Fitting Admitted Fits st → (v : ℕ) → place_of st.book.line a ≡ Some (On v) → (st.book.activity a).next ≡ n → Moves st (turn_by m a n st)
  turn_moves keeps a Runs st admits fit v on is =
      let t = m.turn st.store (st.frames a) in
      let rest = runs_at (λ l. Admitted l (st.frames a)) (λ k. Fits st.store k (st.frames a)) _ _ (On v) is on (fit.fits a) in
      then_moves st (turned m a t st) _ _ (turned_moves a st is rest) (serve_moves keeps a t.left (turned m a t st) (asked a st v on is admits) (turned_turning keeps a st fit v on is rest))
  turn_moves keeps a (WillTrap n) st admits fit v on is = due_moves a n n 0 st is
  turn_moves keeps a (Unwinds (l ∷ locks)) st admits fit v on is =
      let st1 = on_book (next_is a (Unwinds locks)) st in
      then_moves st st1 _ _ (unchanged st _ _ a (record (local_state st a) { next = Unwinds locks }) refl (local_state-next a (Unwinds locks) st) (ap (λ n. acts m n (st.frames a)) (sym is))) (release_moves a l st1 (next_fitting a l locks v st fit on is))
  turn_moves keeps a (Unwinds []) st admits fit v on is = finish_moves a _ (m.anew (st.frames a)) st is refl
  turn_moves keeps a Gone st admits fit v on is = Unchanged st.store (acting m st)

  step_moves : KeepsFits m Admitted Fits → (w : ℕ) (o : Option ℕ) (st : State S F) → Admits m Admitted st → Fitting Admitted Fits st → on_worker w st.book.line ≡ o → Moves st (step_of m w o st)
  step_moves keeps w None st admits fit is =
      elim (first_ready st.book.line) as (λ o. Moves st (dispatch w o st)) [
        | None ↦ Unchanged st.store (acting m st)
        | Some a ↦ stands_moves a (On w) st.book.events st
      ]
  step_moves keeps w (Some a) st admits fit is = let r = found_on st.book.line w a fit.orderly.once is in turn_moves keeps a _ st admits fit r.0 r.1 refl

  tick_moves : (o : Option ℕ) (st : State S F) → Moves st (tick_of o st)
  unfolding ready stands
  tick_moves None st = Unchanged st.store (acting m st)
  tick_moves (Some a) st = stands_moves a (Ready (st.book.activity a).priority) st.book.events st

  happens_in_moves : KeepsFits m Admitted Fits → (c : Choice) (st : State S F) → Admits m Admitted st → Fitting Admitted Fits st → Moves st (happens_in m c st)
  happens_in_moves keeps (Step w) st admits fit = step_moves keeps w (on_worker w st.book.line) st admits fit refl
  happens_in_moves keeps (Tick w) st admits fit = tick_moves (on_worker w st.book.line) st

  pub happens_moves : KeepsFits m Admitted Fits → (c : Choice) (st : State S F) → Admits m Admitted st → Fitting Admitted Fits st → Moves st (happens m c st)
  unfolding happens
  happens_moves keeps c st admits fit =
      elim (outcome st.book) as (λ o. Moves st (if_going o (happens_in m c st) st)) [
        | outcome_is.Going ↦ happens_in_moves keeps c st admits fit
        | outcome_is.Ended ↦ Unchanged st.store (acting m st)
        | outcome_is.Dead ↦ Unchanged st.store (acting m st)
        | outcome_is.Spent ↦ Unchanged st.store (acting m st)
      ]

  module _ (fitting : KeepsFits m Admitted Fits) (Tidy : S → (ℕ → Option F) → Type 0) (tidies : KeepsTidy m Admitted Fits Tidy) where
    pub happens_tidy : (c : Choice) (st : State S F) → Admits m Admitted st → Fitting Admitted Fits st → Tidy st.store (acting m st) → Tidy (happens m c st).store (acting m (happens m c st))
    happens_tidy c st admits fit h = tidy_along Tidy tidies st.store (acting m st) (happens m c st).store (acting m (happens m c st)) (happens_moves fitting c st admits fit) h

    pub execution_tidy : (cs : List Choice) (st : State S F) → AlwaysAdmits m Admitted st → Fitting Admitted Fits st → Tidy st.store (acting m st) → Tidy (execution m cs st).store (acting m (execution m cs st))
    execution_tidy [] st always fit h = h
    execution_tidy (c ∷ cs) st always fit h = execution_tidy cs (happens m c st) (λ later. always (c ∷ later)) (happens_fitting m Admitted Fits fitting c st (always []) fit) (happens_tidy c st (always []) fit h)
