-- While a worker makes no step or tick, nobody touches its activity.
use Rattle.std.proofs.Common.{◌≡◌, ℕ, List, [], ◌∷◌, ◌++◌, Bool, true, false, refl, sym, ◌∙◌, ap, subst, not, ◌≢◌}
use Rattle.std.specs.Prelude.{if◌then◌else◌, nat_eq, Option, Some, None}
use Rattle.aos_base.specs.declared.kernel.LockName.{LockName}
use Rattle.aos_base.specs.declared.kernel.Verdict.{Verdict}
use Rattle.aos_base.specs.declared.kernel.Verdict.TheVariants.{Holds, Fails, Traps}
use Rattle.aos_base.specs.declared.kernel.Did.{Did}
use Rattle.aos_base.specs.declared.kernel.Did.TheVariants.{Went, Ended, Enter, Leave, Await, Start, Trapped}
use Rattle.aos_base.specs.declared.kernel.Event.{Event}
use Rattle.aos_base.specs.declared.kernel.Event.TheVariants as event
use Rattle.aos_base.specs.declared.kernel.Outcome.TheVariants as outcome_is
use Rattle.aos_base.specs.Lock.{Entry, Condition, Heir, Nobody, Entrant, Waiter, Trapping, heir}
use Rattle.aos_base.specs.Book.{RunState, Stand, On, Ready, At, Next, Runs, WillTrap, Unwinds, Gone, Activity, place_of, leave_line, move, first_at, is_on, waiting, tell, stands, ready, next_is, owned_by, counted, trapped, ended, restarted, born, on_worker, first_ready, is_full, outcome}
use Rattle.aos_base.specs.Machine.{Choice, Step, Tick, Turn, Machine, State, on_book, with_frames, go_past, pass, release, trap, enter, await, start, serve, turned, finish, turn_by, dispatch, step_of, tick_of, happens_in, if_going, happens, execution}
use Rattle.aos_concurrency.specs.Orderly.{Distinct, Orderly}
use Rattle.aos_concurrency.specs.Private.{steps, ArePrivate, GoesOn, settled, of_worker, NoneOf, IsLent}
use Rattle.aos_concurrency.proofs.Tables.{number, by_case, put_other}
use Rattle.aos_concurrency.proofs.Lines.{StandsAs, heir_stands, found, found_ready, place_of-move, place_of-leave, distinct-move}
use Rattle.aos_concurrency.proofs.LocalStates.{not_started, orderly-turned, live_there}
use Rattle.aos_concurrency.proofs.Itself.{happens_orderly}
use Rattle.aos_concurrency.proofs.Settles.{settle}

-- who is found first is so still when another leaves or comes

first-leave : (at : RunState → Bool) (a b : ℕ) (line : List Stand) → a ≢ b → first_at at line ≡ Some a → first_at at (leave_line b line) ≡ Some a
first-leave at a b [] ne is = absurd (cc is)
first-leave at a b (s ∷ line) ne is =
    by_case number (λ q. first_at at (if not q then s ∷ leave_line b line else leave_line b line) ≡ Some a) s.activity b
    (λ e. (elim (at s.place) as (λ q. (if q then Some s.activity else first_at at line) ≡ Some a → first_at at (leave_line b line) ≡ Some a) [
      | true ↦ λ h. absurd (let z : s.activity ≡ a = cc h in ne (sym z ∙ e))
      | false ↦ λ h. first-leave at a b line ne h
    ]) is)
    (λ _. (elim (at s.place) as (λ q. (if q then Some s.activity else first_at at line) ≡ Some a → (if q then Some s.activity else first_at at (leave_line b line)) ≡ Some a) [
      | true ↦ λ h. h
      | false ↦ λ h. first-leave at a b line ne h
    ]) is)

first-append : (at : RunState → Bool) (a : ℕ) (line : List Stand) (s : Stand) → first_at at line ≡ Some a → first_at at (line ++ s ∷ []) ≡ Some a
first-append at a [] s is = absurd (cc is)
first-append at a (t ∷ line) s is =
    (elim (at t.place) as (λ q. (if q then Some t.activity else first_at at line) ≡ Some a → (if q then Some t.activity else first_at at (line ++ s ∷ [])) ≡ Some a) [
      | true ↦ λ h. h
      | false ↦ λ h. first-append at a line s h
    ]) is

first-move : (at : RunState → Bool) (a b : ℕ) (p : RunState) (line : List Stand) → a ≢ b → first_at at line ≡ Some a → first_at at (move b p line) ≡ Some a
first-move at a b p line ne is = first-append at a (leave_line b line) (record { activity = b; place = p }) (first-leave at a b line ne is)

module _ {S F : Type 0} (m : Machine S F) (w a : ℕ) (r : Activity) (f : F) where
  abbrev Lent : State S F → Type 0
  Lent st = IsLent w a r f st

  trap_lent : (b n c : ℕ) (st : State S F) → a ≢ b → Lent st → Lent (trap m b n c st)
  unfolding trap trapped next_is
  trap_lent b n c st ne h = record { on = h.on; stands = h.stands; activity = put_other number st.book.activity b _ a ne ∙ h.activity; frames = h.frames }

  past_lent : (b : ℕ) (st : State S F) → a ≢ b → Lent st → Lent (go_past m b st)
  unfolding go_past
  past_lent b st ne h = record { on = h.on; stands = h.stands; activity = h.activity; frames = put_other number st.frames b _ a ne ∙ h.frames }

  stands_lent : (b : ℕ) (p : RunState) (e : List Event) (st : State S F) → a ≢ b → Lent st → Lent (on_book (λ k. stands b p (record k { events = e })) st)
  unfolding stands
  stands_lent b p e st ne h = record { on = first-move (is_on w) a b p st.book.line ne h.on; stands = place_of-move b p st.book.line a ∙ put_other number (place_of st.book.line) b (Some p) a ne ∙ h.stands; activity = h.activity; frames = h.frames }

  next_lent : (b : ℕ) (n : Next) (st : State S F) → a ≢ b → Lent st → Lent (on_book (next_is b n) st)
  unfolding next_is
  next_lent b n st ne h = record { on = h.on; stands = h.stands; activity = put_other number st.book.activity b _ a ne ∙ h.activity; frames = h.frames }

  ended_lent : (b : ℕ) (st : State S F) → a ≢ b → Lent st → Lent (on_book (ended b) st)
  unfolding ended next_is
  ended_lent b st ne h = record { on = first-leave (is_on w) a b st.book.line ne h.on; stands = place_of-leave b st.book.line a ∙ put_other number (place_of st.book.line) b None a ne ∙ h.stands; activity = put_other number st.book.activity b _ a ne ∙ h.activity; frames = h.frames }

  anew_lent : (b : ℕ) (g : F) (st : State S F) → a ≢ b → Lent st → Lent (on_book (restarted b) (with_frames b g st))
  unfolding restarted
  anew_lent b g st ne h = record { on = h.on; stands = h.stands; activity = put_other number st.book.activity b _ a ne ∙ h.activity; frames = put_other number st.frames b g a ne ∙ h.frames }

  born_lent : (p o : ℕ) (st : State S F) → a ≢ st.book.started → Lent st → Lent (on_book (born p) (with_frames st.book.started (m.body st.store o) st))
  unfolding born
  born_lent p o st ne h = record {
    on = first-move (is_on w) a st.book.started (Ready p) st.book.line ne h.on;
    stands = place_of-move st.book.started (Ready p) st.book.line a ∙ put_other number (place_of st.book.line) st.book.started (Some (Ready p)) a ne ∙ h.stands;
    activity = put_other number st.book.activity st.book.started _ a ne ∙ h.activity;
    frames = put_other number st.frames st.book.started _ a ne ∙ h.frames;
  }

  turned_lent : (b : ℕ) (t : Turn S F) (st : State S F) → a ≢ b → Lent st → Lent (turned m b t st)
  unfolding turned counted
  turned_lent b t st ne h = record { on = h.on; stands = h.stands; activity = put_other number st.book.activity b _ a ne ∙ h.activity; frames = put_other number st.frames b _ a ne ∙ h.frames }

  -- who stands elsewhere is another
  elsewhere : (st : State S F) → Lent st → (b : ℕ) (p : RunState) → place_of st.book.line b ≡ Some p → p ≢ On w → a ≢ b
  elsewhere st h b p at far e = far (let z = sym at ∙ ap (place_of st.book.line) (sym e) ∙ h.stands in let y : p ≡ On w = cc z in y)

  heir_lent : (b : ℕ) (l : LockName) (e : Event) (st : State S F) → a ≢ b → Lent st → Lent (go_past m b (on_book (λ k. ready b (owned_by l (Some b) (tell e k))) st))
  unfolding go_past ready owned_by
  heir_lent b l e st ne h =
      let p = Ready (st.book.activity b).priority in
      record { on = first-move (is_on w) a b p st.book.line ne h.on; stands = place_of-move b p st.book.line a ∙ put_other number (place_of st.book.line) b (Some p) a ne ∙ h.stands; activity = h.activity; frames = put_other number st.frames b _ a ne ∙ h.frames }

  pass_lent : (verdict : ℕ → ℕ → Verdict) (x : ℕ) (l : LockName) (k : Heir) (st : State S F) → StandsAs verdict l st.book.line k → Lent st → Lent (pass m x l k st)
  unfolding next_is ready owned_by
  pass_lent verdict x l Nobody st stand h = record { on = h.on; stands = h.stands; activity = h.activity; frames = h.frames }
  pass_lent verdict x l (Entrant b) st stand h = heir_lent b l (event.Pass l x b false) st (elsewhere st h b (At l Entry) stand (λ e. absurd (cc e))) h
  pass_lent verdict x l (Waiter b) st stand h = heir_lent b l (event.Pass l x b true) st (elsewhere st h b (At l (Condition stand.0)) stand.1 (λ e. absurd (cc e))) h
  pass_lent verdict x l (Trapping b n) st stand h =
      let p = Ready (st.book.activity b).priority in
      let ne = elsewhere st h b (At l (Condition stand.0)) stand.1 (λ e. absurd (cc e)) in
      record { on = first-move (is_on w) a b p st.book.line ne h.on; stands = place_of-move b p st.book.line a ∙ put_other number (place_of st.book.line) b (Some p) a ne ∙ h.stands; activity = put_other number st.book.activity b _ a ne ∙ h.activity; frames = h.frames }

  release_lent : (x : ℕ) (l : LockName) (st : State S F) → Distinct st.book.line → Lent st → Lent (release m x l st)
  unfolding release owned_by
  release_lent x l st once h =
      let verdict = λ (b c : ℕ). m.verdict st.store (st.frames b) c in
      pass_lent verdict x l (heir verdict (waiting l st.book.line)) (on_book (owned_by l None) st) (heir_stands verdict l st.book.line once) (record { on = h.on; stands = h.stands; activity = h.activity; frames = h.frames })

  enter_lent : (b : ℕ) (l : LockName) (o : Option ℕ) (st : State S F) → a ≢ b → Lent st → Lent (enter m b l o st)
  unfolding go_past owned_by
  enter_lent b l None st ne h = record { on = h.on; stands = h.stands; activity = h.activity; frames = put_other number st.frames b _ a ne ∙ h.frames }
  enter_lent b l (Some x) st ne h =
      elim (nat_eq x b) as (λ q. Lent (if q then trap m b 9 0 st else on_book (λ y. stands b (At l Entry) (tell (event.Wait l b false) y)) st)) [
        | true ↦ trap_lent b 9 0 st ne h
        | false ↦ stands_lent b (At l Entry) (st.book.events ++ event.Wait l b false ∷ []) st ne h
      ]

  once_stands : (b : ℕ) (p : RunState) (e : List Event) (st : State S F) → Distinct st.book.line → Distinct (on_book (λ k. stands b p (record k { events = e })) st).book.line
  unfolding stands
  once_stands b p e st d = distinct-move b p st.book.line d

  once_past : (b : ℕ) (st : State S F) → Distinct st.book.line → Distinct (go_past m b st).book.line
  unfolding go_past
  once_past b st d = d

  once_next : (b : ℕ) (n : Next) (st : State S F) → Distinct st.book.line → Distinct (on_book (next_is b n) st).book.line
  unfolding next_is
  once_next b n st d = d

  serve_lent : (b : ℕ) (k : Did) (st : State S F) → a ≢ b → Orderly st → Lent st → Lent (serve m b k st)
  serve_lent b Went st ne o h = h
  serve_lent b Ended st ne o h = ended_lent b st ne h
  serve_lent b (Enter l) st ne o h = enter_lent b l (st.book.owner l) st ne h
  serve_lent b (Leave l) st ne o h = release_lent b l (go_past m b st) (once_past b st o.once) (past_lent b st ne h)
  serve_lent b (Await l c) st ne o h =
      let e = st.book.events ++ event.Wait l b true ∷ [] in
      let p = At l (Condition c) in
      elim (m.verdict st.store (st.frames b) c) as (λ v. Lent (await m b l c v st)) [
        | Holds ↦ past_lent b st ne h
        | Traps n ↦ trap_lent b n 0 st ne h
        | Fails ↦ release_lent b l (on_book (λ x. stands b p (tell (event.Wait l b true) x)) st) (once_stands b p e st o.once) (stands_lent b p e st ne h)
      ]
  serve_lent b (Start k) st ne o h =
      elim (is_full st.book) as (λ q. Lent (start m b k q st)) [
        | true ↦ trap_lent b 13 0 st ne h
        | false ↦ past_lent b _ ne (born_lent (m.priority st.store k) k st (not_started st o a (live_there st o a (On w) h.stands)) h)
      ]
  serve_lent b (Trapped n c) st ne o h = trap_lent b n c st ne h

  finish_lent : (b : ℕ) (few : Bool) (k : Option F) (st : State S F) → a ≢ b → Lent st → Lent (finish b few k st)
  finish_lent b true (Some g) st ne h = anew_lent b g st ne h
  finish_lent b true None st ne h = ended_lent b st ne h
  finish_lent b false k st ne h = ended_lent b st ne h

  turn_lent : (b : ℕ) (n : Next) (p : RunState) (st : State S F) → a ≢ b → place_of st.book.line b ≡ Some p → Orderly st → Lent st → Lent (turn_by m b n st)
  turn_lent b Runs p st ne at o h =
      let t = m.turn st.store (st.frames b) in
      serve_lent b t.left (turned m b t st) ne (orderly-turned m b t p st at o) (turned_lent b t st ne h)
  turn_lent b (WillTrap n) p st ne at o h = trap_lent b n 0 st ne h
  turn_lent b (Unwinds (l ∷ locks)) p st ne at o h = release_lent b l (on_book (next_is b (Unwinds locks)) st) (once_next b (Unwinds locks) st o.once) (next_lent b (Unwinds locks) st ne h)
  turn_lent b (Unwinds []) p st ne at o h = finish_lent b _ _ st ne h
  turn_lent b Gone p st ne at o h = h

  -- another worker's activity
  on_another : (v b : ℕ) (st : State S F) → Orderly st → Lent st → v ≢ w → on_worker v st.book.line ≡ Some b → (p : RunState) × ((place_of st.book.line b ≡ Some p) × (a ≢ b))
  on_another v b st o h far is =
      let q = found (is_on v) st.book.line b o.once is in
      (q.0, (q.1, elsewhere st h b q.0 q.1 (λ e. absurd (far (sym (same_worker w (subst (λ x. is_on v x ≡ true) e q.2)))))))
    where
      same_worker : (u : ℕ) → nat_eq u v ≡ true → u ≡ v
      same_worker u t = by_case number (λ q. q ≡ true → u ≡ v) u v (λ e _. e) (λ _ z. absurd (cc z)) t

  step_lent : (v : ℕ) (o : Option ℕ) (st : State S F) → v ≢ w → Orderly st → Lent st → on_worker v st.book.line ≡ o → Lent (step_of m v o st)
  step_lent v None st far ord h is =
      (elim (first_ready st.book.line) as (λ k. first_ready st.book.line ≡ k → Lent (dispatch v k st)) [
        | None ↦ λ _. h
        | Some b ↦ λ e. let q = found_ready st.book.line b ord.once e in stands_lent b (On v) st.book.events st (elsewhere st h b (Ready q.0) q.1 (λ z. absurd (cc z))) h
      ]) refl
  step_lent v (Some b) st far ord h is = let q = on_another v b st ord h far is in turn_lent b (st.book.activity b).next q.0 st q.1.1 q.1.0 ord h

  tick_lent : (v : ℕ) (o : Option ℕ) (st : State S F) → v ≢ w → Orderly st → Lent st → on_worker v st.book.line ≡ o → Lent (tick_of o st)
  unfolding ready stands
  tick_lent v None st far ord h is = h
  tick_lent v (Some b) st far ord h is = let q = on_another v b st ord h far is in stands_lent b (Ready (st.book.activity b).priority) st.book.events st q.1.1 h

  happens_in_lent : (c : Choice) (st : State S F) → of_worker c ≢ w → Orderly st → Lent st → Lent (happens_in m c st)
  happens_in_lent (Step v) st far ord h = step_lent v (on_worker v st.book.line) st far ord h refl
  happens_in_lent (Tick v) st far ord h = tick_lent v (on_worker v st.book.line) st far ord h refl

  pub happens_lent : (c : Choice) (st : State S F) → of_worker c ≢ w → Orderly st → Lent st → Lent (happens m c st)
  unfolding happens
  happens_lent c st far ord h =
      elim (outcome st.book) as (λ o. Lent (if_going o (happens_in m c st) st)) [
        | outcome_is.Going ↦ happens_in_lent c st far ord h
        | outcome_is.Ended ↦ h
        | outcome_is.Dead ↦ h
        | outcome_is.Spent ↦ h
      ]

  pub execution_lent : (cs : List Choice) (st : State S F) → NoneOf w cs → Orderly st → Lent st → Lent (execution m cs st)
  execution_lent [] st far ord h = h
  execution_lent (c ∷ cs) st far ord h = execution_lent cs (happens m c st) far.1 (happens_orderly m c st ord) (happens_lent c st far.0 ord h)

  -- so private turns on the frames that were lent are steps of the worker, whatever others have done since
  pub settle_later : (cs : List Choice) (begun : List Bool) (g : F) (st : State S F) → r.next ≡ Runs → NoneOf w cs → Orderly st → Lent st → GoesOn a begun (execution m cs st).book → ArePrivate m f begun g → execution m (steps w begun) (execution m cs st) ≡ settled a g begun (execution m cs st)
  settle_later cs begun g st runs far ord h going private =
      let k = execution_lent cs st far ord h in
      settle m w a f g begun (execution m cs st) going k.on (ap (λ (x : Activity). x.next) k.activity ∙ runs) k.frames private
