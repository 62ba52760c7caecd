-- Who stands on a worker: no turn puts anybody on one, so a worker has one activity at most, and one that has none keeps none
-- while it makes no step.
use Rattle.std.proofs.Common.{◌≡◌, ◌≢◌, ℕ, ◌+◌, ◌<◌, ◌≤◌, List, [], ◌∷◌, ◌++◌, Bool, true, false, refl, sym, ◌∙◌, ap, subst, not, arith, inl, inr}
use Rattle.std.specs.Prelude.{if◌then◌else◌, nat_eq, ◌==◌, Option, Some, None}
use Rattle.std.proofs.lemmas.Bool.Decides.{eqb_tells}
use Rattle.aos_base.specs.declared.kernel.LockName.{LockName}
use Rattle.aos_base.specs.declared.kernel.Verdict.TheVariants.{Holds, Fails, Traps}
use Rattle.aos_base.specs.declared.kernel.Did.{Did}
use Rattle.aos_base.specs.declared.kernel.Did.TheVariants.{Went, Ended, Enter, Leave, Await, Start, Trapped}
use Rattle.aos_base.specs.declared.kernel.Event.{Event}
use Rattle.aos_base.specs.declared.kernel.Event.TheVariants as event
use Rattle.aos_base.specs.declared.kernel.Outcome.TheVariants as outcome_is
use Rattle.aos_base.specs.Lock.{Entry, Condition, Heir, Nobody, Entrant, Waiter, Trapping, heir}
use Rattle.aos_base.specs.Book.{RunState, Stand, On, Ready, At, Next, Runs, WillTrap, Unwinds, Gone, place_of, leave_line, move, first_at, is_on, waiting, tell, stands, ready, next_is, owned_by, counted, trapped, ended, restarted, born, on_worker, first_ready, is_full, outcome}
use Rattle.aos_base.specs.Machine.{Choice, Step, Tick, Turn, Machine, State, on_book, with_frames, go_past, pass, release, trap, enter, await, start, serve, turned, finish, turn_by, dispatch, step_of, tick_of, happens_in, if_going, happens, execution}
use Rattle.aos_concurrency.specs.Private.{of_worker, NoneOf}
use Rattle.aos_concurrency.proofs.Tables.{number, by_case}

abbrev pub one_if : Bool → ℕ
one_if true = 1
one_if false = 0

-- how many stand on a worker
abbrev pub on : ℕ → List Stand → ℕ
on w [] = 0
on w (s ∷ line) = one_if (is_on w s.place) + on w line

on_append : (w : ℕ) (line : List Stand) (s : Stand) → on w (line ++ s ∷ []) ≡ on w line + one_if (is_on w s.place)
on_append w [] s = omega arith
on_append w (x ∷ line) s = let ih = on_append w line s in omega arith

on_leave : (w a : ℕ) (line : List Stand) → on w (leave_line a line) ≤ on w line
on_leave w a [] = omega arith
on_leave w a (s ∷ line) =
    let ih = on_leave w a line in
    elim (s.activity == a) as (λ q. on w (if not q then s ∷ leave_line a line else leave_line a line) ≤ on w (s ∷ line)) [
      | true ↦ omega (arith, ih)
      | false ↦ omega (arith, ih)
    ]

on_move : (w a : ℕ) (p : RunState) (line : List Stand) → on w (move a p line) ≤ on w line + one_if (is_on w p)
on_move w a p line = let e = on_append w (leave_line a line) (record { activity = a; place = p }) in let l = on_leave w a line in omega arith

-- nobody stands on a worker that has none
pub none_on : (w : ℕ) (line : List Stand) → on_worker w line ≡ None → on w line ≡ 0
none_on w [] e = refl
none_on w (s ∷ line) e =
    (elim (is_on w s.place) as (λ q. (if q then Some s.activity else first_at (is_on w) line) ≡ None → one_if q + on w line ≡ 0) [
      | true ↦ λ h. absurd (cc h)
      | false ↦ λ h. let ih = none_on w line h in omega (arith, ih)
    ]) e

pub on_none : (w : ℕ) (line : List Stand) → on w line ≡ 0 → on_worker w line ≡ None
on_none w [] e = refl
on_none w (s ∷ line) e =
    (elim (is_on w s.place) as (λ q. one_if q + on w line ≡ 0 → (if q then Some s.activity else first_at (is_on w) line) ≡ None) [
      | true ↦ λ h. absurd (omega (arith, h))
      | false ↦ λ h. on_none w line (omega (arith, h))
    ]) e

-- where somebody stands on it, it has an activity
pub on_some : (w : ℕ) (line : List Stand) → 0 < on w line → (a : ℕ) × (on_worker w line ≡ Some a)
on_some w [] h = absurd (omega arith)
on_some w (s ∷ line) h =
    (elim (is_on w s.place) as (λ q. 0 < one_if q + on w line → (a : ℕ) × ((if q then Some s.activity else first_at (is_on w) line) ≡ Some a)) [
      | true ↦ λ _. (s.activity, refl)
      | false ↦ λ g. on_some w line (omega (arith, g))
    ]) h

-- Where one at most does, two activities that stand on it are one

stands_on : (w : ℕ) (p : RunState) → p ≡ On w → one_if (is_on w p) ≡ 1
stands_on w p is = ap (λ q. one_if (is_on w q)) is ∙ by_case number (λ q. one_if q ≡ 1) w w (λ _. refl) (λ ne. absurd (ne refl))

counts_one : (w a : ℕ) (line : List Stand) → place_of line a ≡ Some (On w) → 1 ≤ on w line
counts_one w a [] at = absurd (cc at)
counts_one w a (s ∷ line) at =
    by_case number (λ q. (if q then Some s.place else place_of line a) ≡ Some (On w) → 1 ≤ on w (s ∷ line)) a s.activity
    (λ _ h. let is : s.place ≡ On w = cc h in let one = stands_on w s.place is in omega arith)
    (λ _ h. let ih = counts_one w a line h in omega arith)
    at

pub one_place : (w a b : ℕ) (line : List Stand) → on w line ≤ 1 → place_of line a ≡ Some (On w) → place_of line b ≡ Some (On w) → a ≡ b
one_place w a b [] one at bt = absurd (cc at)
one_place w a b (s ∷ line) one at bt =
    by_case number (λ q. (if q then Some s.place else place_of line a) ≡ Some (On w) → a ≡ b) a s.activity
    (λ e h. by_case number (λ q. (if q then Some s.place else place_of line b) ≡ Some (On w) → a ≡ b) b s.activity
    (λ f _. e ∙ sym f)
    (λ _ k. absurd (let is : s.place ≡ On w = cc h in let here = stands_on w s.place is in let there = counts_one w b line k in omega arith))
    bt)
    (λ _ h. by_case number (λ q. (if q then Some s.place else place_of line b) ≡ Some (On w) → a ≡ b) b s.activity
    (λ _ k. absurd (let is : s.place ≡ On w = cc k in let here = stands_on w s.place is in let there = counts_one w a line h in omega arith))
    (λ _ k. one_place w a b line (omega arith) h k)
    bt)
    at

-- Its activity leaves

leaves_on : (w a : ℕ) (line : List Stand) → on_worker w line ≡ Some a → on w (leave_line a line) < on w line
leaves_on w a [] e = absurd (cc e)
leaves_on w a (s ∷ line) e =
    let l = on_leave w a line in
    (elim (is_on w s.place) as (λ q. is_on w s.place ≡ q → (if q then Some s.activity else first_at (is_on w) line) ≡ Some a → on w (leave_line a (s ∷ line)) < one_if q + on w line) [
      | true ↦ λ _ h. let z : s.activity ≡ a = cc h in gone z
      | false ↦ λ f h. let ih = stays f (leaves_on w a line h) in omega (arith, ih)
    ]) refl e
  where
    gone : s.activity ≡ a → on w (leave_line a (s ∷ line)) < 1 + on w line
    gone z = elim (eqb_tells s.activity a) [
      | inl t ↦ subst (λ q. on w (if not q then s ∷ leave_line a line else leave_line a line) < 1 + on w line) (sym t.0) (let l = on_leave w a line in omega arith)
      | inr t ↦ absurd (t.1 z)
    ]

    stays : is_on w s.place ≡ false → on w (leave_line a line) < on w line → on w (leave_line a (s ∷ line)) < on w line
    stays f ih = let o : one_if (is_on w s.place) ≡ 0 = ap one_if f in
        elim (s.activity == a) as (λ q. on w (if not q then s ∷ leave_line a line else leave_line a line) < on w line) [
          | true ↦ ih
          | false ↦ omega (arith, ih, o)
        ]

module _ {S F : Type 0} (m : Machine S F) (w n : ℕ) where
  abbrev Most : State S F → Type 0
  Most st = on w st.book.line ≤ n

  trap_most : (b k c : ℕ) (st : State S F) → Most st → Most (trap m b k c st)
  unfolding trap trapped next_is
  trap_most b k c st h = h

  past_most : (b : ℕ) (st : State S F) → Most st → Most (go_past m b st)
  unfolding go_past
  past_most b st h = h

  stands_most : (b : ℕ) (p : RunState) (e : List Event) (st : State S F) → is_on w p ≡ false → Most st → Most (on_book (λ k. stands b p (record k { events = e })) st)
  unfolding stands
  stands_most b p e st off h = let t = on_move w b p st.book.line in let o : one_if (is_on w p) ≡ 0 = ap one_if off in omega arith

  next_most : (b : ℕ) (x : Next) (st : State S F) → Most st → Most (on_book (next_is b x) st)
  unfolding next_is
  next_most b x st h = h

  ended_most : (b : ℕ) (st : State S F) → Most st → Most (on_book (ended b) st)
  unfolding ended next_is
  ended_most b st h = let t = on_leave w b st.book.line in omega arith

  anew_most : (b : ℕ) (g : F) (st : State S F) → Most st → Most (on_book (restarted b) (with_frames b g st))
  unfolding restarted
  anew_most b g st h = h

  born_most : (p o : ℕ) (st : State S F) → Most st → Most (on_book (born p) (with_frames st.book.started (m.body st.store o) st))
  unfolding born
  born_most p o st h = let t = on_move w st.book.started (Ready p) st.book.line in omega arith

  turned_most : (b : ℕ) (t : Turn S F) (st : State S F) → Most st → Most (turned m b t st)
  unfolding turned counted
  turned_most b t st h = h

  heir_most : (b : ℕ) (l : LockName) (e : Event) (st : State S F) → Most st → Most (go_past m b (on_book (λ k. ready b (owned_by l (Some b) (tell e k))) st))
  unfolding go_past ready owned_by
  heir_most b l e st h = let t = on_move w b (Ready (st.book.activity b).priority) st.book.line in omega arith

  pass_most : (x : ℕ) (l : LockName) (k : Heir) (st : State S F) → Most st → Most (pass m x l k st)
  unfolding next_is ready owned_by
  pass_most x l Nobody st h = h
  pass_most x l (Entrant b) st h = heir_most b l (event.Pass l x b false) st h
  pass_most x l (Waiter b) st h = heir_most b l (event.Pass l x b true) st h
  pass_most x l (Trapping b k) st h = let t = on_move w b (Ready (st.book.activity b).priority) st.book.line in omega arith

  release_most : (x : ℕ) (l : LockName) (st : State S F) → Most st → Most (release m x l st)
  unfolding release owned_by
  release_most x l st h =
      let verdict = λ (b c : ℕ). m.verdict st.store (st.frames b) c in
      pass_most x l (heir verdict (waiting l st.book.line)) (on_book (owned_by l None) st) h

  enter_most : (b : ℕ) (l : LockName) (o : Option ℕ) (st : State S F) → Most st → Most (enter m b l o st)
  unfolding go_past owned_by
  enter_most b l None st h = h
  enter_most b l (Some x) st h =
      elim (nat_eq x b) as (λ q. Most (if q then trap m b 9 0 st else on_book (λ y. stands b (At l Entry) (tell (event.Wait l b false) y)) st)) [
        | true ↦ trap_most b 9 0 st h
        | false ↦ stands_most b (At l Entry) (st.book.events ++ event.Wait l b false ∷ []) st refl h
      ]

  serve_most : (b : ℕ) (k : Did) (st : State S F) → Most st → Most (serve m b k st)
  serve_most b Went st h = h
  serve_most b Ended st h = ended_most b st h
  serve_most b (Enter l) st h = enter_most b l (st.book.owner l) st h
  serve_most b (Leave l) st h = release_most b l (go_past m b st) (past_most b st h)
  serve_most b (Await l c) st h =
      let e = st.book.events ++ event.Wait l b true ∷ [] in
      elim (m.verdict st.store (st.frames b) c) as (λ v. Most (await m b l c v st)) [
        | Holds ↦ past_most b st h
        | Traps k ↦ trap_most b k 0 st h
        | Fails ↦ release_most b l (on_book (λ x. stands b (At l (Condition c)) (tell (event.Wait l b true) x)) st) (stands_most b (At l (Condition c)) e st refl h)
      ]
  serve_most b (Start k) st h =
      elim (is_full st.book) as (λ q. Most (start m b k q st)) [
        | true ↦ trap_most b 13 0 st h
        | false ↦ past_most b _ (born_most (m.priority st.store k) k st h)
      ]
  serve_most b (Trapped k c) st h = trap_most b k c st h

  finish_most : (b : ℕ) (few : Bool) (k : Option F) (st : State S F) → Most st → Most (finish b few k st)
  finish_most b true (Some g) st h = anew_most b g st h
  finish_most b true None st h = ended_most b st h
  finish_most b false k st h = ended_most b st h

  turn_most : (b : ℕ) (x : Next) (st : State S F) → Most st → Most (turn_by m b x st)
  turn_most b Runs st h = let t = m.turn st.store (st.frames b) in serve_most b t.left (turned m b t st) (turned_most b t st h)
  turn_most b (WillTrap k) st h = trap_most b k 0 st h
  turn_most b (Unwinds (l ∷ locks)) st h = release_most b l (on_book (next_is b (Unwinds locks)) st) (next_most b (Unwinds locks) st h)
  turn_most b (Unwinds []) st h = finish_most b _ _ st h
  turn_most b Gone st h = h

  tick_most : (o : Option ℕ) (st : State S F) → Most st → Most (tick_of o st)
  unfolding ready stands
  tick_most None st h = h
  tick_most (Some b) st h = let t = on_move w b (Ready (st.book.activity b).priority) st.book.line in omega arith

  -- a dispatch of another worker
  dispatch_most : (v : ℕ) (k : Option ℕ) (st : State S F) → v ≢ w → Most st → Most (dispatch v k st)
  unfolding stands
  dispatch_most v None st far h = h
  dispatch_most v (Some b) st far h = let t = on_move w b (On v) st.book.line in let o : one_if (v == w) ≡ 0 = off in omega arith
    where
      off : one_if (v == w) ≡ 0
      off = elim (eqb_tells v w) [
        | inl e ↦ absurd (far e.1)
        | inr e ↦ ap one_if e.0
      ]

  step_most : (v : ℕ) (o : Option ℕ) (st : State S F) → v ≢ w → Most st → Most (step_of m v o st)
  step_most v None st far h = dispatch_most v (first_ready st.book.line) st far h
  step_most v (Some b) st far h = turn_most b (st.book.activity b).next st h

  other_in : (c : Choice) (st : State S F) → of_worker c ≢ w → Most st → Most (happens_in m c st)
  other_in (Step v) st far h = step_most v (on_worker v st.book.line) st far h
  other_in (Tick v) st far h = tick_most (on_worker v st.book.line) st h

  -- an entry of another worker puts nobody on this one
  pub other_most : (c : Choice) (st : State S F) → of_worker c ≢ w → Most st → Most (happens m c st)
  unfolding happens
  other_most c st far h =
      elim (outcome st.book) as (λ o. Most (if_going o (happens_in m c st) st)) [
        | outcome_is.Going ↦ other_in c st far h
        | outcome_is.Ended ↦ h
        | outcome_is.Dead ↦ h
        | outcome_is.Spent ↦ h
      ]

module _ {S F : Type 0} (m : Machine S F) (w : ℕ) where
  dispatch_one : (k : Option ℕ) (st : State S F) → on_worker w st.book.line ≡ None → on w (dispatch w k st).book.line ≤ 1
  unfolding stands
  dispatch_one None st none = let e = none_on w st.book.line none in omega arith
  dispatch_one (Some b) st none = let e = none_on w st.book.line none in let t = on_move w b (On w) st.book.line in let o : one_if (w == w) ≡ 1 = stands_on w (On w) refl in omega arith

  step_one : (o : Option ℕ) (st : State S F) → on_worker w st.book.line ≡ o → on w st.book.line ≤ 1 → on w (step_of m w o st).book.line ≤ 1
  step_one None st e h = dispatch_one (first_ready st.book.line) st e
  step_one (Some b) st e h = turn_most m w 1 b (st.book.activity b).next st h

  own_one : (c : Choice) (st : State S F) → of_worker c ≡ w → on w st.book.line ≤ 1 → on w (happens_in m c st).book.line ≤ 1
  own_one (Step v) st e h = subst (λ x. on w (step_of m x (on_worker x st.book.line) st).book.line ≤ 1) (sym e) (step_one (on_worker w st.book.line) st refl h)
  own_one (Tick v) st e h = tick_most m w 1 (on_worker v st.book.line) st h

  own_happens : (c : Choice) (st : State S F) → of_worker c ≡ w → on w st.book.line ≤ 1 → on w (happens m c st).book.line ≤ 1
  unfolding happens
  own_happens c st e h =
      elim (outcome st.book) as (λ o. on w (if_going o (happens_in m c st) st).book.line ≤ 1) [
        | outcome_is.Going ↦ own_one c st e h
        | outcome_is.Ended ↦ h
        | outcome_is.Dead ↦ h
        | outcome_is.Spent ↦ h
      ]

  happens_one : (c : Choice) (st : State S F) → on w st.book.line ≤ 1 → on w (happens m c st).book.line ≤ 1
  happens_one c st h = elim (eqb_tells (of_worker c) w) [
    | inl e ↦ own_happens c st e.1 h
    | inr e ↦ other_most m w 1 c st e.1 h
  ]

  -- a worker has one activity at most
  pub execution_one : (cs : List Choice) (st : State S F) → on w st.book.line ≤ 1 → on w (execution m cs st).book.line ≤ 1
  execution_one [] st h = h
  execution_one (c ∷ cs) st h = execution_one cs (happens m c st) (happens_one c st h)

  -- so after a tick it has none
  pub ticked_none : (a : ℕ) (st : State S F) → outcome st.book ≡ outcome_is.Going → on_worker w st.book.line ≡ Some a → on w st.book.line ≤ 1 → on_worker w (happens m (Tick w) st).book.line ≡ None
  unfolding happens ready stands
  ticked_none a st going has one =
      let l = leaves_on w a st.book.line has in
      let e = on_append w (leave_line a st.book.line) (record { activity = a; place = Ready (st.book.activity a).priority }) in
      let z : on w (move a (Ready (st.book.activity a).priority) st.book.line) ≡ 0 = omega arith in
      subst (λ o. on_worker w (if_going o (tick_of (on_worker w st.book.line) st) st).book.line ≡ None) (sym going)
      (subst (λ o. on_worker w (tick_of o st).book.line ≡ None) (sym has) (on_none w (move a (Ready (st.book.activity a).priority) st.book.line) z))

  -- and after a dispatch it has one
  pub dispatched_some : (a : ℕ) (st : State S F) → outcome st.book ≡ outcome_is.Going → on_worker w st.book.line ≡ None → first_ready st.book.line ≡ Some a
      → (b : ℕ) × (on_worker w (happens m (Step w) st).book.line ≡ Some b)
  unfolding happens stands
  dispatched_some a st going none there =
      let e = on_append w (leave_line a st.book.line) (record { activity = a; place = On w }) in
      let o : one_if (w == w) ≡ 1 = stands_on w (On w) refl in
      let z = on_some w (move a (On w) st.book.line) (omega arith) in (
        z.0,
        subst (λ q. on_worker w (if_going q (step_of m w (on_worker w st.book.line) st) st).book.line ≡ Some z.0) (sym going)
            (subst (λ q. on_worker w (step_of m w q st).book.line ≡ Some z.0) (sym none)
            (subst (λ q. on_worker w (dispatch w q st).book.line ≡ Some z.0) (sym there) z.1)),
      )

  -- and while others alone make entries it keeps none
  pub keeps_none : (cs : List Choice) (st : State S F) → NoneOf w cs → on_worker w st.book.line ≡ None → on_worker w (execution m cs st).book.line ≡ None
  keeps_none [] st far none = none
  keeps_none (c ∷ cs) st far none =
      keeps_none cs (happens m c st) far.1 (on_none w (happens m c st).book.line (let z = none_on w st.book.line none in let y = other_most m w 0 c st far.0 (omega arith) in omega arith))
