-- In every state of every execution of a program its locks are as they are to be, and each release is in order.
use Rattle.std.proofs.Common.{◌≡◌, ◌≢◌, ℕ, suc, List, [], ◌∷◌, ◌++◌, true, false, Some, None, refl, sym, ap, ◌∙◌, subst}
use Rattle.std.specs.Prelude.{if◌then◌else◌, nat_eq}
use Rattle.std.proofs.lemmas.List.{append-nil}
use Rattle.aos_base.specs.declared.kernel.LockName.{LockName}
use Rattle.aos_base.specs.declared.kernel.Verdict.{Verdict}
use Rattle.aos_base.specs.declared.kernel.Verdict.TheVariants.{Fails}
use Rattle.aos_base.specs.declared.kernel.Event.{Event}
use Rattle.aos_base.specs.declared.kernel.Event.TheVariants as event
use Rattle.aos_base.specs.declared.kernel.Did.{Did}
use Rattle.aos_base.specs.declared.kernel.Did.TheVariants.{Leave, Await}
use Rattle.aos_base.specs.declared.kernel.Outcome.TheVariants.{Going}
use Rattle.aos_base.specs.Lock.{is_lock, Wants, Entry, Condition, Waiting, Heir, Nobody, Entrant, Waiter, Trapping, heir, without, after_heir}
use Rattle.aos_base.specs.Book.{Book, Activity, Next, On, Ready, At, listed, stands, Runs, Unwinds, put, place_of, move, waiting, on_worker, outcome, tell, ready, next_is, owned_by, counted}
use Rattle.aos_base.specs.Machine.{Choice, Step, Tick, Turn, Machine, State, on_book, go_past, pass, release, await, serve, turned, turn_by, step_of, if_going, happens, execution}
use Rattle.aos_concurrency.specs.Orderly.{Distinct}
use Rattle.aos_concurrency.specs.Sound.{Sound}
use Rattle.aos_concurrency.proofs.Tables.{number, lock, by_case, is_itself, put_same, put_other}
use Rattle.aos_concurrency.proofs.Lines.{StandsAs, heir_stands, heir_same, found_on, place_of-move, distinct-move}
use Rattle.aos_concurrency.proofs.Queues.{waiting-move, absent}
use Rattle.aos_concurrency.proofs.Records.{records_traps, execution_told}
use Rattle.aos_concurrency.proofs.Begin.{start_sound}
use Rattle.aos_concurrency.proofs.Steps.{execution_sound}
use Rattle.aos_concurrency.proofs.Excludes.{sound_mutual}
use Rattle.aos_typed.specs.Program.{Program}
use Rattle.aos_typed.specs.Source.{source, first_store, first_frames, first_state}
use Rattle.aos_sim.specs.Monitors.{owner_in, IsPassed, IsInside, Leaving, Unwinding, ReleasesInOrder, AwaitsInOrder, HasMonitors}
use Rattle.aos_sim.proofs.Regions.{Stands, source_keeps}

differ : (k l : LockName) → is_lock k l ≡ false → k ≢ l
differ k l ne e = let is : is_lock k l ≡ true = subst (λ x. is_lock k x ≡ true) e (is_itself lock k) in absurd (let no : true ≡ false = sym is ∙ ne in cc no)

-- what becomes of an activity leaves its priority
priority_same : (activity : ℕ → Activity) (a b : ℕ) (new : Activity) → new.priority ≡ (activity a).priority → (put nat_eq activity a new b).priority ≡ (activity b).priority
priority_same activity a b new same =
    by_case number (λ q. (if q then new else activity b).priority ≡ (activity b).priority) b a (λ e. same ∙ ap (λ x. (activity x).priority) (sym e)) (λ _. refl)

-- one who stands in the lock's list is given the lock
heir_passed : (l : LockName) (b : ℕ) (w : Wants) (to : Heir) (e : Event) (k : Book) → Distinct k.line → place_of k.line b ≡ Some (At l w) → owner_in to ≡ Some b → ((es : List Waiting) → after_heir to es ≡ without b es)
    → IsPassed k (ready b (owned_by l (Some b) (tell e (owned_by l None k)))) l (waiting l k.line) to
unfolding ready owned_by
heir_passed l b w to e k d at is after =
    let p = (k.activity b).priority in
    let free = put is_lock k.owner l None in
    record {
      owner = put_same lock free l (Some b) ∙ sym is;
      list = waiting-move l b (Ready p) k.line ∙ append-nil (without b (waiting l k.line)) ∙ sym (after (waiting l k.line));
      ready = λ a given.
          let both : Some b ≡ Some a = sym is ∙ given in
          let same : b ≡ a = cc both in
          subst (λ x. place_of (move b (Ready p) k.line) x ≡ Some (Ready (k.activity x).priority)) same (place_of-move b (Ready p) k.line b ∙ put_same number (place_of k.line) b (Some (Ready p)));
      others = λ j ne.
          let apart = differ j l ne in (
            put_other lock free l (Some b) j apart ∙ put_other lock k.owner l None j apart,
            waiting-move j b (Ready p) k.line ∙ append-nil (without b (waiting j k.line))
                ∙ absent j b k.line d (λ v there. let both : Some (At l w) ≡ Some (At j v) = sym at ∙ there in let same : l ≡ j = cc both in apart (sym same)),
          );
    }

-- and nobody is
nobody_passed : (l : LockName) (a : ℕ) (k : Book) → IsPassed k (tell (event.Free l a) (owned_by l None k)) l (waiting l k.line) Nobody
unfolding owned_by
nobody_passed l a k =
    record { owner = put_same lock k.owner l None; list = refl; ready = λ x e. absurd (cc e); others = λ j ne. (put_other lock k.owner l None j (differ j l ne), refl) }

module _ {S F : Type 0} (m : Machine S F) where
  pass_passed : (verdict : ℕ → ℕ → Verdict) (a : ℕ) (l : LockName) (h : Heir) (st : State S F) → Distinct st.book.line → StandsAs verdict l st.book.line h → IsPassed st.book (pass m a l h (on_book (owned_by l None) st)).book l (waiting l st.book.line) h
  unfolding go_past next_is
  pass_passed verdict a l Nobody st d stands = nobody_passed l a st.book
  pass_passed verdict a l (Entrant b) st d stands = heir_passed l b Entry (Entrant b) (event.Pass l a b false) st.book d stands refl (λ es. refl)
  pass_passed verdict a l (Waiter b) st d stands = heir_passed l b (Condition stands.0) (Waiter b) (event.Pass l a b true) st.book d stands.1 refl (λ es. refl)
  pass_passed verdict a l (Trapping b n) st d stands =
      let h = heir_passed l b (Condition stands.0) (Trapping b n) (event.Pass l a b true) st.book d stands.1 refl (λ es. refl) in
      record { owner = h.owner; list = h.list; ready = h.ready; others = h.others }

  release_passed : (a : ℕ) (l : LockName) (st : State S F) → Distinct st.book.line → let es = waiting l st.book.line in IsPassed st.book (release m a l st).book l es (heir (λ b c. m.verdict st.store (st.frames b) c) es)
  unfolding release
  release_passed a l st d =
      let verdict = λ (b c : ℕ). m.verdict st.store (st.frames b) c in
      pass_passed verdict a l (heir verdict (waiting l st.book.line)) st d (heir_stands verdict l st.book.line d)

  -- behind a turn's own part
  turned_passed : (a : ℕ) (l : LockName) (t : Turn S F) (st : State S F) (c : Book) (es : List Waiting) (h : Heir) → IsPassed (turned m a t st).book c l es h → IsPassed st.book c l es h
  unfolding turned counted
  turned_passed a l t st c es h x =
      record {
        owner = x.owner;
        list = x.list;
        ready = λ b e.
            let n = if t.begun then suc (st.book.activity a).begun else (st.book.activity a).begun in
            x.ready b e ∙ ap (λ p. Some (Ready p)) (priority_same st.book.activity a b (record (st.book.activity a) { begun = n }) refl);
        others = x.others;
      }

  turned_line : (a : ℕ) (t : Turn S F) (st : State S F) → (turned m a t st).book.line ≡ st.book.line
  unfolding turned counted
  turned_line a t st = refl

  turned_store : (a : ℕ) (t : Turn S F) (st : State S F) → (turned m a t st).store ≡ t.store
  unfolding turned
  turned_store a t st = refl

  turned_frames : (a : ℕ) (t : Turn S F) (st : State S F) → (turned m a t st).frames ≡ put nat_eq st.frames a t.frames
  unfolding turned
  turned_frames a t st = refl

  -- going past the work changes the activity's own frames alone
  past_book : (a : ℕ) (st : State S F) → (go_past m a st).book ≡ st.book
  unfolding go_past
  past_book a st = refl

  past_store : (a : ℕ) (st : State S F) → (go_past m a st).store ≡ st.store
  unfolding go_past
  past_store a st = refl

  past_frames : (a : ℕ) (st : State S F) (b : ℕ) → b ≢ a → (go_past m a st).frames b ≡ st.frames b
  unfolding go_past
  past_frames a st b ne = put_other number st.frames a (m.past (st.frames a)) b ne

  -- a release changes no store
  pass_store : (a : ℕ) (l : LockName) (h : Heir) (st : State S F) → (pass m a l h st).store ≡ st.store
  unfolding go_past
  pass_store a l Nobody st = refl
  pass_store a l (Entrant b) st = refl
  pass_store a l (Waiter b) st = refl
  pass_store a l (Trapping b n) st = refl

  release_store : (a : ℕ) (l : LockName) (st : State S F) → (release m a l st).store ≡ st.store
  unfolding release
  release_store a l st =
      let verdict = λ (b c : ℕ). m.verdict st.store (st.frames b) c in
      pass_store a l (heir verdict (waiting l st.book.line)) (on_book (owned_by l None) st)

  unwound_passed : (a : ℕ) (l : LockName) (locks : List LockName) (st : State S F) (c : Book) (es : List Waiting) (h : Heir) → IsPassed (on_book (next_is a (Unwinds locks)) st).book c l es h → IsPassed st.book c l es h
  unfolding next_is
  unwound_passed a l locks st c es h x =
      record {
        owner = x.owner;
        list = x.list;
        ready = λ b e. x.ready b e ∙ ap (λ p. Some (Ready p)) (priority_same st.book.activity a b (record (st.book.activity a) { next = Unwinds locks }) refl);
        others = x.others;
      }

  unwound_line : (a : ℕ) (locks : List LockName) (st : State S F) → (on_book (next_is a (Unwinds locks)) st).book.line ≡ st.book.line
  unfolding next_is
  unwound_line a locks st = refl

  -- an entry that is a turn of an activity
  entry_is : (w a : ℕ) (st : State S F) → outcome st.book ≡ Going → on_worker w st.book.line ≡ Some a → (n : Next) → (st.book.activity a).next ≡ n → happens m (Step w) st ≡ turn_by m a n st
  unfolding happens
  entry_is w a st going on n next =
      ap (λ o. if_going o (step_of m w (on_worker w st.book.line) st) st) going ∙ ap (λ o. step_of m w o st) on ∙ ap (λ k. turn_by m a k st) next

  -- whoever stands on a worker waits for no lock
  waits_not : (st : State S F) (w a : ℕ) → Distinct st.book.line → on_worker w st.book.line ≡ Some a → (l : LockName) (v : Wants) → place_of st.book.line a ≢ Some (At l v)
  waits_not st w a d on l v at =
      let f = found_on st.book.line w a d on in
      let both : Some (On f.0) ≡ Some (At l v) = sym f.1 ∙ at in absurd (cc both)

  -- A release gives the lock to the heir by the verdicts over the frames as they were before the entry, since the activity that releases
  -- it doesn't wait.

  abbrev InOrder : LockName → State S F → State S F → Type 0
  InOrder l st next = let es = waiting l st.book.line in IsPassed st.book next.book l es (heir (λ b k. m.verdict next.store (st.frames b) k) es)

  -- one whose book has the same line
  released_so : (a : ℕ) (l : LockName) (st st1 : State S F) → Distinct st.book.line → st1.book.line ≡ st.book.line
      → ((b k : ℕ) → place_of st.book.line b ≡ Some (At l (Condition k)) → st1.frames b ≡ st.frames b)
      → (let next = release m a l st1 in let es = waiting l st.book.line in IsPassed st1.book next.book l es (heir (λ b k. m.verdict next.store (st.frames b) k) es))
  released_so a l st st1 d line frames =
      let next = release m a l st1 in
      let judge : ℕ → ℕ → Verdict = λ b k. m.verdict st1.store (st1.frames b) k in
      let judge' : ℕ → ℕ → Verdict = λ b k. m.verdict next.store (st.frames b) k in
      let same : heir judge (waiting l st.book.line) ≡ heir judge' (waiting l st.book.line) =
      heir_same judge judge' l st.book.line d (λ b k at. λ j. m.verdict (sym (release_store a l st1) j) (frames b k at j) k) in
      subst (λ h. IsPassed st1.book next.book l (waiting l st.book.line) h) same
      (subst (λ xs. IsPassed st1.book next.book l (waiting l xs) (heir judge (waiting l xs))) line (release_passed a l st1 (subst Distinct (sym line) d)))

  leaving_passed : (w a : ℕ) (l : LockName) (st : State S F) → Distinct st.book.line → on_worker w st.book.line ≡ Some a → (work : Did) → (m.turn st.store (st.frames a)).left ≡ work → work ≡ Leave l → InOrder l st (turn_by m a Runs st)
  leaving_passed w a l st d on work is leaves =
      let t = m.turn st.store (st.frames a) in
      let st0 = turned m a t st in
      let st1 = go_past m a st0 in
      let next = release m a l st1 in
      let es = waiting l st.book.line in
      let h = heir (λ b k. m.verdict next.store (st.frames b) k) es in
      let line : st1.book.line ≡ st.book.line = ap (λ (b : Book). b.line) (past_book a st0) ∙ turned_line a t st in
      let others : (b k : ℕ) → place_of st.book.line b ≡ Some (At l (Condition k)) → st1.frames b ≡ st.frames b = λ b k at.
      let ne : b ≢ a = λ e. waits_not st w a d on l (Condition k) (subst (λ x. place_of st.book.line x ≡ Some (At l (Condition k))) e at) in
      past_frames a st0 b ne ∙ ap (λ f. f b) (turned_frames a t st) ∙ put_other number st.frames a t.frames b ne in
      subst (λ u. InOrder l st (serve m a u st0)) (sym (is ∙ leaves))
      (turned_passed a l t st next.book es h (subst (λ b. IsPassed b next.book l es h) (past_book a st0) (released_so a l st st1 d line others)))

  unwinding_passed : (a : ℕ) (l : LockName) (locks : List LockName) (st : State S F) → Distinct st.book.line → InOrder l st (turn_by m a (Unwinds (l ∷ locks)) st)
  unwinding_passed a l locks st d =
      let st1 = on_book (next_is a (Unwinds locks)) st in
      let next = release m a l st1 in
      let es = waiting l st.book.line in
      unwound_passed a l locks st next.book es (heir (λ b k. m.verdict next.store (st.frames b) k) es)
      (released_so a l st st1 d (unwound_line a locks st) (λ b k at. refl))

  releases : (c : Choice) (st : State S F) → Distinct st.book.line → ReleasesInOrder m c st
  releases (Tick w) st d a l (Leaving going turn runs left) = absurd (cc turn)
  releases (Tick w) st d a l (Unwinding locks going turn unwinds) = absurd (cc turn)
  releases (Step w) st d a l (Leaving going turn runs left) =
      subst (InOrder l st) (sym (entry_is w a st going turn Runs runs)) (leaving_passed w a l st d turn (Leave l) left refl)
  releases (Step w) st d a l (Unwinding locks going turn unwinds) =
      subst (InOrder l st) (sym (entry_is w a st going turn (Unwinds (l ∷ locks)) unwinds)) (unwinding_passed a l locks st d)

  -- An activity that joins the waiters.

  abbrev waiter : ℕ → ℕ → Waiting
  waiter a k = record { activity = a; wants = Condition k }

  abbrev joins : ℕ → LockName → ℕ → Book → Book
  joins a l k b = stands a (At l (Condition k)) (tell (event.Wait l a true) b)

  joined_line : (a : ℕ) (l : LockName) (k : ℕ) (b : Book) → (joins a l k b).line ≡ move a (At l (Condition k)) b.line
  unfolding stands
  joined_line a l k b = refl

  -- it stands last in the lock's list, and in no other
  joined_list : (a : ℕ) (l : LockName) (k : ℕ) (b : Book) → Distinct b.line → ((j : LockName) (v : Wants) → place_of b.line a ≢ Some (At j v)) → waiting l (joins a l k b).line ≡ waiting l b.line ++ waiter a k ∷ []
  joined_list a l k b d nowhere =
      ap (waiting l) (joined_line a l k b) ∙ waiting-move l a (At l (Condition k)) b.line
      ∙ (λ j. absent l a b.line d (nowhere l) j ++ listed (if is_itself lock l j then Some (Condition k) else None) a [])

  joined_others : (a : ℕ) (l j : LockName) (k : ℕ) (b : Book) → Distinct b.line → ((j : LockName) (v : Wants) → place_of b.line a ≢ Some (At j v)) → is_lock j l ≡ false → waiting j (joins a l k b).line ≡ waiting j b.line
  joined_others a l j k b d nowhere apart =
      let other : is_lock l j ≡ false = by_case lock (λ q. q ≡ false) l j (λ e. absurd (differ j l apart (sym e))) (λ _. refl) in
      ap (waiting j) (joined_line a l k b) ∙ waiting-move j a (At l (Condition k)) b.line
      ∙ (λ i. absent j a b.line d (nowhere j) i ++ listed (if other i then Some (Condition k) else None) a [])
      ∙ append-nil (waiting j b.line)

  joined_passed : (a : ℕ) (l : LockName) (k : ℕ) (b c : Book) (es : List Waiting) (h : Heir) → Distinct b.line → ((j : LockName) (v : Wants) → place_of b.line a ≢ Some (At j v)) → IsPassed (joins a l k b) c l es h → IsPassed b c l es h
  unfolding stands
  joined_passed a l k b c es h d nowhere x =
      record {
        owner = x.owner;
        list = x.list;
        ready = x.ready;
        others = λ j apart. let o = x.others j apart in (o.0, o.1 ∙ joined_others a l j k b d nowhere apart);
      }

  awaiting_passed : (w a : ℕ) (l : LockName) (k : ℕ) (st : State S F) → Distinct st.book.line → on_worker w st.book.line ≡ Some a → (work : Did) → (m.turn st.store (st.frames a)).left ≡ work → work ≡ Await l k → (v : Verdict) → m.verdict (m.turn st.store (st.frames a)).store (m.turn st.store (st.frames a)).frames k ≡ v → v ≡ Fails
      → (let next = turn_by m a Runs st in let es = waiting l st.book.line ++ waiter a k ∷ [] in let frames = put nat_eq st.frames a (m.turn st.store (st.frames a)).frames in IsPassed st.book next.book l es (heir (λ b j. m.verdict next.store (frames b) j) es))
  awaiting_passed w a l k st d on work is awaits v fails not_so =
      let t = m.turn st.store (st.frames a) in
      let st0 = turned m a t st in
      let frames = put nat_eq st.frames a t.frames in
      let es = waiting l st.book.line ++ waiter a k ∷ [] in
      let In : State S F → Type 0 = λ next. IsPassed st.book next.book l es (heir (λ b j. m.verdict next.store (frames b) j) es) in
      let judged : m.verdict st0.store (st0.frames a) k ≡ Fails =
      (λ j. m.verdict (turned_store a t st j) (turned_frames a t st j a) k) ∙ ap (λ f. m.verdict t.store f k) (put_same number st.frames a t.frames) ∙ fails ∙ not_so in
      let st1 = on_book (joins a l k) st0 in
      let next = release m a l st1 in
      let same = turned_line a t st in
      let d0 : Distinct st0.book.line = subst Distinct (sym same) d in
      let nowhere : (j : LockName) (u : Wants) → place_of st0.book.line a ≢ Some (At j u) = λ j u at. waits_not st w a d on j u (subst (λ xs. place_of xs a ≡ Some (At j u)) same at) in
      let d1 : Distinct st1.book.line = subst Distinct (sym (joined_line a l k st0.book)) (distinct-move a (At l (Condition k)) st0.book.line d0) in
      let all : waiting l st1.book.line ≡ es = joined_list a l k st0.book d0 nowhere ∙ ap (λ xs. waiting l xs ++ waiter a k ∷ []) same in
      let judge : State S F → ℕ → ℕ → Verdict = λ s b j. m.verdict s.store (frames b) j in
      let passed : IsPassed st1.book next.book l es (heir (judge next) es) =
      subst (λ xs. IsPassed st1.book next.book l xs (heir (judge next) xs)) all
      (subst (λ f. IsPassed st1.book next.book l (waiting l st1.book.line) (heir f (waiting l st1.book.line)))
      (λ j b n. m.verdict (sym (release_store a l st1) j) (turned_frames a t st j b) n) (release_passed a l st1 d1)) in
      subst (λ u. In (serve m a u st0)) (sym (is ∙ awaits))
      (subst (λ u. In (await m a l k u st0)) (sym judged)
      (turned_passed a l t st next.book es (heir (judge next) es) (joined_passed a l k st0.book next.book es (heir (judge next) es) d0 nowhere passed)))

  awaits : (c : Choice) (st : State S F) → Distinct st.book.line → AwaitsInOrder m c st
  awaits (Tick w) st d a l k h = absurd (let e = h.turn in cc e)
  awaits (Step w) st d a l k h =
      let frames = put nat_eq st.frames a (m.turn st.store (st.frames a)).frames in
      let es = waiting l st.book.line ++ waiter a k ∷ [] in
      subst (λ next. IsPassed st.book next.book l es (heir (λ b j. m.verdict next.store (frames b) j) es)) (sym (entry_is w a st h.going h.turn Runs h.runs))
      (awaiting_passed w a l k st d h.turn (Await l k) h.left refl Fails h.fails refl)

module _ (p : Program) where
  sound : (budget : ℕ) (cs : List Choice) → Sound (source p) (Stands p) (execution (source p) cs (first_state p budget))
  sound budget cs =
      execution_sound (source p) (Stands p) (source_keeps p) cs (first_state p budget)
      (start_sound (first_store p) (first_frames p) budget (source p) (Stands p) tt refl)

pub has_monitors : (p : Program) → HasMonitors p
has_monitors p budget cs =
    let m = source p in
    let st = execution m cs (first_state p budget) in
    let mutual_ = sound_mutual m (Stands p) st (sound p budget cs) in
    let owner = λ (a : ℕ) (l : LockName) (h : IsInside m st a l). mutual_.owner a l h.inside h.awake in
    record {
      monitors = record {
        alone = λ a b l h k. let both : Some a ≡ Some b = sym (owner a l h) ∙ owner b l k in cc both;
        owner = owner;
        served = mutual_.served;
        ended = mutual_.ended;
        once = mutual_.once;
        traps = execution_told m cs (first_state p budget) refl;
        dead = mutual_.dead;
      };
      releases = λ c. releases m c st mutual_.once;
      awaits = λ c. awaits m c st mutual_.once;
      traps = λ c. records_traps m c st;
    }
