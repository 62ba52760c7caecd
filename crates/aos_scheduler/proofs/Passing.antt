-- Those who ask for locks, and to whom locks pass.
use Rattle.std.proofs.Common.{◌≡◌, ◌≢◌, ℕ, suc, ◌+◌, ◌<◌, ◌≤◌, List, [], ◌∷◌, ◌++◌, length, refl, sym, ap, subst, ◌∙◌, arith, inl, inr}
use Rattle.std.specs.List.{Contains}
use Rattle.std.specs.Prelude.{Bool, true, false, not, if◌then◌else◌, Option, Some, None, is_some, get_or, slice_set, Vec}
use Rattle.std.specs.declared.alloc.Global.{Global}
use Rattle.std.proofs.lemmas.List.{append-nil as append_nil}
use Rattle.std.proofs.lemmas.Bool.Decides.{eqb_tells}
use Rattle.aos_base.specs.declared.limits.TheConstants.{MOST_LIVE}
use Rattle.aos_base.specs.declared.kernel.LockName.{LockName}
use Rattle.aos_base.specs.declared.kernel.Verdict.{Verdict}
use Rattle.aos_base.specs.declared.priority.Priority.{Priority}
use Rattle.aos_base.specs.Lock.{is_lock, Waiting, Wants, Entry, Condition, enters, entrants, waiters, judged, heir}
use Rattle.aos_base.specs.Book as book
use Rattle.aos_base.specs.Book.{Stand, put, is_on, wanted, listed, waiting, place_of, leave_line}
use Rattle.aos_queue.specs.declared.links.Links.{Links}
use Rattle.aos_queue.specs.Lists.{room_of, KeepsOthers}
use Rattle.aos_queue.proofs.Members.{among, without-none}
use Rattle.aos_lock.specs.declared.locks.Locks.{Locks}
use Rattle.aos_lock.specs.declared.lock.Passed.{Passed}
use Rattle.aos_lock.specs.declared.lock.Passed.TheVariants as to
use Rattle.aos_lock.specs.Heirs.{queued, heir_by, by_waiter, passed_to, new_owner, after_passed, joined}
use Rattle.aos_lock.specs.Waits.{numbers, count_of, owner_of, entrants_in, waiters_in, numbers_in, StandsFor, IsUnawaited, SameWaiting, Belong as LocksBelong, KeepsLocks}
use Rattle.aos_lock.proofs.Rows.{passed_leaves}
use Rattle.aos_lock.proofs.Owns.{heir_shown}
use Rattle.aos_ready.specs.Order.{ready_in}
use Rattle.aos_scheduler.specs.declared.numbers.Numbers.{Numbers}
use Rattle.aos_scheduler.specs.declared.run_state.RunState.{RunState}
use Rattle.aos_scheduler.specs.declared.run_state.RunState.TheVariants as place
use Rattle.aos_scheduler.specs.declared.line.Line.{Line}
use Rattle.aos_scheduler.specs.Numbers.{number_of}
use Rattle.aos_scheduler.specs.Stands.{of_worker, HasLock, Stands, left_by}
use Rattle.aos_scheduler.proofs.Names.{lock_tells, by_lock, each_lock, put_same, put_other}
use Rattle.aos_scheduler.proofs.Readings.{elsewhere, stands_has, at_lock}
use Rattle.aos_scheduler.proofs.Shares.{ready_kept, ready_belong}
use Rattle.aos_scheduler.proofs.Places.{lock_numbers, ready_place, none_ready}
use Rattle.aos_scheduler.proofs.Moves.{OwnedBy, stands_still, left_same, Left, LeftAt, joined_same, Joined, JoinedAt}

-- a place at a lock is at that one alone
at_one : (k : LockName) (p : book.RunState) → at_lock k p ≡ true → (wants : Wants) × (p ≡ book.At k wants)
at_one k (book.On w) e = absurd (cc e)
at_one k (book.Ready m) e = absurd (cc e)
at_one k (book.At j wants) e =
    elim (lock_tells j k) [
      | inl h ↦ (wants, ap (λ x. book.At x wants) h.1)
      | inr h ↦ (let z : false ≡ true = sym (ap (λ q. is_some (if q then Some wants else None)) h.0) ∙ e in absurd (cc z))
    ]

-- one who joins the entrants or the waiters, by what it wants
joins_entrants : (awaits : Bool) (wants : Wants) (a : ℕ) (ns : List ℕ) → awaits ≡ not (enters wants) → joined (not awaits) a ns ≡ ns ++ numbers (entrants (record { activity = a; wants = wants } ∷ []))
joins_entrants awaits Entry a ns e = ap (λ b. joined (not b) a ns) e
joins_entrants awaits (Condition c) a ns e = ap (λ b. joined (not b) a ns) e ∙ sym (append_nil ns)

joins_waiters : (awaits : Bool) (wants : Wants) (a : ℕ) (ns : List ℕ) → awaits ≡ not (enters wants) → joined awaits a ns ≡ ns ++ numbers (waiters (record { activity = a; wants = wants } ∷ []))
joins_waiters awaits Entry a ns e = ap (λ b. joined b a ns) e ∙ sym (append_nil ns)
joins_waiters awaits (Condition c) a ns e = ap (λ b. joined b a ns) e

not_at : (k j : LockName) (wants : Wants) → j ≢ k → wanted k (book.At j wants) ≡ None
not_at k j wants ne = by_lock (λ q. (if q then Some wants else None) ≡ None) j k (λ e. absurd (ne e)) (λ _. refl)

module _ (l : Line) (line : List Stand) (owner : LockName → Option ℕ) (h : Stands l line owner) (lock : LockName) (n : ℕ) (is : number_of l.numbers lock ≡ Some n) where
  -- the lock as it stands
  pub lock_here : HasLock l (Some n) (waiting lock line) (owner lock)
  lock_here = subst (λ o. HasLock l o (waiting lock line) (owner lock)) is (h.locks lock)

  other_number : (k : LockName) (m : ℕ) → k ≢ lock → number_of l.numbers k ≡ Some m → m ≢ n
  other_number k m ne e same = ne (h.apart k lock n (e ∙ ap (λ x. Some x) same) is)

  -- those who wait for it stand at it
  pub waits_here : (x : ℕ) → Contains (numbers_in l.links l.locks n) x → (wants : Wants) × (place_of line x ≡ Some (book.At lock wants))
  waits_here x i =
      let k = lock_numbers l line owner h n lock_here.0 in
      let r = stands_has (at_lock k.0) line x h.once (k.2 x i) in
      let p = at_one k.0 r.0 r.2 in
      (p.0, r.1 ∙ ap (λ q. Some q) p.1 ∙ ap (λ j. Some (book.At j p.0)) (h.apart k.0 lock n k.1 is))

  -- and so aren't ready
  pub ready_apart : (a : ℕ) → ((p : Priority) → Contains (ready_in l.links l.ready p) a → ⊥) → (p : Priority) (x : ℕ) → Contains (ready_in l.links l.ready p) x → Contains (a ∷ numbers_in l.links l.locks n) x → ⊥
  ready_apart a out p x i j = elim (among a x (numbers_in l.links l.locks n) j) [
    | inl e ↦ out p (subst (λ y. Contains (ready_in l.links l.ready p) y) (sym e) i)
    | inr k ↦ (let w = waits_here x k in let z = sym (ready_place l line owner h p x i) ∙ w.1 in absurd (cc z))
  ]

  pub waiting_apart : (p : Priority) (x : ℕ) → Contains (ready_in l.links l.ready p) x → Contains (numbers_in l.links l.locks n) x → ⊥
  waiting_apart p x i k = let w = waits_here x k in let z = sym (ready_place l line owner h p x i) ∙ w.1 in absurd (cc z)

  -- the lock has another owner, and as many wait
  pub owner_changed : (links : Links) (locks : Locks) (o : Option ℕ) (touched : List ℕ) → SameWaiting l.links l.locks links locks n → owner_of locks n ≡ o → KeepsLocks l.links l.locks links locks n → LocksBelong links locks →
      KeepsOthers l.links links touched → ((p : Priority) (x : ℕ) → Contains (ready_in l.links l.ready p) x → Contains touched x → ⊥) → room_of links ≡ room_of l.links → Stands (record l { links = links; locks = locks }) line (put is_lock owner lock o)
  owner_changed links locks o touched list owned others belong keeps apart room =
      record {
        once = h.once;
        places = h.places;
        live = h.live;
        awake = h.awake;
        few = h.few;
        running = h.running;
        ready = λ p. h.ready p ∙ sym (ready_kept l.links links l.ready touched keeps h.queues apart p);
        locks = λ k. changed k (number_of l.numbers k) refl (h.locks k);
        named = λ m less. h.named m (subst (λ i. m < i) others.count less);
        apart = h.apart;
        room = subst (λ i. length l.places.items ≤ i) (sym room) h.room;
        queues = ready_belong l.links links l.ready touched keeps h.queues apart;
        waits = belong;
      }
    where
      changed : (k : LockName) (m : Option ℕ) → number_of l.numbers k ≡ m → HasLock l m (waiting k line) (owner k) → HasLock (record l { links = links; locks = locks }) m (waiting k line) (put is_lock owner lock o k)
      changed k None e had =
          let ne : k ≢ lock = λ s. (let z : None ≡ Some n = sym e ∙ ap (number_of l.numbers) s ∙ is in absurd (cc z)) in
          (had.0, put_other owner lock o k ne ∙ had.1)
      changed k (Some m) e had =
          elim (lock_tells k lock) [
            | inl s ↦ (let z : Some m ≡ Some n = sym e ∙ ap (number_of l.numbers) s.1 ∙ is in let same : m ≡ n = cc z in (
              subst (λ i. m < i) (sym others.count) had.0,
              stands_still l.links links l.locks locks m (waiting k line) (subst (λ i. SameWaiting l.links l.locks links locks i) (sym same) list) had.1,
              ap (owner_of locks) same ∙ owned ∙ sym (put_same owner lock o) ∙ ap (put is_lock owner lock o) (sym s.1),
            ))
            | inr d ↦ (let ne = other_number k m d.1 e in
                (subst (λ i. m < i) (sym others.count) had.0, stands_still l.links links l.locks locks m (waiting k line) (others.lists m ne) had.1, others.owners m ne ∙ had.2 ∙ sym (put_other owner lock o k d.1)))
          ]

  -- one who stood nowhere waits for it, behind all others
  pub joined_lock : (a : ℕ) (awaits : Bool) (wants : Wants) (links : Links) (locks : Locks) (places : Vec RunState Global) (live : ℕ) → awaits ≡ not (enters wants) → place_of line a ≡ None → a < length l.places.items →
      entrants_in links locks n ≡ joined (not awaits) a (entrants_in l.links l.locks n) → waiters_in links locks n ≡ joined awaits a (waiters_in l.links l.locks n) → owner_of locks n ≡ owner_of l.locks n →
      KeepsLocks l.links l.locks links locks n → LocksBelong links locks → KeepsOthers l.links links (a ∷ numbers_in l.links l.locks n) → room_of links ≡ room_of l.links →
      places.items ≡ slice_set l.places.items a (place.At lock awaits) → l.live < MOST_LIVE → live ≡ suc l.live →
      Joined l (record l { links = links; locks = locks; places = places; live = live }) a (place.At lock awaits) (book.At lock wants)
  joined_lock a awaits wants links locks places live told at within es ws owned others belong keeps room set few one =
      let touched = a ∷ numbers_in l.links l.locks n in
      let apart = ready_apart a (none_ready l line owner h a at) in
      record {
        within = within;
        places = set;
        is = (wants, refl, told);
        live = one;
        few = few;
        awake = refl;
        running = λ v. sym (append_nil (of_worker (get_or l.running v None)));
        ready = λ q. ready_kept l.links links l.ready touched keeps h.queues apart q ∙ sym (append_nil (ready_in l.links l.ready q));
        waiting = λ k m e less. elim (lock_tells k lock) [
          | inl s ↦ (let z : Some m ≡ Some n = sym e ∙ ap (number_of l.numbers) s.1 ∙ is in let same : m ≡ n = cc z in
              subst (λ i. JoinedAt l now i (listed (wanted k (book.At lock wants)) a [])) (sym same)
              (by_lock (λ q. JoinedAt l now n (listed (if q then Some wants else None) a [])) lock k (λ _. joins) (λ ne. absurd (ne (sym s.1)))))
          | inr d ↦ subst (λ w. JoinedAt l now m (listed w a [])) (sym (not_at k lock wants (λ s. d.1 (sym s)))) (joined_same l now m (others.lists m (other_number k m d.1 e)))
        ];
        unnumbered = λ k e. not_at k lock wants (λ s. (let z : None ≡ Some n = sym e ∙ ap (number_of l.numbers) (sym s) ∙ is in absurd (cc z)));
        owners = λ m less. elim (eqb_tells m n) [
          | inl s ↦ ap (owner_of locks) s.1 ∙ owned ∙ ap (owner_of l.locks) (sym s.1)
          | inr d ↦ others.owners m d.1
        ];
        numbers = refl;
        count = others.count;
        room = room;
        queues = ready_belong l.links links l.ready touched keeps h.queues apart;
        waits = belong;
      }
    where
      now : Line
      now = record l { links = links; locks = locks; places = places; live = live }

      joins : JoinedAt l now n (record { activity = a; wants = wants } ∷ [])
      joins = record {
        entrants = es ∙ joins_entrants awaits wants a (entrants_in l.links l.locks n) told;
        waiters = ws ∙ joins_waiters awaits wants a (waiters_in l.links l.locks n) told;
      }

  -- its heir stands nowhere
  pub left_lock : (b : ℕ) (passed : Passed) (links : Links) (locks : Locks) (places : Vec RunState Global) (live : ℕ) (wants : Wants) → place_of line b ≡ Some (book.At lock wants) → b < length l.places.items →
      new_owner passed ≡ Some b → entrants_in links locks n ≡ after_passed passed (entrants_in l.links l.locks n) → waiters_in links locks n ≡ after_passed passed (waiters_in l.links l.locks n) →
      KeepsLocks l.links l.locks links locks n → LocksBelong links locks → KeepsOthers l.links links (numbers_in l.links l.locks n) → room_of links ≡ room_of l.links →
      places.items ≡ slice_set l.places.items b place.Nowhere → suc live ≡ l.live → Left l (record l { links = links; locks = locks; places = places; live = live }) b (book.At lock wants)
  left_lock b passed links locks places live wants at within to es ws others belong keeps room set one =
      let touched = numbers_in l.links l.locks n in
      record {
        within = within;
        places = set;
        live = one;
        awake = refl;
        running = λ v. sym (without-none b (of_worker (get_or l.running v None)) (λ i. elsewhere (is_on v) line b (book.At lock wants) h.once at refl (subst (λ ns. Contains ns b) (sym (h.running v)) i)));
        ready = λ q. ready_kept l.links links l.ready touched keeps h.queues waiting_apart q ∙ sym (without-none b (ready_in l.links l.ready q) (λ i. (let z = sym at ∙ ready_place l line owner h q b i in absurd (cc z))));
        waiting = λ m less. elim (eqb_tells m n) [
          | inl s ↦ subst (λ i. LeftAt l now b i) (sym s.1) goes
          | inr d ↦ left_same l now b m (others.lists m d.1) (λ i. d.1 (number_at m b wants less i at))
        ];
        numbers = refl;
        count = others.count;
        room = room;
        queues = ready_belong l.links links l.ready touched keeps h.queues waiting_apart;
        waits = belong;
      }
    where
      now : Line
      now = record l { links = links; locks = locks; places = places; live = live }

      goes : LeftAt l now b n
      goes = record {
        entrants = es ∙ passed_leaves passed b (entrants_in l.links l.locks n) to;
        waiters = ws ∙ passed_leaves passed b (waiters_in l.links l.locks n) to;
      }

      number_at : (m x : ℕ) (wants : Wants) → m < count_of l.locks → Contains (numbers_in l.links l.locks m) x → place_of line x ≡ Some (book.At lock wants) → m ≡ n
      number_at m x wants less i there =
          let k = lock_numbers l line owner h m less in
          let r = stands_has (at_lock k.0) line x h.once (k.2 x i) in
          let p = at_one k.0 r.0 r.2 in
          let z : Some (book.At k.0 p.0) ≡ Some (book.At lock wants) = ap (λ q. Some q) (sym p.1) ∙ sym r.1 ∙ there in
          let same : k.0 ≡ lock = cc z in
          let y : Some m ≡ Some n = sym k.1 ∙ ap (number_of l.numbers) same ∙ is in
          cc y

  pub owned_left : (links : Links) (locks : Locks) (m : Line) (o : Option ℕ) → m.locks ≡ locks → owner_of locks n ≡ o → KeepsLocks l.links l.locks links locks n → (k : LockName) → OwnedBy m (number_of l.numbers k) (put is_lock owner lock o k)
  owned_left links locks m o set owned others k = owned_by (number_of l.numbers k) refl (h.locks k)
    where
      owned_by : (x : Option ℕ) → number_of l.numbers k ≡ x → HasLock l x (waiting k line) (owner k) → OwnedBy m x (put is_lock owner lock o k)
      owned_by None e had =
          let ne : k ≢ lock = λ s. (let z : None ≡ Some n = sym e ∙ ap (number_of l.numbers) s ∙ is in absurd (cc z)) in
          put_other owner lock o k ne ∙ had.1
      owned_by (Some j) e had =
          elim (lock_tells k lock) [
            | inl s ↦ (let z : Some j ≡ Some n = sym e ∙ ap (number_of l.numbers) s.1 ∙ is in let same : j ≡ n = cc z in
                ap (λ x. owner_of x j) set ∙ ap (owner_of locks) same ∙ owned ∙ sym (put_same owner lock o) ∙ ap (put is_lock owner lock o) (sym s.1))
            | inr d ↦ ap (λ x. owner_of x j) set ∙ others.owners j (other_number k j d.1 e) ∙ had.2 ∙ sym (put_other owner lock o k d.1)
          ]

-- a lock that nobody has asked for gets a number
pub numbered : (l : Line) (line : List Stand) (owner : LockName → Option ℕ) (lock : LockName) (n : ℕ) (names : Numbers) (locks : Locks) → Stands l line owner → number_of l.numbers lock ≡ None → n ≡ count_of l.locks →
    ((k : LockName) → number_of names k ≡ put is_lock (number_of l.numbers) lock (Some n) k) → count_of locks ≡ count_of l.locks + 1 → owner_of locks n ≡ None → IsUnawaited l.links locks n →
    ((m : ℕ) → m < count_of l.locks → owner_of locks m ≡ owner_of l.locks m) → ((m : ℕ) → m < count_of l.locks → SameWaiting l.links l.locks l.links locks m) → LocksBelong l.links locks →
    Stands (record l { numbers = names; locks = locks }) line owner
numbered l line owner lock n names locks h none last set count free nobody owners lists belong =
    record {
      once = h.once;
      places = h.places;
      live = h.live;
      awake = h.awake;
      few = h.few;
      running = h.running;
      ready = h.ready;
      locks = λ k. each_lock (λ j. HasLock new (number_of names j) (waiting j line) (owner j)) lock
          (subst (λ o. HasLock new o (waiting lock line) (owner lock)) (sym here) (is_free (subst (λ o. HasLock l o (waiting lock line) (owner lock)) none (h.locks lock))))
          (λ j ne. subst (λ o. HasLock new o (waiting j line) (owner j)) (sym (there j ne)) (still j (number_of l.numbers j) (h.locks j))) k;
      named = λ m less. elim (eqb_tells m n) [
        | inl e ↦ (lock, here ∙ ap (λ x. Some x) (sym e.1))
        | inr d ↦ (let ne : m ≢ n = d.1 in let r = h.named m (below m less ne) in
            let other : r.0 ≢ lock = λ s. (let z : Some m ≡ None = sym r.1 ∙ ap (number_of l.numbers) s ∙ none in absurd (cc z)) in
            (r.0, there r.0 other ∙ r.1))
      ];
      apart = apart_after;
      room = h.room;
      queues = h.queues;
      waits = belong;
    }
  where
    new : Line
    new = record l { numbers = names; locks = locks }

    here : number_of names lock ≡ Some n
    here = set lock ∙ put_same (number_of l.numbers) lock (Some n)

    there : (k : LockName) → k ≢ lock → number_of names k ≡ number_of l.numbers k
    there k ne = set k ∙ put_other (number_of l.numbers) lock (Some n) k ne

    below : (m : ℕ) → m < count_of locks → m ≢ n → m < count_of l.locks
    below m less ne = let c : count_of locks ≡ count_of l.locks + 1 = count in let e : n ≡ count_of l.locks = last in omega (arith, less, ne, c, e)

    is_free : HasLock l None (waiting lock line) (owner lock) → HasLock new (Some n) (waiting lock line) (owner lock)
    is_free had = (
      (let e : n ≡ count_of l.locks = last in omega (arith, e, count)),
      record {
        entrants = nobody.entrants ∙ ap (λ es. numbers (entrants es)) (sym had.0);
        waiters = nobody.waiters ∙ ap (λ es. numbers (waiters es)) (sym had.0);
      },
      free ∙ sym had.1,
    )

    still : (k : LockName) (o : Option ℕ) → HasLock l o (waiting k line) (owner k) → HasLock new o (waiting k line) (owner k)
    still k None had = had
    still k (Some m) had = (omega (arith, had.0, count), stands_still l.links l.links l.locks locks m (waiting k line) (lists m had.0) had.1, owners m had.0 ∙ had.2)

    known : (k : LockName) (m : ℕ) → number_of l.numbers k ≡ Some m → m < count_of l.locks
    known k m e = (subst (λ o. HasLock l o (waiting k line) (owner k)) e (h.locks k)).0

    apart_after : (k j : LockName) (m : ℕ) → number_of names k ≡ Some m → number_of names j ≡ Some m → k ≡ j
    apart_after k j m e f = elim (lock_tells k lock) [
      | inl s ↦ elim (lock_tells j lock) [
        | inl t ↦ s.1 ∙ sym t.1
        | inr d ↦ (let z : Some n ≡ Some m = sym here ∙ ap (number_of names) (sym s.1) ∙ e in let same : n ≡ m = cc z in
            let low : m < count_of l.locks = known j m (sym (there j d.1) ∙ f) in absurd (omega (arith, same, last, low)))
      ]
      | inr d ↦ elim (lock_tells j lock) [
        | inl t ↦ (let z : Some n ≡ Some m = sym here ∙ ap (number_of names) (sym t.1) ∙ f in let same : n ≡ m = cc z in
            let low : m < count_of l.locks = known k m (sym (there k d.1) ∙ e) in absurd (omega (arith, same, last, low)))
        | inr c ↦ h.apart k j m (sym (there k d.1) ∙ e) (sym (there j c.1) ∙ f)
      ]
    ]

-- a passed lock, by its owner

pub left_some : (p : Passed) (b : ℕ) (line : List Stand) → new_owner p ≡ Some b → left_by p line ≡ leave_line b line
left_some to.Free b line e = absurd (cc e)
left_some (to.Entrant x) b line e = let z : x ≡ b = cc e in ap (λ y. leave_line y line) z
left_some (to.Waiter x) b line e = let z : x ≡ b = cc e in ap (λ y. leave_line y line) z

pub left_none : (p : Passed) (line : List Stand) → new_owner p ≡ None → left_by p line ≡ line
left_none to.Free line e = refl
left_none (to.Entrant x) line e = absurd (cc e)
left_none (to.Waiter x) line e = absurd (cc e)

-- the heir, by those who wait in the code and in the book
pub heir_is : (links : Links) (locks : Locks) (n : ℕ) (verdict : ℕ → ℕ → Verdict) (of : ℕ → Verdict) (es : List Waiting) (p : Passed) → StandsFor links locks n es →
    p ≡ passed_to (heir_by of (queued (entrants_in links locks n) (waiters_in links locks n))) → ((e : Waiting) → Contains es e → judged verdict e.activity e.wants ≡ judged (by_waiter of) e.activity e.wants) → p ≡ passed_to (heir verdict es)
heir_is links locks n verdict of es p had to agree =
    to ∙ (λ i. passed_to (heir_by of (queued (had.entrants i) (had.waiters i)))) ∙ ap passed_to (heir_shown verdict of es agree)
