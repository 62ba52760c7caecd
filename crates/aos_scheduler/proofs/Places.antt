-- Those who leave and join workers and the queues of the ready ones.
use Rattle.std.proofs.Common.{◌≡◌, ◌≢◌, ℕ, suc, ◌<◌, ◌≤◌, List, [], ◌∷◌, ◌++◌, length, refl, sym, ap, subst, ◌∙◌, ◌⊎◌, inl, inr}
use Rattle.std.specs.List.{Contains}
use Rattle.std.specs.Prelude.{true, false, not, ◌==◌, if◌then◌else◌, Option, Some, None, get_or, slice_set, Vec}
use Rattle.std.specs.declared.alloc.Global.{Global}
use Rattle.std.proofs.lemmas.Bool.{cases_lt}
use Rattle.std.proofs.lemmas.List.{get_or-set_same, get_or-set_other, get_or_past, length-set, append-nil as append_nil}
use Rattle.aos_base.specs.declared.limits.TheConstants.{MOST_LIVE}
use Rattle.aos_base.specs.declared.kernel.LockName.{LockName}
use Rattle.aos_base.specs.declared.priority.Priority.{Priority}
use Rattle.aos_base.specs.declared.priority.Priority.TheVariants.{Low, Normal, High}
use Rattle.aos_base.specs.Lock.{entrants, waiters}
use Rattle.aos_base.specs.Book as book
use Rattle.aos_base.specs.Book.{Stand, is_on, is_ready, is_at_lock, wanted, waiting, place_of}
use Rattle.aos_queue.specs.declared.links.Links.{Links}
use Rattle.aos_queue.specs.Lists.{without, KeepsOthers, SameTable}
use Rattle.aos_queue.proofs.Members.{here, there, among, none, without-none, differ}
use Rattle.aos_lock.specs.Waits.{numbers, count_of, numbers_in, WaitsNowhere}
use Rattle.aos_lock.proofs.Rows.{parts_within}
use Rattle.aos_lock.proofs.Changes.{still_belong, still_waiting}
use Rattle.aos_ready.specs.declared.ready.Ready.{Ready}
use Rattle.aos_ready.specs.Order.{number_of as priority_number, ready_in, all_ready, Belong as ReadyBelong}
use Rattle.aos_ready.proofs.Changes.{which}
use Rattle.aos_scheduler.specs.declared.run_state.RunState.{RunState}
use Rattle.aos_scheduler.specs.declared.run_state.RunState.TheVariants as place
use Rattle.aos_scheduler.specs.declared.line.Line.{Line}
use Rattle.aos_scheduler.specs.Numbers.{number_of}
use Rattle.aos_scheduler.specs.Stands.{standing, of_worker, HasLock, Stands}
use Rattle.aos_scheduler.proofs.Members.{by_case, each_at}
use Rattle.aos_scheduler.proofs.Readings.{nowhere, elsewhere, stands_has, has_stands, at_lock, waiting_standing}
use Rattle.aos_scheduler.proofs.Moves.{left_same, Left, joined_same, Joined}

-- a worker's activity, as a list
single : (o : Option ℕ) (a : ℕ) → Contains (of_worker o) a → o ≡ Some a
single None a i = absurd (none a i)
single (Some b) a i = elim (among b a [] i) [ inl e ↦ ap (λ x. Some x) e | inr j ↦ absurd (none a j) ]

without_single : (a : ℕ) → without a (a ∷ []) ≡ []
without_single a = by_case (λ q. (if not q then a ∷ [] else []) ≡ []) a a (λ e. refl) (λ ne. absurd (ne refl))

cleared : (running : List (Option ℕ)) (w : ℕ) → get_or (slice_set running w None) w None ≡ None
cleared running w = elim (cases_lt w (length running)) [
  | inl l ↦ get_or-set_same running w None None l
  | inr p ↦ get_or_past (slice_set running w None) w None (subst (λ n. n ≤ w) (sym (length-set running w None)) p)
]

either_within : (ns ms : List ℕ) (x : ℕ) → Contains (ns ++ ms) x → (Contains ns x) ⊎ (Contains ms x)
either_within [] ms x i = inr i
either_within (n ∷ ns) ms x i = elim (among n x (ns ++ ms) i) [
  | inl e ↦ inl (subst (λ k. Contains (n ∷ ns) k) e (here n ns))
  | inr j ↦ elim (either_within ns ms x j) [ inl k ↦ inl (there n x ns k) | inr k ↦ inr k ]
]

pub ready_within : (links : Links) (r : Ready) (x : ℕ) → Contains (all_ready links r) x → (p : Priority) × Contains (ready_in links r p) x
ready_within links r x i = elim (either_within (ready_in links r High) _ x i) [
  | inl j ↦ (High, j)
  | inr j ↦ elim (either_within (ready_in links r Normal) _ x j) [ inl k ↦ (Normal, k) | inr k ↦ (Low, k) ]
]

number_differs : (p q : Priority) → p ≢ q → (priority_number p == priority_number q) ≡ false
number_differs Low Low ne = absurd (ne refl)
number_differs Low Normal ne = refl
number_differs Low High ne = refl
number_differs Normal Low ne = refl
number_differs Normal Normal ne = absurd (ne refl)
number_differs Normal High ne = refl
number_differs High Low ne = refl
number_differs High Normal ne = refl
number_differs High High ne = absurd (ne refl)

-- a place that is ready is neither a worker's nor at a lock
ready_is : (n : ℕ) (p : book.RunState) → is_ready n p ≡ true → p ≡ book.Ready n
ready_is n (book.On w) e = absurd (cc e)
ready_is n (book.Ready m) e = by_case (λ q. q ≡ true → book.Ready m ≡ book.Ready n) m n (λ s _. ap (λ k. book.Ready k) s) (λ ne f. absurd (cc f)) e
ready_is n (book.At k wants) e = absurd (cc e)

module _ (l : Line) (line : List Stand) (owner : LockName → Option ℕ) (h : Stands l line owner) where
  -- those who wait for the lock of a number stand at the lock of its name
  pub lock_numbers : (n : ℕ) → n < count_of l.locks → (k : LockName) × (number_of l.numbers k ≡ Some n) × ((x : ℕ) → Contains (numbers_in l.links l.locks n) x → Contains (standing (at_lock k) line) x)
  lock_numbers n less =
      let k = h.named n less in
      let had : HasLock l (Some n) (waiting k.0 line) (owner k.0) = subst (λ o. HasLock l o (waiting k.0 line) (owner k.0)) k.1 (h.locks k.0) in
      let all : numbers_in l.links l.locks n ≡ numbers (entrants (waiting k.0 line)) ++ numbers (waiters (waiting k.0 line)) = λ i. had.1.entrants i ++ had.1.waiters i in (
        k.0,
        k.1,
        (λ x i. subst (λ ns. Contains ns x) (waiting_standing k.0 line) (parts_within (waiting k.0 line) x (subst (λ ns. Contains ns x) all i))),
      )

  -- one who doesn't stand at a lock waits for none
  pub not_waiting : (x : ℕ) → ((k : LockName) → Contains (standing (at_lock k) line) x → ⊥) → (n : ℕ) → n < count_of l.locks → Contains (numbers_in l.links l.locks n) x → ⊥
  not_waiting x out n less i = let k = lock_numbers n less in out k.0 (k.2 x i)

  pub idle : (x : ℕ) → ((k : LockName) → Contains (standing (at_lock k) line) x → ⊥) → WaitsNowhere l.links l.locks x
  idle x out = record { nowhere = not_waiting x out }

  pub ready_place : (p : Priority) (x : ℕ) → Contains (ready_in l.links l.ready p) x → place_of line x ≡ Some (book.Ready (priority_number p))
  ready_place p x i =
      let r = stands_has (is_ready (priority_number p)) line x h.once (subst (λ ns. Contains ns x) (sym (h.ready p)) i) in
      r.1 ∙ ap (λ q. Some q) (ready_is (priority_number p) r.0 r.2)

  pub ready_idle : (p : Priority) (x : ℕ) → Contains (ready_in l.links l.ready p) x → WaitsNowhere l.links l.locks x
  ready_idle p x i = idle x (λ k. elsewhere (at_lock k) line x (book.Ready (priority_number p)) h.once (ready_place p x i) refl)

  -- one who stands nowhere
  pub none_ready : (x : ℕ) → place_of line x ≡ None → (p : Priority) → Contains (ready_in l.links l.ready p) x → ⊥
  none_ready x none p i = nowhere (is_ready (priority_number p)) line x h.once none (subst (λ ns. Contains ns x) (sym (h.ready p)) i)

  pub none_idle : (x : ℕ) → place_of line x ≡ None → WaitsNowhere l.links l.locks x
  none_idle x none = idle x (λ k. nowhere (at_lock k) line x h.once none)

  pub not_ready : (x w : ℕ) → place_of line x ≡ Some (book.On w) → (p : Priority) → Contains (ready_in l.links l.ready p) x → ⊥
  not_ready x w at p i = let z = sym at ∙ ready_place p x i in absurd (cc z)

  -- an activity leaves its worker
  pub left_worker : (a w : ℕ) (running : List (Option ℕ)) (places : Vec RunState Global) (live awake : ℕ) → place_of line a ≡ Some (book.On w) → a < length l.places.items → running ≡ slice_set l.running w None → places.items ≡ slice_set l.places.items a place.Nowhere →
      suc live ≡ l.live → suc awake ≡ l.awake → Left l (record l { running = running; places = places; live = live; awake = awake }) a (book.On w)
  left_worker a w running places live awake at within is set one two = record {
    within = within;
    places = set;
    live = one;
    awake = two;
    running = λ v. subst (λ r. of_worker (get_or r v None) ≡ without a (of_worker (get_or l.running v None))) (sym is) (each_at (λ v. of_worker (get_or (slice_set l.running w None) v None) ≡ without a (of_worker (get_or l.running v None))) w here_on other_on v);
    ready = λ p. sym (without-none a (ready_in l.links l.ready p) (λ i. (let z = sym at ∙ ready_place p a i in absurd (cc z))));
    waiting = λ n less. left_same l (record l { running = running; places = places; live = live; awake = awake }) a n (record { entrants = refl; waiters = refl }) (not_waiting a (λ k. elsewhere (at_lock k) line a (book.On w) h.once at refl) n less);
    numbers = refl;
    count = refl;
    room = refl;
    queues = h.queues;
    waits = h.waits;
  }
    where
      here_on : of_worker (get_or (slice_set l.running w None) w None) ≡ without a (of_worker (get_or l.running w None))
      here_on =
          let inside : Contains (standing (is_on w) line) a = has_stands (is_on w) line a (book.On w) at (by_case (λ q. q ≡ true) w w (λ _. refl) (λ ne. absurd (ne refl))) in
          let s = single (get_or l.running w None) a (subst (λ ns. Contains ns a) (h.running w) inside) in
          ap of_worker (cleared l.running w) ∙ sym (ap (λ o. without a (of_worker o)) s ∙ without_single a)

      other_on : (v : ℕ) → v ≢ w → of_worker (get_or (slice_set l.running w None) v None) ≡ without a (of_worker (get_or l.running v None))
      other_on v ne =
          ap of_worker (get_or-set_other l.running w v None None ne)
          ∙ sym (without-none a (of_worker (get_or l.running v None)) (λ i. elsewhere (is_on v) line a (book.On w) h.once at (differ w v (λ e. ne (sym e))) (subst (λ ns. Contains ns a) (sym (h.running v)) i)))

  -- the first ready one leaves its queue
  pub left_ready : (a : ℕ) (p : Priority) (links : Links) (ready : Ready) (places : Vec RunState Global) (live awake : ℕ) → place_of line a ≡ Some (book.Ready (priority_number p)) → a < length l.places.items →
      ((q : Priority) → ready_in links ready q ≡ without a (ready_in l.links l.ready q)) → ReadyBelong links ready → KeepsOthers l.links links (all_ready l.links l.ready) → SameTable l.links links → places.items ≡ slice_set l.places.items a place.Nowhere →
      suc live ≡ l.live → suc awake ≡ l.awake → Left l (record l { links = links; ready = ready; places = places; live = live; awake = awake }) a (book.Ready (priority_number p))
  left_ready a p links ready places live awake at within lists belong keeps table set one two =
      let rests : (x : ℕ) → Contains (all_ready l.links l.ready) x → WaitsNowhere l.links l.locks x = λ x i. (let r = ready_within l.links l.ready x i in ready_idle r.0 x r.1) in
      record {
        within = within;
        places = set;
        live = one;
        awake = two;
        running = λ v. sym (without-none a (of_worker (get_or l.running v None)) (λ i. elsewhere (is_on v) line a (book.Ready (priority_number p)) h.once at refl (subst (λ ns. Contains ns a) (sym (h.running v)) i)));
        ready = lists;
        waiting = λ n less. left_same l (record l { links = links; ready = ready; places = places; live = live; awake = awake }) a n (still_waiting l.links links l.locks (all_ready l.links l.ready) keeps h.waits rests table.marks n)
            (not_waiting a (λ k. elsewhere (at_lock k) line a (book.Ready (priority_number p)) h.once at refl) n less);
        numbers = refl;
        count = refl;
        room = table.room;
        queues = belong;
        waits = still_belong l.links links l.locks (all_ready l.links l.ready) keeps h.waits rests;
      }

  -- one who stood nowhere stands on a worker
  pub joined_worker : (a w : ℕ) (running : List (Option ℕ)) (places : Vec RunState Global) (live awake : ℕ) → a < length l.places.items → w < length l.running → get_or l.running w None ≡ None → running ≡ slice_set l.running w (Some a) →
      places.items ≡ slice_set l.places.items a (place.On w) → l.live < MOST_LIVE → live ≡ suc l.live → awake ≡ suc l.awake → Joined l (record l { running = running; places = places; live = live; awake = awake }) a (place.On w) (book.On w)
  joined_worker a w running places live awake within fits free is set few one two = record {
    within = within;
    places = set;
    is = refl;
    live = one;
    few = few;
    awake = two;
    running = λ v. subst (λ r. of_worker (get_or r v None) ≡ of_worker (get_or l.running v None) ++ (if is_on v (book.On w) then a ∷ [] else [])) (sym is)
        (each_at (λ v. of_worker (get_or (slice_set l.running w (Some a)) v None) ≡ of_worker (get_or l.running v None) ++ (if is_on v (book.On w) then a ∷ [] else [])) w
        (ap of_worker (get_or-set_same l.running w (Some a) None fits) ∙ by_case (λ q. (a ∷ []) ≡ of_worker None ++ (if q then a ∷ [] else [])) w w (λ _. refl) (λ ne. absurd (ne refl)) ∙ ap (λ o. of_worker o ++ (if is_on w (book.On w) then a ∷ [] else [])) (sym free))
        (λ v ne. ap of_worker (get_or-set_other l.running w v (Some a) None ne) ∙ sym (append_nil (of_worker (get_or l.running v None))) ∙ ap (λ q. of_worker (get_or l.running v None) ++ (if q then a ∷ [] else [])) (sym (differ w v (λ e. ne (sym e)))))
        v);
    ready = λ q. sym (append_nil (ready_in l.links l.ready q));
    waiting = λ k n is less. joined_same l (record l { running = running; places = places; live = live; awake = awake }) n (record { entrants = refl; waiters = refl });
    unnumbered = λ k is. refl;
    owners = λ n less. refl;
    numbers = refl;
    count = refl;
    room = refl;
    queues = h.queues;
    waits = h.waits;
  }

  -- one who stood nowhere is ready
  pub joined_ready : (a : ℕ) (p : Priority) (links : Links) (ready : Ready) (places : Vec RunState Global) (live awake : ℕ) → place_of line a ≡ None → a < length l.places.items → ready_in links ready p ≡ ready_in l.links l.ready p ++ a ∷ [] →
      ((q : Priority) → q ≢ p → ready_in links ready q ≡ ready_in l.links l.ready q) → ReadyBelong links ready → KeepsOthers l.links links (a ∷ ready_in l.links l.ready p) → SameTable l.links links → places.items ≡ slice_set l.places.items a (place.Ready p) →
      l.live < MOST_LIVE → live ≡ suc l.live → awake ≡ suc l.awake → Joined l (record l { links = links; ready = ready; places = places; live = live; awake = awake }) a (place.Ready p) (book.Ready (priority_number p))
  joined_ready a p links ready places live awake at within last lists belong keeps table set few one two =
      let rests : (x : ℕ) → Contains (a ∷ ready_in l.links l.ready p) x → WaitsNowhere l.links l.locks x =
      λ x i. elim (among a x (ready_in l.links l.ready p) i) [ inl e ↦ subst (λ y. WaitsNowhere l.links l.locks y) e (none_idle a at) | inr j ↦ ready_idle p x j ] in
      record {
        within = within;
        places = set;
        is = refl;
        live = one;
        few = few;
        awake = two;
        running = λ v. sym (append_nil (of_worker (get_or l.running v None)));
        ready = λ q. elim (which q p) [
          | inl e ↦ subst (λ x. ready_in links ready x ≡ ready_in l.links l.ready x ++ (if is_ready (priority_number x) (book.Ready (priority_number p)) then a ∷ [] else [])) (sym e)
              (last ∙ by_case (λ b. ready_in l.links l.ready p ++ a ∷ [] ≡ ready_in l.links l.ready p ++ (if b then a ∷ [] else [])) (priority_number p) (priority_number p) (λ _. refl) (λ ne. absurd (ne refl)))
          | inr ne ↦ lists q ne ∙ sym (append_nil (ready_in l.links l.ready q)) ∙ ap (λ b. ready_in l.links l.ready q ++ (if b then a ∷ [] else [])) (sym (number_differs p q (λ e. ne (sym e))))
        ];
        waiting = λ k n is less. joined_same l (record l { links = links; ready = ready; places = places; live = live; awake = awake }) n (still_waiting l.links links l.locks (a ∷ ready_in l.links l.ready p) keeps h.waits rests table.marks n);
        unnumbered = λ k is. refl;
        owners = λ n less. refl;
        numbers = refl;
        count = refl;
        room = table.room;
        queues = belong;
        waits = still_belong l.links links l.locks (a ∷ ready_in l.links l.ready p) keeps h.waits rests;
      }
