-- What stands after one has left, or has joined.
use Rattle.std.proofs.Common.{◌≡◌, ◌≢◌, ℕ, suc, ◌<◌, ◌≤◌, List, [], ◌∷◌, ◌++◌, length, refl, sym, ap, subst, ◌∙◌, arith}
use Rattle.std.specs.List.{Contains}
use Rattle.std.specs.Prelude.{Bool, true, false, if◌then◌else◌, Option, Some, None, get_or, slice_get, slice_set}
use Rattle.std.proofs.lemmas.List.{get_or-set_same, get_or-set_other, length-set, append-nil as append_nil}
use Rattle.std.proofs.lemmas.List.Elements.{Contains-append_left, Contains-append_right}
use Rattle.std.proofs.lemmas.Option.{slice_get-get_or}
use Rattle.aos_base.specs.declared.limits.TheConstants.{MOST_LIVE}
use Rattle.aos_base.specs.declared.kernel.LockName.{LockName}
use Rattle.aos_base.specs.declared.priority.Priority.{Priority}
use Rattle.aos_base.specs.Lock.{Waiting, entrants, waiters, without as waiting_without}
use Rattle.aos_base.specs.Book as book
use Rattle.aos_base.specs.Book.{Stand, is_on, is_ready, wanted, listed, waiting, place_of, leave_line}
use Rattle.aos_queue.specs.Lists.{IsOnce, room_of, without}
use Rattle.aos_queue.proofs.Members.{once-push, without-none}
use Rattle.aos_queue.specs.declared.links.Links.{Links}
use Rattle.aos_lock.specs.declared.locks.Locks.{Locks}
use Rattle.aos_lock.specs.Waits.{numbers, count_of, owner_of, entrants_in, waiters_in, numbers_in, StandsFor, SameWaiting, Belong as LocksBelong}
use Rattle.aos_lock.proofs.Rows.{entrants-without, waiters-without, entrants-append, waiters-append}
use Rattle.aos_ready.specs.Order.{number_of as priority_number, ready_in, Belong as ReadyBelong}
use Rattle.aos_scheduler.specs.declared.run_state.RunState.{RunState}
use Rattle.aos_scheduler.specs.declared.run_state.RunState.TheVariants.{Nowhere}
use Rattle.aos_scheduler.specs.declared.line.Line.{Line}
use Rattle.aos_scheduler.specs.declared.numbers.Numbers.{Numbers}
use Rattle.aos_scheduler.specs.Numbers.{number_of}
use Rattle.aos_scheduler.specs.Stands.{standing, anywhere, is_awake, of_worker, HasRunState, HasLock, Stands}
use Rattle.aos_scheduler.proofs.Members.{each_at, once_without, shorter, longer}
use Rattle.aos_scheduler.proofs.Readings.{standing-left, waiting-left, place-gone, place-other, standing-joined, waiting-joined, place-last, place-before, has_stands, nowhere, elsewhere, once_standing}

-- the place of one activity has been set
places_set : (places : List RunState) (a : ℕ) (p : RunState) (line line' : List Stand) → a < length places → HasRunState p (place_of line' a) → ((x : ℕ) → x ≢ a → place_of line' x ≡ place_of line x) →
    ((x : ℕ) → HasRunState (get_or places x Nowhere) (place_of line x)) → (x : ℕ) → HasRunState (get_or (slice_set places a p) x Nowhere) (place_of line' x)
places_set places a p line line' within here same each x =
    each_at (λ y. HasRunState (get_or (slice_set places a p) y Nowhere) (place_of line' y)) a
    (subst (λ q. HasRunState q (place_of line' a)) (sym (get_or-set_same places a p Nowhere within)) here)
    (λ y ne. subst (λ q. HasRunState q (place_of line' y)) (sym (get_or-set_other places a y p Nowhere ne)) (subst (λ o. HasRunState (get_or places y Nowhere) o) (sym (same y ne)) (each y)))
    x

pub set_here : {A : Type 0} (xs : List A) (i : ℕ) (x : A) → i < length xs → slice_get (slice_set xs i x) i ≡ Some x
set_here xs i x h = slice_get-get_or (slice_set xs i x) i x (subst (λ n. i < n) (sym (length-set xs i x)) h) ∙ ap (λ y. Some y) (get_or-set_same xs i x x h)

-- a lock's owner, by its number
abbrev pub OwnedBy : Line → Option ℕ → Option ℕ → Type 0
OwnedBy m None owner = owner ≡ None
OwnedBy m (Some n) owner = owner_of m.locks n ≡ owner

-- the same wait for a lock, so it stands for the same lists
pub stands_still : (before after : Links) (old new : Locks) (n : ℕ) (es : List Waiting) → SameWaiting before old after new n → StandsFor before old n es → StandsFor after new n es
stands_still before after old new n es same h = record { entrants = same.entrants ∙ h.entrants; waiters = same.waiters ∙ h.waiters }

-- One who leaves

-- who waits for a lock, without one of them
pub record LeftAt (l m : Line) (a n : ℕ) : Type 0 where
  pub entrants : entrants_in m.links m.locks n ≡ without a (entrants_in l.links l.locks n)
  pub waiters : waiters_in m.links m.locks n ≡ without a (waiters_in l.links l.locks n)

-- who doesn't wait for it doesn't leave it
pub left_same : (l m : Line) (a n : ℕ) → SameWaiting l.links l.locks m.links m.locks n → (Contains (numbers_in l.links l.locks n) a → ⊥) → LeftAt l m a n
left_same l m a n same out =
    let es = entrants_in l.links l.locks n in
    let ws = waiters_in l.links l.locks n in
    record {
      entrants = same.entrants ∙ sym (without-none a es (λ i. out (Contains-append_left es ws a i)));
      waiters = same.waiters ∙ sym (without-none a ws (λ i. out (Contains-append_right es ws a i)));
    }

pub record Left (l m : Line) (a : ℕ) (was : book.RunState) : Type 0 where
  pub within : a < length l.places.items
  pub places : m.places.items ≡ slice_set l.places.items a Nowhere
  pub live : suc m.live ≡ l.live
  pub awake : (if is_awake was then suc m.awake else m.awake) ≡ l.awake
  pub running : (w : ℕ) → of_worker (get_or m.running w None) ≡ without a (of_worker (get_or l.running w None))
  pub ready : (p : Priority) → ready_in m.links m.ready p ≡ without a (ready_in l.links l.ready p)
  pub waiting : (n : ℕ) → n < count_of l.locks → LeftAt l m a n
  pub numbers : m.numbers ≡ l.numbers
  pub count : count_of m.locks ≡ count_of l.locks
  pub room : room_of m.links ≡ room_of l.links
  pub queues : ReadyBelong m.links m.ready
  pub waits : LocksBelong m.links m.locks

less_by : (q : Bool) (n m k : ℕ) → (if q then suc n else n) ≡ m → (if q then suc k else k) ≡ m → n ≡ k
less_by true n m k e f = omega (arith, e, f)
less_by false n m k e f = e ∙ sym f

module _ (l m : Line) (a : ℕ) (was : book.RunState) (line : List Stand) (owner owner' : LockName → Option ℕ) (h : Stands l line owner) (there : place_of line a ≡ Some was) (c : Left l m a was) (owned : (k : LockName) → OwnedBy m (number_of l.numbers k) (owner' k)) where
  left_lock : (k : LockName) (o : Option ℕ) → number_of l.numbers k ≡ o → HasLock l o (waiting k line) (owner k) → HasLock m o (waiting k (leave_line a line)) (owner' k)
  left_lock k None is had = (waiting-left k a line ∙ ap (waiting_without a) had.0, subst (λ o. OwnedBy m o (owner' k)) is (owned k))
  left_lock k (Some n) is had = (
    subst (λ i. n < i) (sym c.count) had.0,
    record {
      entrants = (c.waiting n had.0).entrants ∙ ap (without a) had.1.entrants ∙ sym (entrants-without a (waiting k line)) ∙ ap (λ es. numbers (entrants es)) (sym (waiting-left k a line));
      waiters = (c.waiting n had.0).waiters ∙ ap (without a) had.1.waiters ∙ sym (waiters-without a (waiting k line)) ∙ ap (λ es. numbers (waiters es)) (sym (waiting-left k a line));
    },
    subst (λ o. OwnedBy m o (owner' k)) is (owned k),
  )

  pub leaves : Stands m (leave_line a line) owner'
  leaves =
      let inside : Contains (standing anywhere line) a = has_stands anywhere line a was there refl in
      let all : standing anywhere (leave_line a line) ≡ without a (standing anywhere line) = standing-left anywhere a line in
      record {
        once = subst IsOnce (sym all) (once_without a (standing anywhere line) h.once);
        places = subst (λ ps. (x : ℕ) → HasRunState (get_or ps x Nowhere) (place_of (leave_line a line) x)) (sym c.places)
            (places_set l.places.items a Nowhere line (leave_line a line) c.within (place-gone a line) (λ x ne. place-other a x line ne) h.places);
        live = (let one = shorter a (standing anywhere line) h.once inside in omega (arith, ap length all, one, h.live, c.live));
        awake = ap length (standing-left is_awake a line) ∙ less_by (is_awake was) (length (without a (standing is_awake line))) l.awake m.awake (awake_by (is_awake was) refl) c.awake;
        few = omega (arith, h.few, c.live);
        running = λ w. standing-left (is_on w) a line ∙ ap (without a) (h.running w) ∙ sym (c.running w);
        ready = λ p. standing-left (is_ready (priority_number p)) a line ∙ ap (without a) (h.ready p) ∙ sym (c.ready p);
        locks = λ k. subst (λ (ns : Numbers). HasLock m (number_of ns k) (waiting k (leave_line a line)) (owner' k)) (sym c.numbers) (left_lock k (number_of l.numbers k) refl (h.locks k));
        named = λ n less. subst (λ (ns : Numbers). (k : LockName) × (number_of ns k ≡ Some n)) (sym c.numbers) (h.named n (subst (λ i. n < i) c.count less));
        apart = subst (λ (ns : Numbers). (k j : LockName) (n : ℕ) → number_of ns k ≡ Some n → number_of ns j ≡ Some n → k ≡ j) (sym c.numbers) h.apart;
        room = subst (λ i. length m.places.items ≤ i) (sym c.room) (subst (λ i. i ≤ room_of l.links) (sym (ap length c.places ∙ length-set l.places.items a Nowhere)) h.room);
        queues = c.queues;
        waits = c.waits;
      }
    where
      once_awake : IsOnce (standing is_awake line)
      once_awake = once_standing is_awake line h.once

      awake_by : (q : Bool) → is_awake was ≡ q → (if q then suc (length (without a (standing is_awake line))) else length (without a (standing is_awake line))) ≡ l.awake
      awake_by true e = shorter a (standing is_awake line) once_awake (has_stands is_awake line a was there e) ∙ h.awake
      awake_by false e = ap length (without-none a (standing is_awake line) (elsewhere is_awake line a was h.once there e)) ∙ h.awake

-- One who joins

-- who waits for a lock, with these behind all others
pub record JoinedAt (l m : Line) (n : ℕ) (more : List Waiting) : Type 0 where
  pub entrants : entrants_in m.links m.locks n ≡ entrants_in l.links l.locks n ++ numbers (entrants more)
  pub waiters : waiters_in m.links m.locks n ≡ waiters_in l.links l.locks n ++ numbers (waiters more)

pub joined_same : (l m : Line) (n : ℕ) → SameWaiting l.links l.locks m.links m.locks n → JoinedAt l m n []
joined_same l m n same = record {
  entrants = same.entrants ∙ sym (append_nil (entrants_in l.links l.locks n));
  waiters = same.waiters ∙ sym (append_nil (waiters_in l.links l.locks n));
}

pub record Joined (l m : Line) (a : ℕ) (p : RunState) (now : book.RunState) : Type 0 where
  pub within : a < length l.places.items
  pub places : m.places.items ≡ slice_set l.places.items a p
  pub is : HasRunState p (Some now)
  pub live : m.live ≡ suc l.live
  pub few : l.live < MOST_LIVE
  pub awake : m.awake ≡ (if is_awake now then suc l.awake else l.awake)
  pub running : (w : ℕ) → of_worker (get_or m.running w None) ≡ of_worker (get_or l.running w None) ++ (if is_on w now then a ∷ [] else [])
  pub ready : (q : Priority) → ready_in m.links m.ready q ≡ ready_in l.links l.ready q ++ (if is_ready (priority_number q) now then a ∷ [] else [])
  pub waiting : (k : LockName) (n : ℕ) → number_of l.numbers k ≡ Some n → n < count_of l.locks → JoinedAt l m n (listed (wanted k now) a [])
  pub unnumbered : (k : LockName) → number_of l.numbers k ≡ None → wanted k now ≡ None
  pub owners : (n : ℕ) → n < count_of l.locks → owner_of m.locks n ≡ owner_of l.locks n
  pub numbers : m.numbers ≡ l.numbers
  pub count : count_of m.locks ≡ count_of l.locks
  pub room : room_of m.links ≡ room_of l.links
  pub queues : ReadyBelong m.links m.ready
  pub waits : LocksBelong m.links m.locks

more_by : (q : Bool) (ns : List ℕ) (a : ℕ) → length (ns ++ (if q then a ∷ [] else [])) ≡ (if q then suc (length ns) else length ns)
more_by true ns a = longer a ns
more_by false ns a = ap length (append_nil ns)

module _ (l m : Line) (a : ℕ) (p : RunState) (now : book.RunState) (line : List Stand) (owner : LockName → Option ℕ) (h : Stands l line owner) (there : place_of line a ≡ None) (c : Joined l m a p now) where
  abbrev after : List Stand
  after = line ++ record { activity = a; place = now } ∷ []

  joined_lock : (k : LockName) (o : Option ℕ) → number_of l.numbers k ≡ o → HasLock l o (waiting k line) (owner k) → HasLock m o (waiting k after) (owner k)
  joined_lock k None is had = (waiting-joined k line (record { activity = a; place = now }) ∙ ap (λ es. es ++ listed (wanted k now) a []) had.0 ∙ ap (λ w. listed w a []) (c.unnumbered k is), had.1)
  joined_lock k (Some n) is had = (
    subst (λ i. n < i) (sym c.count) had.0,
    record {
      entrants = (c.waiting k n is had.0).entrants ∙ ap (λ ns. ns ++ numbers (entrants (listed (wanted k now) a []))) had.1.entrants
          ∙ sym (entrants-append (waiting k line) (listed (wanted k now) a [])) ∙ ap (λ es. numbers (entrants es)) (sym (waiting-joined k line (record { activity = a; place = now })));
      waiters = (c.waiting k n is had.0).waiters ∙ ap (λ ns. ns ++ numbers (waiters (listed (wanted k now) a []))) had.1.waiters
          ∙ sym (waiters-append (waiting k line) (listed (wanted k now) a [])) ∙ ap (λ es. numbers (waiters es)) (sym (waiting-joined k line (record { activity = a; place = now })));
    },
    c.owners n had.0 ∙ had.2,
  )

  pub joins : Stands m after owner
  joins =
      let out : Contains (standing anywhere line) a → ⊥ = nowhere anywhere line a h.once there in
      let s : Stand = record { activity = a; place = now } in
      let all : standing anywhere after ≡ standing anywhere line ++ a ∷ [] = standing-joined anywhere line s in
      record {
        once = subst IsOnce (sym all) (once-push (standing anywhere line) a h.once out);
        places = subst (λ ps. (x : ℕ) → HasRunState (get_or ps x Nowhere) (place_of after x)) (sym c.places)
            (places_set l.places.items a p line after c.within (subst (HasRunState p) (sym (place-last a now line there)) c.is) (λ x ne. place-before a x now line ne) h.places);
        live = ap length all ∙ longer a (standing anywhere line) ∙ ap suc h.live ∙ sym c.live;
        awake = ap length (standing-joined is_awake line s) ∙ more_by (is_awake now) (standing is_awake line) a ∙ ap (λ n. if is_awake now then suc n else n) h.awake ∙ sym c.awake;
        few = omega (arith, c.few, c.live);
        running = λ w. standing-joined (is_on w) line s ∙ ap (λ ns. ns ++ (if is_on w now then a ∷ [] else [])) (h.running w) ∙ sym (c.running w);
        ready = λ q. standing-joined (is_ready (priority_number q)) line s ∙ ap (λ ns. ns ++ (if is_ready (priority_number q) now then a ∷ [] else [])) (h.ready q) ∙ sym (c.ready q);
        locks = λ k. subst (λ (ns : Numbers). HasLock m (number_of ns k) (waiting k after) (owner k)) (sym c.numbers) (joined_lock k (number_of l.numbers k) refl (h.locks k));
        named = λ n less. subst (λ (ns : Numbers). (k : LockName) × (number_of ns k ≡ Some n)) (sym c.numbers) (h.named n (subst (λ i. n < i) c.count less));
        apart = subst (λ (ns : Numbers). (k j : LockName) (n : ℕ) → number_of ns k ≡ Some n → number_of ns j ≡ Some n → k ≡ j) (sym c.numbers) h.apart;
        room = subst (λ i. length m.places.items ≤ i) (sym c.room) (subst (λ i. i ≤ room_of l.links) (sym (ap length c.places ∙ length-set l.places.items a p)) h.room);
        queues = c.queues;
        waits = c.waits;
      }
