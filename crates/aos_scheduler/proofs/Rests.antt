-- What stands as it stood.
use Rattle.std.proofs.Common.{◌≡◌, ℕ, zero, suc, ◌<◌, ◌≤◌, List, [], ◌∷◌, ◌++◌, length, refl, sym, ap, subst, ◌∙◌, arith}
use Rattle.std.specs.List.{Contains}
use Rattle.std.specs.Prelude.{not, if◌then◌else◌, Option, Some, None, get_or, slice_get, Vec}
use Rattle.std.specs.declared.alloc.Global.{Global}
use Rattle.aos_base.specs.declared.kernel.LockName.{LockName}
use Rattle.aos_base.specs.declared.priority.Priority.{Priority}
use Rattle.aos_base.specs.Book.{Stand, waiting, place_of, leave_line}
use Rattle.aos_queue.specs.declared.links.Links.{Links}
use Rattle.aos_queue.specs.Lists.{room_of, mark_of, KeepsOthers, SameTable}
use Rattle.aos_queue.proofs.Members.{none}
use Rattle.aos_lock.specs.declared.locks.Locks.{Locks}
use Rattle.aos_lock.specs.Waits.{count_of, owner_of, SameWaiting, Belong as LocksBelong, WaitsNowhere}
use Rattle.aos_lock.proofs.Changes.{still_belong, still_waiting}
use Rattle.aos_ready.specs.declared.ready.Ready.{Ready}
use Rattle.aos_ready.specs.Order.{ready_in, all_ready, Belong as ReadyBelong}
use Rattle.aos_scheduler.specs.declared.numbers.Numbers.{Numbers}
use Rattle.aos_scheduler.specs.declared.run_state.RunState.{RunState}
use Rattle.aos_scheduler.specs.declared.run_state.RunState.TheVariants.{Nowhere}
use Rattle.aos_scheduler.specs.declared.line.Line.{Line}
use Rattle.aos_scheduler.specs.Numbers.{number_of}
use Rattle.aos_scheduler.specs.Stands.{HasRunState, HasLock, Stands}
use Rattle.aos_scheduler.proofs.Members.{by_case}
use Rattle.aos_scheduler.proofs.Shares.{ready_kept, ready_belong}
use Rattle.aos_scheduler.proofs.Moves.{stands_still}
use Rattle.aos_scheduler.proofs.Places.{ready_within, ready_idle}

-- a place more, where nobody stands
one_place : (ps : List RunState) (x : ℕ) → get_or (ps ++ Nowhere ∷ []) x Nowhere ≡ get_or ps x Nowhere
one_place [] zero = refl
one_place [] (suc x) = refl
one_place (p ∷ ps) zero = refl
one_place (p ∷ ps) (suc x) = one_place ps x

pub place_added : (ps : List RunState) → slice_get (ps ++ Nowhere ∷ []) (length ps) ≡ Some Nowhere
place_added [] = refl
place_added (p ∷ ps) = place_added ps

more_places : (ps : List RunState) → length (ps ++ Nowhere ∷ []) ≡ suc (length ps)
more_places [] = refl
more_places (p ∷ ps) = ap suc (more_places ps)

-- who isn't in the line doesn't leave it
pub absent : (a : ℕ) (line : List Stand) → place_of line a ≡ None → leave_line a line ≡ line
absent a [] none = refl
absent a (s ∷ line) none =
    (by_case (λ q. (if q then Some s.place else place_of line a) ≡ None → leave_line a (s ∷ line) ≡ s ∷ line) a s.activity (λ e f. absurd (cc f))
    (λ ne f. by_case (λ q. (if not q then s ∷ leave_line a line else leave_line a line) ≡ s ∷ line) s.activity a (λ e. absurd (ne (sym e))) (λ _. ap (λ l. s ∷ l) (absent a line f)))) none

module _ (l : Line) (line : List Stand) (owner : LockName → Option ℕ) (h : Stands l line owner) where
  -- more numbers are reserved
  pub reserved : (links : Links) (places : Vec RunState Global) → KeepsOthers l.links links [] → ((n : ℕ) → mark_of links n ≡ mark_of l.links n) → room_of l.links ≤ room_of links → places.items ≡ l.places.items → Stands (record l { links = links; places = places }) line owner
  reserved links places keeps marks room same =
      let idle : (x : ℕ) → Contains [] x → WaitsNowhere l.links l.locks x = λ x i. absurd (none x i) in
      record {
        once = h.once;
        places = subst (λ ps. (x : ℕ) → HasRunState (get_or ps x Nowhere) (place_of line x)) (sym same) h.places;
        live = h.live;
        awake = h.awake;
        few = h.few;
        running = h.running;
        ready = λ p. h.ready p ∙ sym (ready_kept l.links links l.ready [] keeps h.queues (λ q x i j. none x j) p);
        locks = λ k. waits_same k (number_of l.numbers k) (h.locks k);
        named = h.named;
        apart = h.apart;
        room = (let r = h.room in let e = ap length same in omega (arith, room, r, e));
        queues = ready_belong l.links links l.ready [] keeps h.queues (λ q x i j. none x j);
        waits = still_belong l.links links l.locks [] keeps h.waits idle;
      }
    where
      waits_same : (k : LockName) (o : Option ℕ) → HasLock l o (waiting k line) (owner k) → HasLock (record l { links = links; places = places }) o (waiting k line) (owner k)
      waits_same k None had = had
      waits_same k (Some n) had = (had.0, stands_still l.links links l.locks l.locks n (waiting k line) (still_waiting l.links links l.locks [] keeps h.waits (λ x i. absurd (none x i)) marks n) had.1, had.2)

  -- a place more, where nobody stands
  pub placed : (places : Vec RunState Global) → places.items ≡ l.places.items ++ Nowhere ∷ [] → length l.places.items < room_of l.links → Stands (record l { places = places }) line owner
  placed places is room = record {
    once = h.once;
    places = λ x. subst (λ ps. HasRunState (get_or ps x Nowhere) (place_of line x)) (sym is) (subst (λ p. HasRunState p (place_of line x)) (sym (one_place l.places.items x)) (h.places x));
    live = h.live;
    awake = h.awake;
    few = h.few;
    running = h.running;
    ready = h.ready;
    locks = h.locks;
    named = h.named;
    apart = h.apart;
    room = (let e = ap length is ∙ more_places l.places.items in omega (arith, room, e));
    queues = h.queues;
    waits = h.waits;
  }

  -- nobody was ready
  pub none_goes : (links : Links) (ready : Ready) → ((q : Priority) → ready_in links ready q ≡ ready_in l.links l.ready q) → ReadyBelong links ready → KeepsOthers l.links links (all_ready l.links l.ready) → SameTable l.links links →
      Stands (record l { links = links; ready = ready }) line owner
  none_goes links ready lists belong keeps table =
      record {
        once = h.once;
        places = h.places;
        live = h.live;
        awake = h.awake;
        few = h.few;
        running = h.running;
        ready = λ p. h.ready p ∙ sym (lists p);
        locks = λ k. waits_same k (number_of l.numbers k) (h.locks k);
        named = h.named;
        apart = h.apart;
        room = subst (λ n. length l.places.items ≤ n) (sym table.room) h.room;
        queues = belong;
        waits = still_belong l.links links l.locks (all_ready l.links l.ready) keeps h.waits rests;
      }
    where
      rests : (x : ℕ) → Contains (all_ready l.links l.ready) x → WaitsNowhere l.links l.locks x
      rests x i = let r = ready_within l.links l.ready x i in ready_idle l line owner h r.0 x r.1

      waits_same : (k : LockName) (o : Option ℕ) → HasLock l o (waiting k line) (owner k) → HasLock (record l { links = links; ready = ready }) o (waiting k line) (owner k)
      waits_same k None had = had
      waits_same k (Some n) had = (had.0, stands_still l.links links l.locks l.locks n (waiting k line) (still_waiting l.links links l.locks (all_ready l.links l.ready) keeps h.waits rests table.marks n) had.1, had.2)

  -- room has been made for a lock
  pub relocked : (names : Numbers) (locks : Locks) → ((k : LockName) → number_of names k ≡ number_of l.numbers k) → count_of locks ≡ count_of l.locks → ((n : ℕ) → n < count_of l.locks → owner_of locks n ≡ owner_of l.locks n) →
      ((n : ℕ) → n < count_of l.locks → SameWaiting l.links l.locks l.links locks n) → LocksBelong l.links locks → Stands (record l { numbers = names; locks = locks }) line owner
  relocked names locks same count owners lists belong =
      record {
        once = h.once;
        places = h.places;
        live = h.live;
        awake = h.awake;
        few = h.few;
        running = h.running;
        ready = h.ready;
        locks = λ k. subst (λ o. HasLock (record l { numbers = names; locks = locks }) o (waiting k line) (owner k)) (sym (same k)) (still k (number_of l.numbers k) (h.locks k));
        named = λ n less. (let r = h.named n (subst (λ i. n < i) count less) in (r.0, same r.0 ∙ r.1));
        apart = λ k j n e f. h.apart k j n (sym (same k) ∙ e) (sym (same j) ∙ f);
        room = h.room;
        queues = h.queues;
        waits = belong;
      }
    where
      still : (k : LockName) (o : Option ℕ) → HasLock l o (waiting k line) (owner k) → HasLock (record l { numbers = names; locks = locks }) o (waiting k line) (owner k)
      still k None had = had
      still k (Some n) had = (subst (λ i. n < i) (sym count) had.0, stands_still l.links l.links l.locks locks n (waiting k line) (lists n had.0) had.1, owners n had.0 ∙ had.2)

  -- nobody owned or awaited a lock that was never asked for, and nobody does
  pub same_owners : (o : LockName → Option ℕ) → ((k : LockName) → o k ≡ owner k) → Stands l line o
  same_owners o e = subst (λ f. Stands l line f) (λ i k. sym (e k) i) h
