-- What is kept tells of the line.
use Rattle.std.proofs.Common.{◌≡◌, ◌≢◌, ℕ, zero, suc, ◌<◌, ◌≤◌, List, [], ◌∷◌, ◌++◌, length, refl, sym, ap, subst, ◌∙◌, arith, inl, inr}
use Rattle.std.specs.List.{Contains}
use Rattle.std.specs.Prelude.{true, ◌==◌, if◌then◌else◌, Option, Some, None, is_some, get_or, slice_get, slice_set}
use Rattle.std.proofs.lemmas.Bool.{cases_lt}
use Rattle.std.proofs.lemmas.List.{get_or_past, get_or-set_other, length-set}
use Rattle.std.proofs.lemmas.Option.{slice_get_cases, slice_get_within, slice_get-get_or, slice_get_past, get_or_from_slice_get}
use Rattle.aos_base.specs.declared.kernel.LockName.{LockName}
use Rattle.aos_base.specs.declared.kernel.Outcome.TheVariants.{Going, Ended, Dead, Spent}
use Rattle.aos_base.specs.declared.priority.Priority.{Priority}
use Rattle.aos_base.specs.declared.priority.Priority.TheVariants.{Low, Normal, High}
use Rattle.aos_base.specs.Book as book
use Rattle.aos_base.specs.Book.{Stand, first_at, or_next, is_on, is_ready, on_worker, first_ready, waiting, place_of, all_at_locks, outcome_of}
use Rattle.aos_queue.proofs.Members.{differ}
use Rattle.aos_ready.specs.Order.{number_of as priority_number, ready_in, all_ready}
use Rattle.aos_scheduler.specs.declared.run_state.RunState.{RunState}
use Rattle.aos_scheduler.specs.declared.run_state.RunState.TheVariants.{Nowhere, On, Ready, At}
use Rattle.aos_scheduler.specs.declared.line.Line.{Line}
use Rattle.aos_scheduler.specs.Stands.{standing, anywhere, is_awake, of_worker, places_of, started_of, HasRunState, HasLock, Stands, StandsSame, IsOn, outcome_by}
use Rattle.aos_scheduler.specs.Numbers.{number_of}
use Rattle.aos_scheduler.proofs.Members.{by_case, first_within, shorter}
use Rattle.aos_scheduler.proofs.Moves.{OwnedBy}
use Rattle.aos_scheduler.proofs.Places.{ready_within, ready_place}
use Rattle.aos_scheduler.proofs.Readings.{first_standing, length_standing, all_at_standing, stands_has, has_stands, once_standing, fewer_standing}

-- by what is kept of a place

kept_on : (p : RunState) (w : ℕ) → HasRunState p (Some (book.On w)) → p ≡ On w
kept_on Nowhere w e = absurd (cc e)
kept_on (On v) w e = let z : w ≡ v = cc e in ap (λ x. On x) (sym z)
kept_on (Ready q) w e = absurd (cc e)
kept_on (At l awaits) w (wants, e, f) = absurd (cc e)

on_by : (w : ℕ) (p : book.RunState) → is_on w p ≡ true → p ≡ book.On w
on_by w (book.On v) e = by_case (λ q. q ≡ true → book.On v ≡ book.On w) v w (λ s _. ap (λ x. book.On x) s) (λ ne f. absurd (cc f)) e
on_by w (book.Ready n) e = absurd (cc e)
on_by w (book.At l wants) e = absurd (cc e)

head_of : (o : Option ℕ) → slice_get (of_worker o) 0 ≡ o
head_of None = refl
head_of (Some a) = refl

head_both : (xs ys : List ℕ) → slice_get (xs ++ ys) 0 ≡ or_next (slice_get xs 0) (slice_get ys 0)
head_both [] ys = refl
head_both (x ∷ xs) ys = refl

pub on_within : (l : Line) (a : ℕ) → IsOn l a → a < started_of l
on_within l a on = slice_get_within l.places.items a (On on.worker) on.at

-- the places are as they were
pub on_same : (l m : Line) (a : ℕ) → StandsSame l m → places_of m ≡ places_of l → IsOn l a → IsOn m a
on_same l m a same places on = record {
  stood = record { line = on.stood.line; owner = on.stood.owner; stands = same on.stood.line on.stood.owner on.stood.stands };
  worker = on.worker;
  fits = on.fits;
  at = ap (λ ps. slice_get ps a) places ∙ on.at;
}

-- how far it is, by how many live and how many don't wait
outcome_counts : (line : List Stand) (spent : Option ℕ) → outcome_of line spent ≡ outcome_by (length line) (length (standing is_awake line)) (is_some spent)
outcome_counts [] spent = refl
outcome_counts (s ∷ line) spent =
    ap (λ q. if is_some spent then Spent else if q then Dead else Going) (all_at_standing (s ∷ line))
    ∙ ap (λ z. if z then Ended else if is_some spent then Spent else if length (standing is_awake (s ∷ line)) == 0 then Dead else Going) (sym (differ (suc (length line)) 0 (λ e. absurd (cc e))))

module _ (l : Line) (line : List Stand) (owner : LockName → Option ℕ) (h : Stands l line owner) where
  pub place_is : (a : ℕ) (p : RunState) → slice_get l.places.items a ≡ Some p → HasRunState p (place_of line a)
  place_is a p at = subst (λ q. HasRunState q (place_of line a)) (get_or_from_slice_get l.places.items a p Nowhere at) (h.places a)

  -- one who stands somewhere was started
  pub place_known : (a : ℕ) (p : book.RunState) → place_of line a ≡ Some p → a < length l.places.items
  place_known a p at = elim (cases_lt a (length l.places.items)) [
    | inl less ↦ less
    | inr past ↦ (let none : place_of line a ≡ None = subst (λ q. HasRunState q (place_of line a)) (get_or_past l.places.items a Nowhere past) (h.places a) in
        let z : Some p ≡ None = sym at ∙ none in absurd (cc z))
  ]

  pub worker_is : (w : ℕ) → get_or l.running w None ≡ on_worker w line
  worker_is w = sym (first_standing (is_on w) line ∙ ap (λ ns. slice_get ns 0) (h.running w) ∙ head_of (get_or l.running w None))

  pub first_ready_is : slice_get (all_ready l.links l.ready) 0 ≡ first_ready line
  first_ready_is =
      let high = ready_in l.links l.ready High in
      let normal = ready_in l.links l.ready Normal in
      let low = ready_in l.links l.ready Low in
      head_both high (normal ++ low) ∙ ap (or_next (slice_get high 0)) (head_both normal low)
      ∙ sym (λ i. or_next (first_one High 3 refl i) (or_next (first_one Normal 2 refl i) (first_one Low 1 refl i)))
    where
      first_one : (p : Priority) (n : ℕ) → priority_number p ≡ n → first_at (is_ready n) line ≡ slice_get (ready_in l.links l.ready p) 0
      first_one p n e = ap (λ m. first_at (is_ready m) line) (sym e) ∙ first_standing (is_ready (priority_number p)) line ∙ ap (λ ns. slice_get ns 0) (h.ready p)

  pub live_is : l.live ≡ length line
  live_is = sym h.live ∙ length_standing line

  pub outcome_is : (spent : Option ℕ) → outcome_by l.live l.awake (is_some spent) ≡ outcome_of line spent
  outcome_is spent = (λ i. outcome_by (live_is i) (sym h.awake i) (is_some spent)) ∙ sym (outcome_counts line spent)

  -- who is first among those who are ready
  pub first_place : (a : ℕ) → slice_get (all_ready l.links l.ready) 0 ≡ Some a → (p : Priority) × (place_of line a ≡ Some (book.Ready (priority_number p)))
  first_place a first =
      let r = ready_within l.links l.ready a (first_within (all_ready l.links l.ready) a first) in
      (r.0, ready_place l line owner h r.0 a r.1)

  -- who wasn't started stands nowhere
  pub unstarted : (a : ℕ) → length l.places.items ≤ a → place_of line a ≡ None
  unstarted a past = subst (λ q. HasRunState q (place_of line a)) (get_or_past l.places.items a Nowhere past) (h.places a)

  -- one who stands somewhere is counted
  pub live_some : (a : ℕ) (p : book.RunState) → place_of line a ≡ Some p → 1 ≤ l.live
  live_some a p there = let e = shorter a (standing anywhere line) h.once (has_stands anywhere line a p there refl) in omega (arith, e, h.live)

  pub awake_some : (a : ℕ) (p : book.RunState) → place_of line a ≡ Some p → is_awake p ≡ true → 1 ≤ l.awake
  awake_some a p there wakes = let e = shorter a (standing is_awake line) (once_standing is_awake line h.once) (has_stands is_awake line a p there wakes) in omega (arith, e, h.awake)

  pub awake_few : l.awake ≤ l.live
  awake_few = let e = fewer_standing is_awake line in omega (arith, e, h.live, h.awake)

  pub owned_same : (k : LockName) → OwnedBy l (number_of l.numbers k) (owner k)
  owned_same k = by_number (number_of l.numbers k) (h.locks k)
    where
      by_number : (o : Option ℕ) → HasLock l o (waiting k line) (owner k) → OwnedBy l o (owner k)
      by_number None had = had.1
      by_number (Some n) had = had.2

  -- who stands on a worker
  pub on_place : (a : ℕ) → IsOn l a → (w : ℕ) × (place_of line a ≡ Some (book.On w))
  on_place a on = (on.worker, place_is a (On on.worker) on.at)

  pub worker_on : (w a : ℕ) → w < 16 → on_worker w line ≡ Some a → IsOn l a
  worker_on w a fits at =
      let inside : Contains (standing (is_on w) line) a = first_within (standing (is_on w) line) a (sym (first_standing (is_on w) line) ∙ at) in
      let r = stands_has (is_on w) line a h.once inside in
      let there : place_of line a ≡ Some (book.On w) = r.1 ∙ ap (λ p. Some p) (on_by w r.0 r.2) in
      let kept = kept_on (get_or l.places.items a Nowhere) w (subst (HasRunState (get_or l.places.items a Nowhere)) there (h.places a)) in
      record {
        stood = record { line = line; owner = owner; stands = h };
        worker = w;
        fits = fits;
        at = slice_get-get_or l.places.items a Nowhere (place_known a (book.On w) there) ∙ ap (λ p. Some p) kept;
      }

-- Places that weren't set

pub get_unset : {A : Type 0} (xs : List A) (i x : ℕ) (g : A) → x ≢ i → slice_get (slice_set xs i g) x ≡ slice_get xs x
get_unset xs i x g ne =
    elim (slice_get_cases xs x).1 [
      | inl r ↦ slice_get-get_or (slice_set xs i g) x r.0 (subst (λ n. x < n) (sym (length-set xs i g)) r.1) ∙ ap (λ y. Some y) (get_or-set_other xs i x g r.0 ne ∙ r.3) ∙ sym r.2
      | inr r ↦ slice_get_past (slice_set xs i g) x (subst (λ n. n ≤ x) (sym (length-set xs i g)) r.0) ∙ sym r.1
    ]

pub get_added : {A : Type 0} (xs : List A) (x : ℕ) (y : A) → x < length xs → slice_get (xs ++ y ∷ []) x ≡ slice_get xs x
get_added [] x y less = absurd (omega (arith, less))
get_added (z ∷ xs) zero y less = refl
get_added (z ∷ xs) (suc x) y less = get_added xs x y (omega (arith, less))
