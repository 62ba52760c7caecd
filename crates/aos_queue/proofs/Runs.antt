-- Rows of linked numbers.
use Rattle.std.proofs.Common.{◌≡◌, ℕ, zero, suc, ◌<◌, ◌≤◌, List, [], ◌∷◌, ◌++◌, length, refl, sym, ap, subst, ◌∙◌, arith, inl, inr, ◌≢◌}
use Rattle.std.specs.Prelude.{Option, Some, None, slice_get}
use Rattle.std.specs.List.{Contains}
use Rattle.aos_queue.specs.declared.links.Links.{Links}
use Rattle.aos_queue.specs.declared.queue.Queue.{Queue}
use Rattle.aos_queue.specs.Lists.{run, without, IsRun, IsOnce, IsBehind, IsBack, last_of, next_in, prior_in, list_in, Stands, Belongs, Apart, KeepsOthers, room_of}
use Rattle.std.proofs.Common.{append_assoc}
use Rattle.std.specs.Option.{option_eq}
use Rattle.std.specs.Prelude.{true}
use Rattle.std.proofs.lemmas.Bool.{eqb-true}
use lib.Dec.{eqb}
use Rattle.std.proofs.lemmas.Option.{none-some, same_Some}
use Rattle.std.proofs.lemmas.List.Elements.{Contains-push_cases, Contains-append_right}
use Rattle.aos_queue.proofs.Members.{here, there, among, none, length_bound, last_within, last_of-split, once-push, once-split, within-split, in_middle, without-split}

pub run_is : (k : ℕ) (next : ℕ → Option ℕ) (start : Option ℕ) (ns : List ℕ) → IsRun next start ns → length ns ≤ k → run k next start ≡ ns
run_is zero next start [] h l = refl
run_is (suc k) next start [] h l = ap (run (suc k) next) h
run_is zero next start (n ∷ ns) h l = absurd (omega (arith, l))
run_is (suc k) next start (n ∷ ns) h l = ap (run (suc k) next) h.0 ∙ ap (λ ms. n ∷ ms) (run_is k next (next n) ns h.1 (omega (arith, l)))

pub run_same : (next other : ℕ → Option ℕ) (start : Option ℕ) (ns : List ℕ) → ((n : ℕ) → Contains ns n → other n ≡ next n) → IsRun next start ns → IsRun other start ns
run_same next other start [] same h = h
run_same next other start (n ∷ ns) same h =
    (h.0, run_same next other (other n) ns (λ m i. same m (there n m ns i)) (subst (λ (s : Option ℕ). IsRun next s ns) (sym (same n (here n ns))) h.1))

pub stands_list : (links : Links) (queue : Queue) (ns : List ℕ) → Stands (next_in links.nodes.items) (length links.nodes.items) queue.first queue.last ns → list_in links queue ≡ ns
unfolding list_in
stands_list links queue ns h = run_is _ _ queue.first ns h.run (length_bound ns _ h.once h.reserved)

pub stands_belongs : (links : Links) (queue : Queue) (ns : List ℕ) → Stands (next_in links.nodes.items) (length links.nodes.items) queue.first queue.last ns → IsBack (prior_in links.nodes.items) ns → Belongs links queue
stands_belongs links queue ns h b = record {
  stands = subst (λ (ms : List ℕ). Stands (next_in links.nodes.items) (length links.nodes.items) queue.first queue.last ms) (sym (stands_list links queue ns h)) h;
  back = subst (λ (ms : List ℕ). IsBack (prior_in links.nodes.items) ms) (sym (stands_list links queue ns h)) b;
}

-- what belonging says of the numbers
pub is_reserved : (links : Links) (queue : Queue) (n : ℕ) → Belongs links queue → Contains (list_in links queue) n → n < room_of links
unfolding room_of
is_reserved links queue n h i = h.stands.reserved n i

pub is_once : (links : Links) (queue : Queue) → Belongs links queue → IsOnce (list_in links queue)
is_once links queue h = h.stands.once

-- The numbers before others

-- behind a number of the list, by tables that agree on it
behind_same : (before other : ℕ → ℕ) (n : ℕ) (ns : List ℕ) → ((m : ℕ) → Contains ns m → other m ≡ before m) → IsBehind before n ns → IsBehind other n ns
behind_same before other n [] same h = tt
behind_same before other n (m ∷ ms) same h = (same m (here m ms) ∙ h.0, behind_same before other m ms (λ k i. same k (there m k ms i)) h.1)

back_same : (before other : ℕ → ℕ) (ns : List ℕ) → ((n : ℕ) → Contains ns n → other n ≡ before n) → IsBack before ns → IsBack other ns
back_same before other [] same h = tt
back_same before other (n ∷ ns) same h = behind_same before other n ns (λ m i. same m (there n m ns i)) h

-- without the first number
pub back_rest : (before : ℕ → ℕ) (n : ℕ) (ns : List ℕ) → IsBehind before n ns → IsBack before ns
back_rest before n [] h = tt
back_rest before n (m ∷ ms) h = h.1

-- with one more behind the last
behind_put : (before other : ℕ → ℕ) (last n m : ℕ) (ms : List ℕ) → last_of m ms ≡ last → (Contains (m ∷ ms) n → ⊥) → other n ≡ last → ((k : ℕ) → k ≢ n → other k ≡ before k)
    → IsBehind before m ms → IsBehind other m (ms ++ n ∷ [])
behind_put before other last n m [] e out at same h = (at ∙ sym e, tt)
behind_put before other last n m (k ∷ ks) e out at same h =
    let old : k ≢ n = λ q. out (there m n (k ∷ ks) (subst (λ j. Contains (k ∷ ks) j) q (here k ks))) in
    (same k old ∙ h.0, behind_put before other last n k ks e (λ i. out (there m n (k ∷ ks) i)) at same h.1)

pub back_put : (before other : ℕ → ℕ) (last n : ℕ) (ns : List ℕ) → last ≡ last_of last ns → (Contains ns n → ⊥) → other n ≡ last → ((k : ℕ) → k ≢ n → other k ≡ before k) → IsBack before ns → IsBack other (ns ++ n ∷ [])
back_put before other last n [] e out at same h = tt
back_put before other last n (m ∷ ms) e out at same h = behind_put before other last n m ms (sym e) out at same h

-- where another one stands in front of a number
behind_in : (before : ℕ → ℕ) (x : ℕ) (front : List ℕ) (p n : ℕ) (back : List ℕ) → IsBehind before x (front ++ p ∷ n ∷ back) → (before n ≡ p) × IsBehind before n back
behind_in before x [] p n back h = h.1
behind_in before x (m ∷ front) p n back h = behind_in before m front p n back h.1

prior_is : (before : ℕ → ℕ) (front : List ℕ) (p n : ℕ) (back : List ℕ) → IsBack before (front ++ p ∷ n ∷ back) → (before n ≡ p) × IsBehind before n back
prior_is before [] p n back h = h
prior_is before (x ∷ front) p n back h = behind_in before x front p n back h

-- new links that have the same behind and before each number that isn't touched
kept_stands : (old new : Links) (touched : List ℕ) → length old.nodes.items ≤ length new.nodes.items
    → ((n : ℕ) → (Contains touched n → ⊥) → next_in new.nodes.items n ≡ next_in old.nodes.items n)
    → (other : Queue) → Belongs old other → Apart (list_in old other) touched
    → Stands (next_in new.nodes.items) (length new.nodes.items) other.first other.last (list_in old other)
kept_stands old new touched more same other h a = record {
  run = run_same _ _ other.first _ (λ n i. same n (λ t. a.apart n i t)) h.stands.run;
  ends = h.stands.ends;
  once = h.stands.once;
  reserved = λ n i. let l : n < length old.nodes.items = h.stands.reserved n i in omega arith;
}

pub keeps_others : (old new : Links) (touched : List ℕ) → length old.nodes.items ≤ length new.nodes.items
    → ((n : ℕ) → (Contains touched n → ⊥) → next_in new.nodes.items n ≡ next_in old.nodes.items n)
    → ((n : ℕ) → (Contains touched n → ⊥) → prior_in new.nodes.items n ≡ prior_in old.nodes.items n)
    → KeepsOthers old new touched
keeps_others old new touched more same before = record {
  belongs = λ other h a. stands_belongs new other (list_in old other) (kept_stands old new touched more same other h a)
      (back_same (prior_in old.nodes.items) (prior_in new.nodes.items) (list_in old other) (λ n i. before n (λ t. a.apart n i t)) h.back);
  list = λ other h a. stands_list new other _ (kept_stands old new touched more same other h a);
}

-- more numbers may have been touched
pub more_touched : (old new : Links) (touched more : List ℕ) → ((n : ℕ) → Contains touched n → Contains more n) → KeepsOthers old new touched → KeepsOthers old new more
more_touched old new touched more within keeps = record {
  belongs = λ other h a. keeps.belongs other h (record { apart = λ n i j. a.apart n i (within n j) });
  list = λ other h a. keeps.list other h (record { apart = λ n i j. a.apart n i (within n j) });
}

-- a number put behind the last
behind_last : (next other : ℕ → Option ℕ) (last n m : ℕ) (ms : List ℕ) → last_of m ms ≡ last → IsOnce (m ∷ ms) → (Contains (m ∷ ms) n → ⊥)
    → other last ≡ Some n → other n ≡ None → ((k : ℕ) → k ≢ last → k ≢ n → other k ≡ next k)
    → IsRun next (next m) ms → IsRun other (other m) (ms ++ n ∷ [])
behind_last next other last n m [] e once out at end same h = (ap other e ∙ at, end)
behind_last next other last n m (k ∷ ks) e once out at end same h =
    let before : m ≢ last = λ q. once.0 (subst (λ j. Contains (k ∷ ks) j) (e ∙ sym q) (last_within k ks)) in
    let old : m ≢ n = λ q. out (subst (λ j. Contains (m ∷ k ∷ ks) j) q (here m (k ∷ ks))) in
    (same m before old ∙ h.0, behind_last next other last n k ks e once.1 (λ i. out (there m n (k ∷ ks) i)) at end same h.1)

reserved-push : (room : ℕ) (ns : List ℕ) (n : ℕ) → n < room → ((m : ℕ) → Contains ns m → m < room) → (m : ℕ) → Contains (ns ++ n ∷ []) m → m < room
reserved-push room ns n l h m i = elim (Contains-push_cases ns n m i) [ inl j ↦ h m j | inr e ↦ subst (λ k. k < room) e l ]

pub nobody : (next : ℕ → Option ℕ) (room : ℕ) (first : Option ℕ) (last : ℕ) (ns : List ℕ) → Stands next room first last ns → first ≡ None → ns ≡ []
nobody next room first last [] h e = refl
nobody next room first last (n ∷ ns) h e = let s = h.run.0 in absurd (cc)

pub nobody_stands : (next : ℕ → Option ℕ) (room last : ℕ) → Stands next room None last []
nobody_stands next room last = record { run = refl; ends = refl; once = tt; reserved = λ n i. absurd (none n i) }

pub nobody_anywhere : (links other : Links) (queue : Queue) → Belongs links queue → list_in links queue ≡ []
    → Stands (next_in other.nodes.items) (length other.nodes.items) queue.first queue.last []
nobody_anywhere links other queue h e =
    let start : queue.first ≡ None = subst (λ ns. IsRun (next_in links.nodes.items) queue.first ns) e h.stands.run in
    subst (λ (f : Option ℕ). Stands (next_in other.nodes.items) (length other.nodes.items) f queue.last []) (sym start) (nobody_stands _ _ queue.last)

pub put_alone : (other : ℕ → Option ℕ) (room n : ℕ) → n < room → other n ≡ None → Stands other room (Some n) n (n ∷ [])
put_alone other room n l end = record {
  run = (refl, end);
  ends = refl;
  once = (none n, tt);
  reserved = λ m i. elim (among n m [] i) [ inl e ↦ subst (λ k. k < room) e l | inr j ↦ absurd (none m j) ];
}

pub put_behind : (next other : ℕ → Option ℕ) (room more : ℕ) (first : Option ℕ) (last m n : ℕ) (ns : List ℕ) → Stands next room first last ns → first ≡ Some m
    → room ≤ more → n < more → (Contains ns n → ⊥) → other last ≡ Some n → other n ≡ None → ((k : ℕ) → k ≢ last → k ≢ n → other k ≡ next k)
    → Stands other more first n (ns ++ n ∷ [])
put_behind next other room more first last m n [] h s r l out at end same = let e = h.run in absurd (cc)
put_behind next other room more first last m n (k ∷ ks) h s r l out at end same = record {
  run = (h.run.0, behind_last next other last n k ks (sym h.ends) h.once out at end same h.run.1);
  ends = sym (last_of-split k ks n []);
  once = once-push (k ∷ ks) n h.once out;
  reserved = reserved-push more (k ∷ ks) n l (λ j i. let b : j < room = h.reserved j i in omega (arith, r));
}

pub last_in : (next : ℕ → Option ℕ) (room : ℕ) (first : Option ℕ) (last m : ℕ) (ns : List ℕ) → Stands next room first last ns → first ≡ Some m → Contains ns last
last_in next room first last m [] h s = let e = h.run in absurd (cc)
last_in next room first last m (k ∷ ks) h s = subst (λ j. Contains (k ∷ ks) j) (sym h.ends) (last_within k ks)

pub start_is : (next : ℕ → Option ℕ) (start : Option ℕ) (ns : List ℕ) → IsRun next start ns → start ≡ slice_get ns 0
start_is next start [] h = h
start_is next start (n ∷ ns) h = h.0

-- what stands behind a number
pub behind_is : (next : ℕ → Option ℕ) (start : Option ℕ) (front : List ℕ) (n : ℕ) (back : List ℕ) → IsRun next start (front ++ n ∷ back) → IsRun next (next n) back
behind_is next start [] n back h = h.1
behind_is next start (m ∷ front) n back h = behind_is next (next m) front n back h.1

-- the number in front of a later one
split_behind : (x : ℕ) (ms : List ℕ) (n : ℕ) → Contains ms n → (front : List ℕ) × (p : ℕ) × (back : List ℕ) × (x ∷ ms ≡ front ++ p ∷ n ∷ back)
split_behind x [] n i = absurd (none n i)
split_behind x (m ∷ ms) n i = elim (among m n ms i) [
  | inl e ↦ ([], x, ms, ap (λ k. x ∷ k ∷ ms) e)
  | inr j ↦ let r = split_behind m ms n j in (x ∷ r.0, r.1, r.2, ap (λ ks. x ∷ ks) r.3)
]

split_at : (ns : List ℕ) (n : ℕ) → Contains ns n → slice_get ns 0 ≢ Some n → (front : List ℕ) × (p : ℕ) × (back : List ℕ) × (ns ≡ front ++ p ∷ n ∷ back)
split_at [] n i later = absurd (none n i)
split_at (m ∷ ms) n i later = elim (among m n ms i) [ inl e ↦ absurd (later (ap Some e)) | inr j ↦ split_behind m ms n j ]

-- which the table has before it
pub prior_split : (links : Links) (queue : Queue) (n p : ℕ) → Belongs links queue → Contains (list_in links queue) n → slice_get (list_in links queue) 0 ≢ Some n → p ≡ prior_in links.nodes.items n
    → (front : List ℕ) × (back : List ℕ) × (list_in links queue ≡ front ++ p ∷ n ∷ back)
prior_split links queue n p h within later is =
    let before = prior_in links.nodes.items in
    let i = split_at (list_in links queue) n within later in
    let linked : IsBack before (i.0 ++ i.1 ∷ n ∷ i.2) = subst (λ (ns : List ℕ). IsBack before ns) i.3 h.back in
    (i.0, i.2, i.3 ∙ ap (λ (k : ℕ). i.0 ++ k ∷ n ∷ i.2) (sym (is ∙ (prior_is before i.0 i.1 n i.2 linked).0)))

head_in : (ns : List ℕ) (n : ℕ) → slice_get ns 0 ≡ Some n → Contains ns n
head_in [] n e = absurd (none-some n e)
head_in (m ∷ ms) n e = subst (λ k. Contains (m ∷ ms) k) (same_Some m n e) (here m ms)

-- what stands behind a number is in the list
pub next_within : (next : ℕ → Option ℕ) (start : Option ℕ) (ns : List ℕ) (n k : ℕ) → IsRun next start ns → Contains ns n → next n ≡ Some k → Contains ns k
next_within next start [] n k h i e = absurd (none n i)
next_within next start (m ∷ ms) n k h i e = elim (among m n ms i) [
  | inl q ↦ there m k ms (head_in ms k (sym (start_is next (next m) ms h.1) ∙ ap next q ∙ e))
  | inr j ↦ there m k ms (next_within next (next m) ms n k h.1 j e)
]

-- the first one taken out
some_is : (o : Option ℕ) (n : ℕ) → true ≡ option_eq eqb o (Some n) → o ≡ Some n
some_is None n e = absurd (cc)
some_is (Some m) n e = ap Some (eqb-true m n (sym e))

ends_behind : (last n : ℕ) (ns : List ℕ) → last ≡ last_of n ns → last ≡ last_of last ns
ends_behind last n [] e = refl
ends_behind last n (m ∷ ms) e = e

pub first_taken : (next : ℕ → Option ℕ) (room : ℕ) (first : Option ℕ) (last n : ℕ) (ns : List ℕ) → Stands next room first last ns → first ≡ Some n
    → (ms : List ℕ) × (ns ≡ n ∷ ms) × Stands next room (next n) last ms
first_taken next room first last n [] h e = let s = h.run in absurd (cc)
first_taken next room first last n (m ∷ ms) h e =
    let s : m ≡ n = same_Some m n (sym h.run.0 ∙ e) in (
      ms,
      ap (λ k. k ∷ ms) s,
      record {
        run = subst (λ k. IsRun next (next k) ms) s h.run.1;
        ends = ends_behind last m ms h.ends;
        once = h.once.1;
        reserved = λ k i. h.reserved k (there m k ms i);
      },
    )

-- the links stay where the first number leaves
first_rest : (links : Links) (queue : Queue) (n : ℕ) → Belongs links queue → true ≡ option_eq eqb queue.first (Some n)
    → (ms : List ℕ) × (list_in links queue ≡ n ∷ ms) × (without n (list_in links queue) ≡ ms) × Stands (next_in links.nodes.items) (length links.nodes.items) (next_in links.nodes.items n) queue.last ms
first_rest links queue n h e =
    let t = first_taken (next_in links.nodes.items) _ queue.first queue.last n (list_in links queue) h.stands (some_is queue.first n e) in
    let once : IsOnce (n ∷ t.0) = subst IsOnce t.1 h.stands.once in
    (t.0, t.1, ap (without n) t.1 ∙ without-split [] n t.0 once, t.2)

pub first_left : (links : Links) (queue : Queue) (n : ℕ) (start : Option ℕ) → Belongs links queue → true ≡ option_eq eqb queue.first (Some n)
    → start ≡ next_in links.nodes.items n → Stands (next_in links.nodes.items) (length links.nodes.items) start queue.last (without n (list_in links queue))
first_left links queue n start h e s =
    let next = next_in links.nodes.items in
    let r = first_rest links queue n h e in
    subst (λ (ns : List ℕ). Stands next (length links.nodes.items) start queue.last ns) (sym r.2)
    (subst (λ (f : Option ℕ). Stands next (length links.nodes.items) f queue.last r.0) (sym s) r.3)

pub first_back : (links : Links) (queue : Queue) (n : ℕ) → Belongs links queue → true ≡ option_eq eqb queue.first (Some n) → IsBack (prior_in links.nodes.items) (without n (list_in links queue))
first_back links queue n h e =
    let before = prior_in links.nodes.items in
    let r = first_rest links queue n h e in
    let linked : IsBack before (n ∷ r.0) = subst (λ (ns : List ℕ). IsBack before ns) r.1 h.back in
    subst (λ (ns : List ℕ). IsBack before ns) (sym r.2) (back_rest before n r.0 linked)

-- a later one taken out
unlinked : (next other : ℕ → Option ℕ) (start : Option ℕ) (front : List ℕ) (p n : ℕ) (back : List ℕ) → IsOnce (front ++ p ∷ n ∷ back)
    → other p ≡ next n → ((k : ℕ) → k ≢ p → other k ≡ next k) → IsRun next start (front ++ p ∷ n ∷ back) → IsRun other start (front ++ p ∷ back)
unlinked next other start [] p n back once at same h = (
  h.0,
  subst (λ (s : Option ℕ). IsRun other s back) (sym at)
      (run_same next other (next n) back (λ k i. same k (λ e. once.0 (there n p back (subst (λ j. Contains back j) e i)))) h.1.1),
)
unlinked next other start (m ∷ front) p n back once at same h =
    let before : m ≢ p = λ e. once.0 (subst (λ j. Contains (front ++ p ∷ n ∷ back) j) (sym e) (in_middle front p (n ∷ back))) in
    (h.0, unlinked next other (other m) front p n back once.1 at same (subst (λ (s : Option ℕ). IsRun next s (front ++ p ∷ n ∷ back)) (sym (same m before)) h.1))

ends_without : (last p n : ℕ) (back : List ℕ) (new : ℕ) → last ≡ last_of n back → (slice_get back 0 ≡ None → new ≡ p) → ((k : ℕ) → slice_get back 0 ≡ Some k → new ≡ last) → new ≡ last_of p back
ends_without last p n [] new e end more = end refl
ends_without last p n (k ∷ ks) new e end more = more k refl ∙ e

once-back : (front : List ℕ) (p n : ℕ) (back : List ℕ) → IsOnce (front ++ p ∷ n ∷ back) → IsOnce (n ∷ back)
once-back [] p n back h = h.1
once-back (m ∷ front) p n back h = once-back front p n back h.1

taken_behind : (next other : ℕ → Option ℕ) (room more : ℕ) (first : Option ℕ) (last : ℕ) (front : List ℕ) (p n : ℕ) (back : List ℕ)
    → Stands next room first last (front ++ p ∷ n ∷ back) → room ≤ more → other p ≡ next n → ((k : ℕ) → k ≢ p → other k ≡ next k)
    → (new : ℕ) → (slice_get back 0 ≡ None → new ≡ p) → ((k : ℕ) → slice_get back 0 ≡ Some k → new ≡ last)
    → Stands other more first new (front ++ p ∷ back)
taken_behind next other room more first last front p n back h r at same new end rest =
    let there_at : (front ++ p ∷ []) ++ n ∷ back ≡ front ++ p ∷ n ∷ back = append_assoc front (p ∷ []) (n ∷ back) in
    let short : (front ++ p ∷ []) ++ back ≡ front ++ p ∷ back = append_assoc front (p ∷ []) back in
    let once : IsOnce (front ++ p ∷ back) = subst IsOnce short (once-split (front ++ p ∷ []) n back (subst IsOnce (sym there_at) h.once)) in
    let old : last ≡ last_of n back = h.ends ∙ last_of-split last front p (n ∷ back) in
    record {
      run = unlinked next other first front p n back h.once at same h.run;
      ends = ends_without last p n back new old end rest ∙ sym (last_of-split new front p back);
      once = once;
      reserved = λ m i.
          let b : m < room = h.reserved m (subst (λ ns. Contains ns m) there_at (within-split (front ++ p ∷ []) n back m (subst (λ ns. Contains ns m) (sym short) i))) in
          omega (arith, r);
    }

without_behind : (front : List ℕ) (p n : ℕ) (back : List ℕ) → IsOnce (front ++ p ∷ n ∷ back) → without n (front ++ p ∷ n ∷ back) ≡ front ++ p ∷ back
without_behind front p n back once =
    let there_at : (front ++ p ∷ []) ++ n ∷ back ≡ front ++ p ∷ n ∷ back = append_assoc front (p ∷ []) (n ∷ back) in
    ap (without n) (sym there_at) ∙ without-split (front ++ p ∷ []) n back (subst IsOnce (sym there_at) once) ∙ append_assoc front (p ∷ []) back

-- and before the others
behind_next : (before other : ℕ → ℕ) (p n : ℕ) (back : List ℕ) → ((k : ℕ) → slice_get back 0 ≡ Some k → other k ≡ p) → ((k : ℕ) → slice_get back 0 ≢ Some k → other k ≡ before k) → IsOnce back
    → IsBehind before n back → IsBehind other p back
behind_next before other p n [] head same once h = tt
behind_next before other p n (m ∷ ms) head same once h =
    (head m refl, behind_same before other m ms (λ k i. same k (λ q. once.0 (subst (λ j. Contains ms j) (sym (same_Some m k q)) i))) h.1)

behind_cut : (before other : ℕ → ℕ) (x : ℕ) (front : List ℕ) (p n : ℕ) (back : List ℕ) → IsOnce (front ++ p ∷ n ∷ back) → ((k : ℕ) → (Contains back k → ⊥) → other k ≡ before k) → IsBehind other p back
    → IsBehind before x (front ++ p ∷ n ∷ back) → IsBehind other x (front ++ p ∷ back)
behind_cut before other x [] p n back once same rest h = (same p (λ i. once.0 (there n p back i)) ∙ h.0, rest)
behind_cut before other x (m ∷ front) p n back once same rest h =
    let out : Contains back m → ⊥ = λ i. once.0 (Contains-append_right front (p ∷ n ∷ back) m (there p m (n ∷ back) (there n m back i))) in
    (same m out ∙ h.0, behind_cut before other m front p n back once.1 same rest h.1)

back_cut : (before other : ℕ → ℕ) (front : List ℕ) (p n : ℕ) (back : List ℕ) → IsOnce (front ++ p ∷ n ∷ back) → ((k : ℕ) → (Contains back k → ⊥) → other k ≡ before k) → IsBehind other p back
    → IsBack before (front ++ p ∷ n ∷ back) → IsBack other (front ++ p ∷ back)
back_cut before other [] p n back once same rest h = rest
back_cut before other (x ∷ front) p n back once same rest h = behind_cut before other x front p n back once.1 same rest h

-- a queue after a number has left it
pub record HasLeft (old new : Links) (before after : Queue) (n : ℕ) : Type 0 where
  pub taken : list_in new after ≡ without n (list_in old before)
  pub belongs : Belongs new after
  pub others : KeepsOthers old new (list_in old before)

-- behind p, in front of n, the table has now what it had behind n; before that it has p, and before all others what it had
pub has_left : (old new : Links) (queue : Queue) (last n p : ℕ) → Belongs old queue
    → (front : List ℕ) × (back : List ℕ) × (list_in old queue ≡ front ++ p ∷ n ∷ back)
    → length old.nodes.items ≤ length new.nodes.items
    → next_in new.nodes.items p ≡ next_in old.nodes.items n → ((k : ℕ) → k ≢ p → next_in new.nodes.items k ≡ next_in old.nodes.items k)
    → ((k : ℕ) → next_in old.nodes.items n ≢ Some k → prior_in new.nodes.items k ≡ prior_in old.nodes.items k)
    → ((k : ℕ) → next_in old.nodes.items n ≡ Some k → (prior_in new.nodes.items k ≡ p) × (last ≡ queue.last))
    → (next_in old.nodes.items n ≡ None → last ≡ p)
    → HasLeft old new queue (record { first = queue.first; last = last }) n
has_left old new queue last n p h (front, back, e) more at same still moved end =
    let next = next_in old.nodes.items in
    let other = next_in new.nodes.items in
    let before = prior_in old.nodes.items in
    let now = prior_in new.nodes.items in
    let stood : Stands next (length old.nodes.items) queue.first queue.last (front ++ p ∷ n ∷ back) =
    subst (λ (ns : List ℕ). Stands next (length old.nodes.items) queue.first queue.last ns) e h.stands in
    let linked : IsBack before (front ++ p ∷ n ∷ back) = subst (λ (ns : List ℕ). IsBack before ns) e h.back in
    let head : next n ≡ slice_get back 0 = start_is next (next n) back (behind_is next queue.first front p (n ∷ back) stood.run).1 in
    let short : without n (list_in old queue) ≡ front ++ p ∷ back = ap (without n) e ∙ without_behind front p n back stood.once in
    let stands : Stands other (length new.nodes.items) queue.first last (without n (list_in old queue)) =
    subst (λ (ns : List ℕ). Stands other (length new.nodes.items) queue.first last ns) (sym short)
    (taken_behind next other _ _ queue.first queue.last front p n back stood more at same last (λ q. end (head ∙ q)) (λ k q. (moved k (head ∙ q)).1)) in
    let rest : IsBehind now p back =
    behind_next before now p n back (λ k q. (moved k (head ∙ q)).0) (λ k q. still k (λ r. q (sym head ∙ r))) (once-back front p n back stood.once).1 (prior_is before front p n back linked).1 in
    let backward : IsBack now (without n (list_in old queue)) =
    subst (λ (ns : List ℕ). IsBack now ns) (sym short) (back_cut before now front p n back stood.once (λ k out. still k (λ r. out (head_in back k (sym head ∙ r)))) rest linked) in
    let within : (k : ℕ) → next n ≡ Some k → Contains (list_in old queue) k = λ k r.
    subst (λ ns. Contains ns k) (sym e) (Contains-append_right front (p ∷ n ∷ back) k (there p k (n ∷ back) (there n k back (head_in back k (sym head ∙ r))))) in
    record {
      taken = stands_list new _ _ stands;
      belongs = stands_belongs new _ _ stands backward;
      others = keeps_others old new _ more (λ k out. same k (λ q. out (subst (λ ns. Contains ns k) (sym e) (subst (λ j. Contains (front ++ p ∷ n ∷ back) j) (sym q) (in_middle front p (n ∷ back))))))
          (λ k out. still k (λ r. out (within k r)));
    }
