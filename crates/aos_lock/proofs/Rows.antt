-- Lists of numbers, and lists of those who wait by their numbers.
use Rattle.std.proofs.Common.{◌≡◌, ℕ, List, [], ◌∷◌, ◌++◌, map, filter, refl, sym, ap, subst, ◌∙◌, inl, inr, Contains}
use Rattle.std.specs.Prelude.{Bool, Some, None, ◌==◌, not, cond, true, false}
use Rattle.std.proofs.lemmas.List.{map-append, append-nil}
use Rattle.std.proofs.lemmas.List.Elements.{All-filter, All-contains, All-contains_itself, filter-append, Contains-append_left, Contains-append_right, Contains-append_cases, Contains-push_cases}
use Rattle.std.proofs.lemmas.Option.{same_Some}
use Rattle.aos_base.specs.Lock.{Waiting, enters, entrants, waiters, without as waiting_without}
use Rattle.aos_queue.specs.Lists.{without}
use Rattle.aos_queue.proofs.Members.{here, there, among}
use Rattle.aos_concurrency.proofs.Chosen.{filter_swap}
use Rattle.aos_lock.specs.declared.lock.Passed.{Passed}
use Rattle.aos_lock.specs.declared.lock.Passed.TheVariants.{Waiter as ToWaiter, Entrant as ToEntrant, Free}
use Rattle.aos_lock.specs.Heirs.{entrant, waiter, queued, new_owner, after_passed, joined}
use Rattle.aos_lock.specs.Waits.{numbers}

-- Numbers within lists

pub cons_within : (a : ℕ) (xs ys : List ℕ) (n : ℕ) → (Contains xs n → Contains ys n) → Contains (a ∷ xs) n → Contains (a ∷ ys) n
cons_within a xs ys n h i = elim (among a n xs i) [
  | inl e ↦ subst (λ k. Contains (a ∷ ys) k) e (here a ys)
  | inr j ↦ there a n ys (h j)
]

pub either_within : (xs ys zs : List ℕ) (n : ℕ) → (Contains xs n → Contains zs n) → (Contains ys n → Contains zs n) → Contains (xs ++ ys) n → Contains zs n
either_within xs ys zs n f g i = elim (Contains-append_cases xs ys n i) [ inl j ↦ f j | inr j ↦ g j ]

pub filter_within : {X : Type 0} (p : X → Bool) (xs : List X) (x : X) → Contains (filter p xs) x → Contains xs x
filter_within p xs x i = All-contains (Contains xs) (filter p xs) x (All-filter p (Contains xs) xs (All-contains_itself xs)) i

pub joined_within : (b : Bool) (a : ℕ) (ns : List ℕ) (n : ℕ) → Contains (joined b a ns) n → Contains (a ∷ ns) n
joined_within true a ns n i = elim (Contains-push_cases ns a n i) [
  | inl j ↦ there a n ns j
  | inr e ↦ subst (λ k. Contains (a ∷ ns) k) e (here a ns)
]
joined_within false a ns n i = there a n ns i

-- of two lists that one may have joined
pub both_joined : (b c : Bool) (a : ℕ) (es ws : List ℕ) (n : ℕ) → Contains (joined b a es ++ joined c a ws) n → Contains (a ∷ (es ++ ws)) n
both_joined b c a es ws n i =
    either_within (joined b a es) (joined c a ws) (a ∷ (es ++ ws)) n
    (λ j. cons_within a es (es ++ ws) n (λ k. Contains-append_left es ws n k) (joined_within b a es n j))
    (λ j. cons_within a ws (es ++ ws) n (λ k. Contains-append_right es ws n k) (joined_within c a ws n j)) i

pub left_within : (p : Passed) (ns : List ℕ) (n : ℕ) → Contains (after_passed p ns) n → Contains ns n
left_within (ToWaiter a) ns n i = filter_within (λ m. not (m == a)) ns n i
left_within (ToEntrant a) ns n i = filter_within (λ m. not (m == a)) ns n i
left_within Free ns n i = i

-- of two lists from which one may have gone
pub both_left : (p : Passed) (es ws : List ℕ) (n : ℕ) → Contains (after_passed p es ++ after_passed p ws) n → Contains (es ++ ws) n
both_left p es ws n i =
    either_within (after_passed p es) (after_passed p ws) (es ++ ws) n
    (λ j. Contains-append_left es ws n (left_within p es n j)) (λ j. Contains-append_right es ws n (left_within p ws n j)) i

-- A list without the one to whom a lock has passed

pub passed_leaves : (p : Passed) (a : ℕ) (ns : List ℕ) → new_owner p ≡ Some a → after_passed p ns ≡ without a ns
passed_leaves (ToWaiter b) a ns e = ap (λ k. without k ns) (same_Some b a e)
passed_leaves (ToEntrant b) a ns e = ap (λ k. without k ns) (same_Some b a e)
passed_leaves Free a ns e = absurd (cc e)

pub nobody_leaves : (p : Passed) (ns : List ℕ) → new_owner p ≡ None → after_passed p ns ≡ ns
nobody_leaves (ToWaiter b) ns e = absurd (cc e)
nobody_leaves (ToEntrant b) ns e = absurd (cc e)
nobody_leaves Free ns e = refl

-- Those who wait, by their numbers

filter_or : {X Y : Type 0} (f : X → Y) (x : X) (xs : List X) (ys : List Y) (b : Bool) → ys ≡ map f xs → cond b (f x ∷ ys) ys ≡ map f (cond b (x ∷ xs) xs)
filter_or f x xs ys true e = ap (λ zs. f x ∷ zs) e
filter_or f x xs ys false e = e

-- a filter after a map
pub filter-map : {X Y : Type 0} (f : X → Y) (p : Y → Bool) (xs : List X) → filter p (map f xs) ≡ map f (filter (λ x. p (f x)) xs)
filter-map f p [] = refl
filter-map f p (x ∷ xs) = filter_or f x (filter (λ y. p (f y)) xs) (filter p (map f xs)) (p (f x)) (filter-map f p xs)

numbers-without : (a : ℕ) (es : List Waiting) → numbers (waiting_without a es) ≡ without a (numbers es)
numbers-without a es = sym (filter-map (λ (e : Waiting). e.activity) (λ n. not (n == a)) es)

-- the entrants and the waiters of those who are left
pub entrants-without : (a : ℕ) (es : List Waiting) → numbers (entrants (waiting_without a es)) ≡ without a (numbers (entrants es))
entrants-without a es =
    ap numbers (filter_swap (λ (e : Waiting). enters e.wants) (λ (e : Waiting). not (e.activity == a)) es) ∙ numbers-without a (entrants es)

pub waiters-without : (a : ℕ) (es : List Waiting) → numbers (waiters (waiting_without a es)) ≡ without a (numbers (waiters es))
waiters-without a es =
    ap numbers (filter_swap (λ (e : Waiting). not (enters e.wants)) (λ (e : Waiting). not (e.activity == a)) es) ∙ numbers-without a (waiters es)

-- and of more
pub entrants-append : (es fs : List Waiting) → numbers (entrants (es ++ fs)) ≡ numbers (entrants es) ++ numbers (entrants fs)
entrants-append es fs =
    ap numbers (filter-append (λ (e : Waiting). enters e.wants) es fs) ∙ map-append (λ (e : Waiting). e.activity) (entrants es) (entrants fs)

pub waiters-append : (es fs : List Waiting) → numbers (waiters (es ++ fs)) ≡ numbers (waiters es) ++ numbers (waiters fs)
waiters-append es fs =
    ap numbers (filter-append (λ (e : Waiting). not (enters e.wants)) es fs) ∙ map-append (λ (e : Waiting). e.activity) (waiters es) (waiters fs)

-- they are among all
numbers_part : (p : Waiting → Bool) (es : List Waiting) (n : ℕ) → Contains (numbers (filter p es)) n → Contains (numbers es) n
numbers_part p [] n i = i
numbers_part p (e ∷ es) n i =
    (elim (p e) as (λ b. Contains (numbers (cond b (e ∷ filter p es) (filter p es))) n → Contains (numbers (e ∷ es)) n) [
      | true ↦ λ j. cons_within e.activity (numbers (filter p es)) (numbers es) n (λ k. numbers_part p es n k) j
      | false ↦ λ j. there e.activity n (numbers es) (numbers_part p es n j)
    ]) i

pub parts_within : (es : List Waiting) (n : ℕ) → Contains (numbers (entrants es) ++ numbers (waiters es)) n → Contains (numbers es) n
parts_within es n i =
    either_within (numbers (entrants es)) (numbers (waiters es)) (numbers es) n
    (λ j. numbers_part (λ (e : Waiting). enters e.wants) es n j) (λ j. numbers_part (λ (e : Waiting). not (enters e.wants)) es n j) i

-- A list of given entrants and waiters

numbers-entrants : (es : List ℕ) → numbers (map entrant es) ≡ es
numbers-entrants [] = refl
numbers-entrants (e ∷ es) = ap (λ ns. e ∷ ns) (numbers-entrants es)

numbers-waiters : (ws : List ℕ) → numbers (map waiter ws) ≡ ws
numbers-waiters [] = refl
numbers-waiters (w ∷ ws) = ap (λ ns. w ∷ ns) (numbers-waiters ws)

pub numbers-queued : (es ws : List ℕ) → numbers (queued es ws) ≡ es ++ ws
numbers-queued es ws =
    map-append (λ (e : Waiting). e.activity) (map entrant es) (map waiter ws) ∙ (λ i. numbers-entrants es i ++ numbers-waiters ws i)

all_enter : (es : List ℕ) → entrants (map entrant es) ≡ map entrant es
all_enter [] = refl
all_enter (e ∷ es) = ap (λ (xs : List Waiting). entrant e ∷ xs) (all_enter es)

none_enters : (ws : List ℕ) → entrants (map waiter ws) ≡ []
none_enters [] = refl
none_enters (w ∷ ws) = none_enters ws

all_wait : (ws : List ℕ) → waiters (map waiter ws) ≡ map waiter ws
all_wait [] = refl
all_wait (w ∷ ws) = ap (λ (xs : List Waiting). waiter w ∷ xs) (all_wait ws)

none_waits : (es : List ℕ) → waiters (map entrant es) ≡ []
none_waits [] = refl
none_waits (e ∷ es) = none_waits es

pub entrants-queued : (es ws : List ℕ) → entrants (queued es ws) ≡ map entrant es
entrants-queued es ws =
    filter-append (λ (e : Waiting). enters e.wants) (map entrant es) (map waiter ws) ∙ (λ i. all_enter es i ++ none_enters ws i) ∙ append-nil (map entrant es)

pub waiters-queued : (es ws : List ℕ) → waiters (queued es ws) ≡ map waiter ws
waiters-queued es ws =
    filter-append (λ (e : Waiting). not (enters e.wants)) (map entrant es) (map waiter ws) ∙ (λ i. none_waits es i ++ all_wait ws i)
