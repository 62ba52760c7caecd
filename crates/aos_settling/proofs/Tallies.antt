-- The book after private turns: the count of the activity is another, and who has used up the budget.
use Rattle.std.proofs.Common.{◌≡◌, ℕ, suc, ◌+◌, ◌<◌, ◌≤◌, inl, inr, List, [], ◌∷◌, Bool, true, false, refl, sym, ◌∙◌, ap, subst, arith, append-nil}
use Rattle.std.specs.Prelude.{if◌then◌else◌, nat_lt, Option, Some, None}
use Rattle.std.proofs.lemmas.Bool.Decides.{leb_tells}
use Rattle.aos_base.specs.declared.kernel.Outcome.TheVariants as outcome_is
use Rattle.aos_base.specs.Book.{Book, Stand, Activity, counted, outcome, outcome_of, spent_by}
use Rattle.aos_concurrency.specs.Private.{tallied, GoesOn, begun_by}
use Rattle.aos_concurrency.proofs.Tables.{number, put_same, put_other}
use Rattle.aos_settling.specs.Settling.{IsTallied}

less_next : (c : ℕ) → nat_lt c (suc c) ≡ true
less_next c =
    elim (leb_tells (suc c) (suc c)) [
      | inl e ↦ e.0
      | inr e ↦ absurd (let g : suc c < suc c = e.1 in omega (arith, g))
    ]

not_less_same : (c : ℕ) → nat_lt c c ≡ false
not_less_same c =
    elim (leb_tells (suc c) c) [
      | inl e ↦ absurd (let g : suc c ≤ c = e.1 in omega (arith, g))
      | inr e ↦ e.0
    ]

spent_next : (a c budget : ℕ) (spent : Option ℕ) (x : Bool) → let n = if x then suc c else c in spent_by x budget n a spent ≡ spent_by (nat_lt c n) budget n a spent
spent_next a c budget spent true = sym (ap (λ q. spent_by q budget (suc c) a spent) (less_next c))
spent_next a c budget spent false = sym (ap (λ q. spent_by q budget c a spent) (not_less_same c))

pub one_tallied : (a : ℕ) (x : Bool) (b : Book) → IsTallied a (if x then suc (b.activity a).begun else (b.activity a).begun) b (counted a [] x b)
unfolding counted
one_tallied a x b =
    let c = (b.activity a).begun in
    let v : Activity = record (b.activity a) { begun = if x then suc c else c } in
    let here = put_same number b.activity a v in
    record {
      budget = refl;
      started = refl;
      line = refl;
      owner = refl;
      output = append-nil b.output;
      traps = refl;
      events = refl;
      priority = ap (λ (r : Activity). r.priority) here;
      restarts = ap (λ (r : Activity). r.restarts) here;
      next = ap (λ (r : Activity). r.next) here;
      begun = ap (λ (r : Activity). r.begun) here;
      others = λ x ne. put_other number b.activity a v x ne;
      spent = spent_next a c b.budget b.spent x;
    }

pub unspent : (b : Book) → outcome b ≡ outcome_is.Going → b.spent ≡ None
unspent b e = by b.line b.spent e
  where
    by : (line : List Stand) (spent : Option ℕ) → outcome_of line spent ≡ outcome_is.Going → spent ≡ None
    by [] spent h = absurd (cc h)
    by (s ∷ line) None h = refl
    by (s ∷ line) (Some a) h = absurd (cc h)

pub is_less : (a b : ℕ) → nat_lt a b ≡ true → a < b
is_less a b e =
    elim (leb_tells (suc a) b) [
      | inl h ↦ (let g : suc a ≤ b = h.1 in omega (arith, g))
      | inr h ↦ (let z : true ≡ false = sym e ∙ h.0 in absurd (cc z))
    ]

pub not_less : (a b : ℕ) → nat_lt a b ≡ false → b ≤ a
not_less a b e =
    elim (leb_tells (suc a) b) [
      | inl h ↦ (let z : true ≡ false = sym h.0 ∙ e in absurd (cc z))
      | inr h ↦ (let g : b < suc a = h.1 in omega (arith, g))
    ]

spent_joined : (c d n budget a : ℕ) (s : Option ℕ) → c ≤ d → d ≤ n → s ≡ spent_by (nat_lt c d) budget d a None → s ≡ None → spent_by (nat_lt d n) budget n a s ≡ spent_by (nat_lt c n) budget n a None
spent_joined c d n budget a s low high is none = by (nat_lt d n) (nat_lt c n) refl refl
  where
    by : (p q : Bool) → nat_lt d n ≡ p → nat_lt c n ≡ q → spent_by p budget n a s ≡ spent_by q budget n a None
    by true true e f = ap (spent_by true budget n a) none
    by true false e f = let x = is_less d n e in let y = not_less c n f in absurd (omega (arith, low, x, y))
    by false false e f = none
    by false true e f =
        let x = not_less d n e in let same : d ≡ n = omega (arith, high, x) in
        let less : nat_lt c d ≡ true = ap (nat_lt c) same ∙ f in
        is ∙ ap (λ p. spent_by p budget d a None) less ∙ ap (λ k. spent_by true budget k a None) same

pub both_tallied : (a d n : ℕ) (b k o : Book) → (b.activity a).begun ≤ d → d ≤ n → b.spent ≡ None → k.spent ≡ None → IsTallied a d b k → IsTallied a n k o → IsTallied a n b o
both_tallied a d n b k o low high none still one more = record {
  budget = more.budget ∙ one.budget;
  started = more.started ∙ one.started;
  line = more.line ∙ one.line;
  owner = more.owner ∙ one.owner;
  output = more.output ∙ one.output;
  traps = more.traps ∙ one.traps;
  events = more.events ∙ one.events;
  priority = more.priority ∙ one.priority;
  restarts = more.restarts ∙ one.restarts;
  next = more.next ∙ one.next;
  begun = more.begun;
  others = λ x ne. more.others x ne ∙ one.others x ne;
  spent =
      more.spent
      ∙ ap (λ c. spent_by (nat_lt c n) k.budget n a k.spent) one.begun
      ∙ ap (λ c. spent_by (nat_lt d n) c n a k.spent) one.budget
      ∙ spent_joined (b.activity a).begun d n b.budget a k.spent low high (one.spent ∙ ap (spent_by (nat_lt (b.activity a).begun d) b.budget d a) none) still
      ∙ sym (ap (spent_by (nat_lt (b.activity a).begun n) b.budget n a) none);
}

pub none_tallied : (a : ℕ) (b : Book) → IsTallied a (b.activity a).begun b b
none_tallied a b = record {
  budget = refl;
  started = refl;
  line = refl;
  owner = refl;
  output = refl;
  traps = refl;
  events = refl;
  priority = refl;
  restarts = refl;
  next = refl;
  begun = refl;
  others = λ x ne. refl;
  spent = sym (ap (λ q. spent_by q b.budget (b.activity a).begun a b.spent) (not_less_same (b.activity a).begun));
}

-- the book after private turns: the count is another, and who has used up the budget
pub is_tallied : (a : ℕ) (begun : List Bool) (b : Book) → GoesOn a begun b → IsTallied a ((b.activity a).begun + begun_by begun) b (tallied a begun b)
is_tallied a [] b going = subst (λ n. IsTallied a n b b) (omega arith) (none_tallied a b)
is_tallied a (x ∷ []) b going =
    subst (λ n. IsTallied a n b (counted a [] x b)) (by x) (one_tallied a x b)
  where
    by : (x : Bool) → (if x then suc (b.activity a).begun else (b.activity a).begun) ≡ (b.activity a).begun + begun_by (x ∷ [])
    by true = omega arith
    by false = omega arith
is_tallied a (x ∷ y ∷ ys) b going =
    let k = counted a [] x b in
    let c = (b.activity a).begun in
    let d : ℕ = if x then suc c else c in
    let one = one_tallied a x b in
    let more = is_tallied a (y ∷ ys) k going.1 in
    let low = by_low x c in
    let total : (k.activity a).begun + begun_by (y ∷ ys) ≡ c + begun_by (x ∷ y ∷ ys) = ap (λ n. n + begun_by (y ∷ ys)) one.begun ∙ by_sum x c (begun_by (y ∷ ys)) in
    let high : d ≤ c + begun_by (x ∷ y ∷ ys) = by_high x c (begun_by (y ∷ ys)) in
    both_tallied a d (c + begun_by (x ∷ y ∷ ys)) b k (tallied a (y ∷ ys) k) low high (unspent b going.0) (unspent k going.1.0) one (subst (λ n. IsTallied a n k (tallied a (y ∷ ys) k)) total more)
  where
    by_low : (x : Bool) (c : ℕ) → c ≤ (if x then suc c else c)
    by_low true c = omega arith
    by_low false c = omega arith

    by_sum : (x : Bool) (c n : ℕ) → (if x then suc c else c) + n ≡ c + (if x then suc n else n)
    by_sum true c n = omega arith
    by_sum false c n = omega arith

    by_high : (x : Bool) (c n : ℕ) → (if x then suc c else c) ≤ c + (if x then suc n else n)
    by_high true c n = omega arith
    by_high false c n = omega arith
