-- Private turns, made at once or put into the log later.
use Rattle.std.proofs.Common.{◌≡◌, ℕ, suc, ◌+◌, ◌<◌, List, [], ◌∷◌, Bool, true, false, refl, ◌∙◌, ap, arith}
use Rattle.std.specs.Prelude.{if◌then◌else◌, nat_eq, Some}
use Rattle.std.proofs.lemmas.Bool.{lt-leb}
use Rattle.aos_base.specs.declared.kernel.Outcome.TheVariants as outcome_is
use Rattle.aos_base.specs.Book.{Book, Activity, Runs, put, counted, on_worker, outcome, outcome_of}
use Rattle.aos_base.specs.Machine.{Step, Turn, Machine, State, serve, turned, turn_by, step_of, happens_in, if_going, happens, execution}
use Rattle.aos_concurrency.specs.Private.{steps, IsPrivateAt, ArePrivateAt, ArePrivate, tallied, GoesOn, settled, begun_by, front}
use Rattle.aos_concurrency.proofs.Tables.{number, put_same, put_back, put_twice}

-- a private turn leaves the activity where it stands, and running
line_same : (a : ℕ) (x : Bool) (b : Book) → (counted a [] x b).line ≡ b.line
unfolding counted
line_same a x b = refl

runs_still : (a : ℕ) (x : Bool) (b : Book) → (b.activity a).next ≡ Runs → ((counted a [] x b).activity a).next ≡ Runs
unfolding counted
runs_still a x b runs = ap (λ (r : Activity). r.next) (put_same number b.activity a _) ∙ runs

module _ {S F : Type 0} (m : Machine S F) where
  -- one private turn is a step of the worker, whatever others have done before
  settle_one_at : (w a : ℕ) (f g : F) (begun : Bool) (st : State S F) → outcome st.book ≡ outcome_is.Going → on_worker w st.book.line ≡ Some a → (st.book.activity a).next ≡ Runs → st.frames a ≡ f → IsPrivateAt m st.store f g begun → happens m (Step w) st ≡ settled a g (begun ∷ []) st
  unfolding happens turned
  settle_one_at w a f g begun st going on runs is private =
      ap (λ o. if_going o (happens_in m (Step w) st) st) going
      ∙ ap (λ o. step_of m w o st) on
      ∙ ap (λ n. turn_by m a n st) runs
      ∙ ap (λ (t : Turn S F). serve m a t.left (turned m a t st)) (ap (m.turn st.store) is ∙ private)

  -- and so are several, one after the other
  pub settle_at : (w a : ℕ) (f g : F) (begun : List Bool) (st : State S F) → GoesOn a begun st.book → on_worker w st.book.line ≡ Some a → (st.book.activity a).next ≡ Runs → st.frames a ≡ f → ArePrivateAt m st.store f begun g → execution m (steps w begun) st ≡ settled a g begun st
  settle_at w a f g [] st going on runs is private =
      λ i. let y : State S F = record { store = st.store; frames = λ x. (put_back number st.frames a x ∙ ap (λ v. put nat_eq st.frames a v x) (is ∙ private)) i; book = st.book } in y
  settle_at w a f g (x ∷ xs) st going on runs is private =
      let h = private.0 in
      let next = settled a h (x ∷ []) st in
      ap (execution m (steps w xs)) (settle_one_at w a f h x st going.0 on runs is private.1.0)
      ∙ settle_at w a h g xs next going.1 (ap (on_worker w) (line_same a x st.book) ∙ on) (runs_still a x st.book runs) (put_same number st.frames a h) private.1.1
      ∙ (λ i. let y : State S F = record { store = st.store; frames = λ z. put_twice number st.frames a h g z i; book = tallied a xs (counted a [] x st.book) } in y)

  -- turns that are private over any store are so over this one
  are_at : (s : S) (f g : F) (begun : List Bool) → ArePrivate m f begun g → ArePrivateAt m s f begun g
  are_at s f g [] private = private
  are_at s f g (x ∷ xs) private = (private.0, (private.1.0 s, are_at s private.0 g xs private.1.1))

  pub settle : (w a : ℕ) (f g : F) (begun : List Bool) (st : State S F) → GoesOn a begun st.book → on_worker w st.book.line ≡ Some a → (st.book.activity a).next ≡ Runs → st.frames a ≡ f → ArePrivate m f begun g → execution m (steps w begun) st ≡ settled a g begun st
  settle w a f g begun st going on runs is private = settle_at w a f g begun st going on runs is (are_at st.store f g begun private)

-- one that begins no statement, or one that leaves the budget unspent
going_on : (a : ℕ) (x : Bool) (b : Book) → outcome b ≡ outcome_is.Going → (x ≡ true → suc (b.activity a).begun < b.budget) → outcome (counted a [] x b) ≡ outcome_is.Going
unfolding counted
going_on a false b going below = going
going_on a true b going below =
    ap (λ q. outcome_of b.line (if q then Some a else b.spent)) (lt-leb b.budget (suc (b.activity a).begun) (below refl)) ∙ going

count_of : (a : ℕ) (x : Bool) (b : Book) → ((counted a [] x b).activity a).begun ≡ (if x then suc (b.activity a).begun else (b.activity a).begun)
unfolding counted
count_of a x b = ap (λ (r : Activity). r.begun) (put_same number b.activity a _)

same_budget : (a : ℕ) (x : Bool) (b : Book) → (counted a [] x b).budget ≡ b.budget
unfolding counted
same_budget a x b = refl

-- the outcome stays Going before each of them, while the count is below the budget before the last
pub goes_on : (a : ℕ) (begun : List Bool) (b : Book) → outcome b ≡ outcome_is.Going → (b.activity a).begun + begun_by (front begun) < b.budget → GoesOn a begun b
goes_on a [] b going below = tt
goes_on a (x ∷ []) b going below = (going, tt)
goes_on a (true ∷ y ∷ ys) b going below =
    let n = count_of a true b in
    let u = same_budget a true b in
    (going, goes_on a (y ∷ ys) (counted a [] true b) (going_on a true b going (λ _. omega arith)) (omega (arith, n, u, below)))
goes_on a (false ∷ y ∷ ys) b going below =
    let n = count_of a false b in
    let u = same_budget a false b in
    (going, goes_on a (y ∷ ys) (counted a [] false b) (going_on a false b going (λ e. absurd (cc e))) (omega (arith, n, u, below)))
