-- Turns on an activity's own frames alone, which can be made elsewhere and put into the log later.
use Rattle.std.specs.Prelude.{◌≡◌, ◌≢◌, ℕ, suc, nat_eq, Some, List, [], ◌∷◌, Bool, if◌then◌else◌}
use Rattle.aos_base.specs.declared.kernel.Outcome.TheVariants as outcome_is
use Rattle.aos_base.specs.declared.kernel.Did.TheVariants.{Went}
use Rattle.aos_base.specs.Book.{Book, Activity, On, put, counted, on_worker, place_of, outcome}
use Rattle.aos_base.specs.Machine.{Choice, Step, Tick, Machine, State}

-- so many steps of a worker
abbrev pub steps : {A : Type 0} → ℕ → List A → List Choice
steps w [] = []
steps w (x ∷ xs) = Step w ∷ steps w xs

module _ {S F : Type 0} (m : Machine S F) where
  -- over this store the next turn makes g of f, leaves the store as it is, writes nothing, and leaves nothing to the kernel; `begun`:
  -- whether it begins a statement
  abbrev pub IsPrivateAt : S → F → F → Bool → Type 0
  IsPrivateAt s f g begun = m.turn s f ≡ record { store = s; frames = g; output = []; begun = begun; left = Went }

  -- one such turn after another
  abbrev pub ArePrivateAt : S → F → List Bool → F → Type 0
  ArePrivateAt s f [] g = f ≡ g
  ArePrivateAt s f (b ∷ bs) g = (h : F) × (IsPrivateAt s f h b × ArePrivateAt s h bs g)

  -- so it does over any store, of which it then reads nothing
  abbrev pub IsPrivate : F → F → Bool → Type 0
  IsPrivate f g begun = (s : S) → IsPrivateAt s f g begun

  -- one private turn after another
  abbrev pub ArePrivate : F → List Bool → F → Type 0
  ArePrivate f [] g = f ≡ g
  ArePrivate f (b ∷ bs) g = (h : F) × (IsPrivate f h b × ArePrivate h bs g)

-- the book after turns that began a statement or not
abbrev pub tallied : ℕ → List Bool → Book → Book
tallied a [] b = b
tallied a (x ∷ xs) b = tallied a xs (counted a [] x b)

-- the outcome is Going before each of them: none but the last uses up the budget
abbrev pub GoesOn : ℕ → List Bool → Book → Type 0
GoesOn a [] b = Unit {0}
GoesOn a (x ∷ xs) b = (outcome b ≡ outcome_is.Going) × GoesOn a xs (counted a [] x b)

-- of all that a state has, its frames and its count are others
abbrev pub settled : {S F : Type 0} → ℕ → F → List Bool → State S F → State S F
settled a g begun st = record { store = st.store; frames = put nat_eq st.frames a g; book = tallied a begun st.book }

abbrev pub begun_by : List Bool → ℕ
begun_by [] = 0
begun_by (x ∷ xs) = if x then suc (begun_by xs) else begun_by xs

-- all but the last
abbrev pub front : List Bool → List Bool
front [] = []
front (x ∷ []) = []
front (x ∷ y ∷ ys) = x ∷ front (y ∷ ys)

-- While frames are lent

-- whose step or tick it is
abbrev pub of_worker : Choice → ℕ
of_worker (Step w) = w
of_worker (Tick w) = w

-- none of these is a step or a tick of the worker
abbrev pub NoneOf : ℕ → List Choice → Type 0
NoneOf w [] = Unit {0}
NoneOf w (c ∷ cs) = (of_worker c ≢ w) × NoneOf w cs

-- the activity is the worker's, with this entry in the book and these frames
pub record IsLent {S F : Type 0} (w a : ℕ) (entry : Activity) (f : F) (st : State S F) : Type 0 where
  pub on : on_worker w st.book.line ≡ Some a
  pub stands : place_of st.book.line a ≡ Some (On w)
  pub activity : st.book.activity a ≡ entry
  pub frames : st.frames a ≡ f
