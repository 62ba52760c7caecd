-- The laws, each as a statement over any machine whose stores and frames are of these types.
use Rattle.std.specs.Prelude.{◌≡◌, ◌+◌, ℕ, Some, List, Bool, IsTrue}
use Rattle.aos_base.specs.Book.{Runs, Activity, Book, on_worker}
use Rattle.aos_base.specs.Machine.{Choice, Machine, State, execution}
use Rattle.aos_concurrency.specs.Orderly.{Orderly}
use Rattle.aos_concurrency.specs.Private.{steps, tallied, GoesOn, settled, begun_by, NoneOf, IsLent}
use Rattle.aos_settling.specs.Settling.{ArePrivateAt, IsTallied}

module _ (S F : Type 0) where
  -- private turns of a worker's activity are steps of that worker
  abbrev pub SettlesAt : Type 0
  SettlesAt =
      (m : Machine S F) (w a : ℕ) (f g : F) (begun : List Bool) (st : State S F)
      → GoesOn a begun st.book → on_worker w st.book.line ≡ Some a → (st.book.activity a).next ≡ Runs → st.frames a ≡ f → ArePrivateAt m st.store f begun g
      → execution m (steps w begun) st ≡ settled a g begun st

  -- also where others have made their steps since the frames were lent, and none was the worker's
  abbrev pub SettlesLaterAt : Type 0
  SettlesLaterAt =
      (m : Machine S F) (w a : ℕ) (entry : Activity) (f g : F) (begun : List Bool) (cs : List Choice) (st : State S F)
      → Orderly st → IsLent w a entry f st → entry.next ≡ Runs → NoneOf w cs
      → let later = execution m cs st in GoesOn a begun later.book → ArePrivateAt m later.store f begun g
      → execution m (steps w begun) later ≡ settled a g begun later

  -- what each turn keeps of the store, every schedule keeps
  abbrev pub KeepsStore : Type 0
  KeepsStore =
      (m : Machine S F) (kept : S → Bool) (cs : List Choice) (st : State S F)
      → ((s : S) (f : F) → IsTrue (kept s) → IsTrue (kept (m.turn s f).store)) → IsTrue (kept st.store) → IsTrue (kept (execution m cs st).store)

  -- and the budget stays
  abbrev pub KeepsBudget : Type 0
  KeepsBudget = (m : Machine S F) (cs : List Choice) (st : State S F) → (execution m cs st).book.budget ≡ st.book.budget

-- the book after private turns: the count of the activity is another, and who has used up the budget
abbrev pub TalliesAt : Type 0
TalliesAt = (a : ℕ) (begun : List Bool) (b : Book) → GoesOn a begun b → IsTallied a ((b.activity a).begun + begun_by begun) b (tallied a begun b)
