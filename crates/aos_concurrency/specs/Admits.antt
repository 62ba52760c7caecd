-- With which frames an activity is let into the region of a lock.
use Rattle.std.specs.Prelude.{◌≡◌, ◌≢◌, ℕ, Some, List}
use Rattle.aos_base.specs.declared.kernel.LockName.{LockName}
use Rattle.aos_base.specs.declared.kernel.Did.TheVariants.{Enter}
use Rattle.aos_base.specs.Book.{On, Runs, place_of}
use Rattle.aos_base.specs.Machine.{Choice, Machine, State, execution}

module _ {S F : Type 0} (m : Machine S F) where
  -- an activity on a worker whose turn asks for a lock that it doesn't own
  pub record Asks (st : State S F) (a : ℕ) (l : LockName) : Type 0 where
    pub worker : ℕ
    pub on : place_of st.book.line a ≡ Some (On worker)
    pub runs : (st.book.activity a).next ≡ Runs
    pub left : (m.turn st.store (st.frames a)).left ≡ Enter l
    pub owner : st.book.owner l ≢ Some a

module _ {S F : Type 0} (m : Machine S F) (Admitted : LockName → F → Type 0) where
  -- whoever asks in this state does so with such frames
  abbrev pub Admits : State S F → Type 0
  Admits st = (a : ℕ) (l : LockName) → Asks m st a l → Admitted l (m.turn st.store (st.frames a)).frames

  -- and in each state to which an execution comes from this one
  abbrev pub AlwaysAdmits : State S F → Type 0
  AlwaysAdmits st = (cs : List Choice) → Admits (execution m cs st)
