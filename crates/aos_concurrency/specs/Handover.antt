-- A lock that passes to a waiter whose condition holds.
use Rattle.std.specs.Prelude.{◌≡◌, ◌≢◌, ◌<◌, ℕ, Option, Some, List, [], ◌∷◌, false}
use Rattle.aos_base.specs.declared.kernel.LockName.{LockName}
use Rattle.aos_base.specs.declared.kernel.Verdict.TheVariants.{Holds}
use Rattle.aos_base.specs.declared.kernel.Did.{Did}
use Rattle.aos_base.specs.declared.kernel.Did.TheVariants.{Went, Await}
use Rattle.aos_base.specs.Lock.{Condition}
use Rattle.aos_base.specs.Book.{RunState, At, Runs, is_at_lock, place_of}
use Rattle.aos_base.specs.Machine.{Choice, Machine, State, happens, execution}
use Rattle.aos_concurrency.specs.Regions.{times, Outside}
use Rattle.aos_concurrency.specs.Traps.{turn_of}
use Rattle.aos_concurrency.specs.Acting.{KeepsTidy}

module _ {S F : Type 0} (m : Machine S F) where
  -- `Agree l s t`: the stores agree on what the lock l guards; `IsLocal l c`: the condition c, awaited at l, reads only that
  -- and its frames; `Tidy`: an invariant of the machine, over the store and the frames of those that act
  pub record GuardsBy
      (Fits : S → Did → F → Type 0) (Tidy : S → (ℕ → Option F) → Type 0)
      (Agree : LockName → S → S → Type 0) (IsLocal : LockName → ℕ → Type 0) : Type 0 where
    pub same : (l : LockName) (s : S) → Agree l s s
    pub then_ : (l : LockName) (s t u : S) → Agree l s t → Agree l t u → Agree l s u
    pub tidy : KeepsTidy m (Outside m) Fits Tidy
    -- while a is in a region of l, a turn of b, which is in none, leaves what l guards
    pub outside : (s : S) (t : ℕ → Option F) (l : LockName) (a b : ℕ) (f g : F)
        → Tidy s t → a ≢ b → t a ≡ Some f → 0 < times l (m.regions f)
        → t b ≡ Some g → Fits s Went g → Outside m l g → Agree l s (m.turn s g).store
    pub reads : (l : LockName) (c : ℕ) (s t : S) (f : F)
        → Fits s (Await l c) f → IsLocal l c → Agree l s t → m.verdict s f c ≡ m.verdict t f c

  -- none of these entries is a turn of the activity
  abbrev pub OfOthers : ℕ → List Choice → State S F → Type 0
  OfOthers a [] st = Unit {0}
  OfOthers a (c ∷ cs) st = (turn_of c st.book ≢ Some a) × OfOthers a cs (happens m c st)

  -- before the entry the activity waits for the condition c of the lock l; after it, it has been given the lock, and goes on
  pub record IsGiven (st : State S F) (entry : Choice) (a : ℕ) (l : LockName) (c : ℕ) : Type 0 where
    pub waited : place_of st.book.line a ≡ Some (At l (Condition c))
    pub place : RunState
    pub stands : place_of (happens m entry st).book.line a ≡ Some place
    pub awake : is_at_lock place ≡ false
    pub runs : ((happens m entry st).book.activity a).next ≡ Runs

  -- the activity, which waited for the condition in the state before, owns the lock and stands behind its AWAIT; and the
  -- condition, if it is local, holds over the frames with which it waited
  pub record HasLock (IsLocal : LockName → ℕ → Type 0) (before now : State S F) (a : ℕ) (l : LockName) (c : ℕ) : Type 0 where
    pub owner : now.book.owner l ≡ Some a
    pub frames : now.frames a ≡ m.past (before.frames a)
    pub condition : IsLocal l c → m.verdict now.store (before.frames a) c ≡ Holds

  -- so it is until it makes a turn
  abbrev pub HandsOver : (IsLocal : LockName → ℕ → Type 0) → State S F → Choice → ℕ → LockName → ℕ → List Choice → Type 0
  HandsOver IsLocal st entry a l c others =
      IsGiven st entry a l c → OfOthers a others (happens m entry st)
      → HasLock IsLocal st (execution m others (happens m entry st)) a l c
