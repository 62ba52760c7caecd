-- What the conditions come to that are awaited, in a program's code as in the program.
use Rattle.std.specs.Prelude.{◌≡◌, ℕ, List, Some}
use Rattle.aos_base.specs.declared.kernel.LockName.{LockName}
use Rattle.aos_base.specs.declared.kernel.Did.TheVariants.{Await}
use Rattle.aos_base.specs.Lock.{Condition}
use Rattle.aos_base.specs.Book.{At, Runs, on_worker, place_of}
use Rattle.aos_base.specs.Machine.{Choice, Machine, State, execution}
use Rattle.aos_typed.specs.Program.{Program}
use Rattle.aos_typed.specs.Source.{source, first_state}
use Rattle.aos_code.specs.declared.image.Image.{Image}
use Rattle.aos_code.specs.Machine.{machine, first_state as first_of}

-- Each condition that is awaited comes to the same in two machines, over the frames of the one that awaits it.
module _ {S F T G : Type 0} (m : Machine S F) (n : Machine T G) where
  pub record JudgesAlike (st : State S F) (tu : State T G) : Type 0 where
    -- as the states stand, which is where a trap's releases evaluate it
    pub now : (a : ℕ) (l : LockName) (c : ℕ) → place_of st.book.line a ≡ Some (At l (Condition c)) → n.verdict tu.store (tu.frames a) c ≡ m.verdict st.store (st.frames a) c
    -- in the store that the turn of another one leaves
    pub turned : (w b a : ℕ) (l : LockName) (c : ℕ) → on_worker w st.book.line ≡ Some b → (st.book.activity b).next ≡ Runs → place_of st.book.line a ≡ Some (At l (Condition c))
        → n.verdict (n.turn tu.store (tu.frames b)).store (tu.frames a) c ≡ m.verdict (m.turn st.store (st.frames b)).store (st.frames a) c
    -- and where a turn ends by awaiting it
    pub own : (w b : ℕ) (l : LockName) (c : ℕ) → on_worker w st.book.line ≡ Some b → (st.book.activity b).next ≡ Runs → (m.turn st.store (st.frames b)).left ≡ Await l c
        → n.verdict (n.turn tu.store (tu.frames b)).store (n.turn tu.store (tu.frames b)).frames c ≡ m.verdict (m.turn st.store (st.frames b)).store (m.turn st.store (st.frames b)).frames c

-- in every state of every execution of a program, and of the image that has its code
abbrev pub JudgesAsProgram : Program → Image → Type 0
JudgesAsProgram p image =
    (budget : ℕ) (choices : List Choice)
    → JudgesAlike (source p) (machine image) (execution (source p) choices (first_state p budget)) (execution (machine image) choices (first_of image budget))
