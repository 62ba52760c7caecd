-- Lending an activity's frames, and settling a loan.
use Rattle.std.specs.Prelude.{◌≡◌, ◌≢◌, ◌≤◌, ◌+◌, ◌%◌, ◌^◌, ℕ, zero, suc, nat_eq, ◌⊎◌, List, [], ◌∷◌, ◌++◌, true, false, Option, Some, None, length, Vec, vec_len, vec_capacity}
use Rattle.std.specs.declared.alloc.Global.{Global}
use Rattle.aos_base.specs.declared.kernel.Event.{Event}
use Rattle.aos_base.specs.declared.kernel.Sched.{Sched}
use Rattle.aos_base.specs.declared.kernel.Sched.TheVariants.{Steps}
use Rattle.aos_base.specs.declared.kernel.Outcome.TheVariants.{Going}
use Rattle.aos_base.specs.Book.{Book, Runs, on_worker, outcome, put}
use Rattle.aos_base.specs.Machine.{State}
use Rattle.aos_code.specs.declared.image.Image.{Image}
use Rattle.aos_code.specs.Memory.{Memory}
use Rattle.aos_code.specs.Machine.{Frames, made_in}
use Rattle.aos_store.specs.declared.frames.Frames.{Frames as Kept}
use Rattle.aos_store.specs.Store.{frames_in}
use Rattle.aos_sound.specs.FitFrames.{IsSoundImage}
use Rattle.aos_silent_steps.specs.Room.{FitInRoom}
use Rattle.aos_cpu.specs.Turns.{Alike}
use Rattle.aos_cpu.specs.Private.{is_private}
use Rattle.aos_settling.specs.Settling.{IsTallied}
use Rattle.aos_loan.specs.Loans.{Lending, IsLoanOf}
use Rattle.aos_kernel.specs.declared.tables.KernelTables.{KernelTables}
use Rattle.aos_kernel.specs.declared.log.Stepped.{Stepped}
use Rattle.aos_kernel.specs.declared.log.Stepped.TheVariants.{Turned, Dispatched, Idle, Over}
use Rattle.aos_kernel.specs.Run.{Run, state_of, among, without, stepped_while}
use Rattle.aos_kernel.specs.Shows.{Shows}

-- the next turn of these frames isn't private: that of frames which are as they are behind some of their silent work
abbrev pub IsShared : Image → Memory → Frames → Type 0
IsShared image mem fs = (gs : Frames) × Alike image (made_in image mem) fs gs × (is_private image gs ≡ false)

-- what goes out are an activity's frames, behind some of their silent work, and with its count; their next turn is private, and where
-- the image is sound they fit it and have room
pub record GoesOut (image : Image) (a : ℕ) (f : Kept) (st : State Memory Frames) : Type 0 where
  pub private : is_private image (frames_in f) ≡ true
  pub alike : Alike image (made_in image st.store) (st.frames a) (frames_in f)
  pub begun : f.begun ≡ (st.book.activity a).begun
  pub fits : IsSoundImage image → FitInRoom image f

-- frames come back: in whatever way the statements that have begun on them are counted, the tables show them as the activity's
abbrev pub ComeBack : Image → List Event → ℕ → Kept → KernelTables → State Memory Frames → Type 0
ComeBack image earlier a kept new st =
    (fs : Frames) (now : Book) → st.book.spent ≡ None → (st.book.activity a).next ≡ Runs → Alike image (made_in image st.store) fs (frames_in kept) →
    IsTallied a kept.begun st.book now → (IsSoundImage image → FitInRoom image kept) →
    Shows image earlier new (record { store = st.store; frames = put nat_eq st.frames a fs; book = now })

-- an activity's next turn isn't its own, or isn't private
abbrev pub HasNoPrivate : ℕ → Image → State Memory Frames → Type 0
HasNoPrivate a image st = ((st.book.activity a).next ≢ Runs) ⊎ IsShared image st.store (st.frames a)

-- why nothing is lent: the outcome isn't Going, the worker has no activity, or that has no private turn to make
abbrev pub HasNone : ℕ → Image → State Memory Frames → Type 0
HasNone w image st =
    (outcome st.book ≢ Going) ⊎ ((on_worker w st.book.line ≡ None) ⊎ ((a : ℕ) × (on_worker w st.book.line ≡ Some a) × HasNoPrivate a image st))

abbrev pub LendsNone : ℕ → Run → Type 0
LendsNone w r = (among w r.lent ≡ true) ⊎ HasNone w r.image (state_of r)

-- what is lent
pub record Lends (w : ℕ) (r : Run) (l : Lending) : Type 0 where
  pub free : among w r.lent ≡ false
  pub going : outcome (state_of r).book ≡ Going
  pub private : is_private l.image (frames_in l.frames) ≡ true
  pub image : l.image ≡ r.image
  pub budget : l.budget ≡ r.budget
  pub none : l.turns ≡ 0
  pub loan : IsLoanOf w l (state_of r)

-- the run after it
abbrev pub after_lend : {A : Type 0} → Option A → ℕ → Run → Run
after_lend None w r = r
after_lend (Some l) w r = record r { lent = r.lent ++ w ∷ [] }

-- what a loan of so many turns comes to
abbrev pub turned_or_idle : (turns : ℕ) → Stepped
turned_or_idle zero = Idle
turned_or_idle (suc n) = Turned

abbrev pub settles_to : Lending → Run → Stepped
settles_to l r = stepped_while (outcome (state_of r).book) (turned_or_idle l.turns)

-- the run after a loan that came to this
abbrev pub after_settle : Stepped → ℕ → Lending → Run → Run
after_settle Turned w l r = record r { log = r.log ++ Steps w l.turns ∷ []; lent = without w r.lent; loans = (r.loans + 1) % 2 ^ 64 }
after_settle Dispatched w l r = record r { lent = without w r.lent }
after_settle Idle w l r = record r { lent = without w r.lent }
after_settle Over w l r = record r { lent = without w r.lent }

-- the log has room for an entry of each worker that is lent
abbrev pub HasLogRoom : Vec Sched Global → List ℕ → Type 0
HasLogRoom log lent = vec_len log + length lent ≤ vec_capacity log
