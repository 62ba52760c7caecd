-- What the kernel keeps, and the state that it shows.
use Rattle.std.specs.Prelude.{◌≡◌, ℕ, ◌<◌, ◌≤◌, Bool, true, false, List, [], ◌∷◌, ◌++◌, Option, Some, None, map, length, reverse, slice_get}
use Rattle.aos_base.specs.declared.limits.TheConstants.{MOST_STARTED}
use Rattle.aos_base.specs.declared.kernel.Event.{Event}
use Rattle.aos_base.specs.declared.kernel.Event.TheVariants as event
use Rattle.aos_base.specs.declared.kernel.LockName.{LockName}
use Rattle.aos_base.specs.declared.kernel.Verdict.{Verdict}
use Rattle.aos_base.specs.declared.kernel.Verdict.TheVariants.{Holds, Fails, Traps}
use Rattle.aos_base.specs.declared.kernel.Did.{Did}
use Rattle.aos_base.specs.declared.kernel.Did.TheVariants.{Enter, Await}
use Rattle.aos_base.specs.Rooted.{Made}
use Rattle.aos_base.specs.Lock.{Wants, Entry, Condition}
use Rattle.aos_base.specs.Book as book
use Rattle.aos_base.specs.Book.{place_of, tell, owned_by}
use Rattle.aos_base.specs.Machine.{State, on_book, turned, go_past, release}
use Rattle.aos_code.specs.declared.image.Image.{Image}
use Rattle.aos_code.specs.Memory.{Memory}
use Rattle.aos_code.specs.Machine.{Frames, machine, made_in, turn, verdict}
use Rattle.aos_store.specs.declared.frames.Frames.{Frames as Kept}
use Rattle.aos_store.specs.Store.{frames_in, memory_in}
use Rattle.aos_sound.specs.FitFrames.{IsSoundImage}
use Rattle.aos_silent_steps.specs.Room.{FitInRoom}
use Rattle.aos_cpu.specs.Turns.{Alike, StandsAtWork, IsBefore}
use Rattle.aos_lock.specs.declared.lock.Passed.{Passed}
use Rattle.aos_lock.specs.declared.lock.Passed.TheVariants.{Waiter, Entrant, Free}
use Rattle.aos_ready.specs.Order.{number_of}
use Rattle.aos_scheduler.specs.Stands.{Stands, StandsSame, IsOn, places_of, started_of, live_of}
use Rattle.aos_kernel.specs.declared.activity.Next.{Next}
use Rattle.aos_kernel.specs.declared.activity.Next.TheVariants.{Runs, Lent, WillTrap, Unwinds, Gone}
use Rattle.aos_kernel.specs.declared.activity.Activity.{Activity}
use Rattle.aos_kernel.specs.declared.tables.KernelTables.{KernelTables}
use Rattle.aos_kernel.specs.Run.{rec_of}
use Rattle.aos_kernel.specs.Conditions.{HasRooms, IsAwaiting, IsAwaitingSo}

-- with these locks still to be released, the last one first
abbrev pub next_in : Next → List LockName → book.Next
next_in Runs locks = book.Runs
next_in Lent locks = book.Runs
next_in (WillTrap n) locks = book.WillTrap n
next_in Unwinds locks = book.Unwinds (reverse locks)
next_in Gone locks = book.Gone

-- an activity that has ended keeps no frames, of one whose frames are lent nothing is said, and any other keeps its own, up to silent work
abbrev pub ShowsFrames : Image → (made : ℕ → Option Made) → Next → Frames → Kept → Type 0
ShowsFrames image made Runs fs kept = Alike image made fs (frames_in kept)
ShowsFrames image made Lent fs kept = Unit {0}
ShowsFrames image made (WillTrap n) fs kept = Alike image made fs (frames_in kept)
ShowsFrames image made Unwinds fs kept = Alike image made fs (frames_in kept)
ShowsFrames image made Gone fs kept = frames_in kept ≡ record { following = []; frames = [] }

-- an activity with its frames, where objects are known to be made as this; where the image is sound, they fit it and have room
pub record ShowsActivity (image : Image) (made : ℕ → Option Made) (kept : Activity) (a : book.Activity) (fs : Frames) : Type 0 where
  pub priority : a.priority ≡ number_of kept.priority
  pub begun : a.begun ≡ kept.frames.begun
  pub next : a.next ≡ next_in kept.next kept.locks.items
  pub frames : ShowsFrames image made kept.next fs kept.frames
  pub fits : IsSoundImage image → FitInRoom image kept.frames

-- the work at which one who waits for a lock stands
abbrev pub work_at : LockName → Wants → Did
work_at l Entry = Enter l
work_at l (Condition c) = Await l c

pub record IsWaiting (image : Image) (l : LockName) (wants : Wants) (kept : Activity) (fs : Frames) : Type 0 where
  pub runs : Runs ≡ kept.next
  pub before : IsBefore image (work_at l wants) (frames_in kept.frames)
  pub stands : StandsAtWork image (work_at l wants) fs.frames
  pub awaits : IsAwaitingSo wants kept

-- `earlier` are the events before those that the tables keep
pub record Shows (image : Image) (earlier : List Event) (d : KernelTables) (st : State Memory Frames) : Type 0 where
  pub store : st.store ≡ memory_in d.store
  pub stands : Stands d.line st.book.line st.book.owner
  pub output : st.book.output ≡ d.output.items
  pub traps : map rec_of st.book.traps ≡ d.traps.items
  pub events : st.book.events ≡ earlier ++ d.events.items
  pub budget : st.book.budget ≡ d.budget
  pub spent : st.book.spent ≡ d.spent
  pub started : st.book.started ≡ length d.activities.items
  pub few : st.book.started ≤ MOST_STARTED
  pub counted : started_of d.line ≡ length d.activities.items
  pub activities : (x : ℕ) (kept : Activity) → slice_get d.activities.items x ≡ Some kept → ShowsActivity image (made_in image (memory_in d.store)) kept (st.book.activity x) (st.frames x)
  pub waiting : (x : ℕ) (l : LockName) (wants : Wants) → place_of st.book.line x ≡ Some (book.At l wants) → (kept : Activity) → slice_get d.activities.items x ≡ Some kept → IsWaiting image l wants kept (st.frames x)
  pub unspent : (x : ℕ) → st.book.spent ≡ None → (st.book.activity x).begun < st.book.budget
  pub room : HasRooms image d.stack

-- from each state that the old tables show, the new ones show what the operation makes of it
abbrev pub Performs : Image → (State Memory Frames → State Memory Frames) → KernelTables → KernelTables → Type 0
Performs image operation old new =
    (earlier : List Event) (st : State Memory Frames) → Shows image earlier old st → Shows image earlier new (operation st)

-- the same, where the budget hasn't been reached
abbrev pub PerformsUnspent : Image → (State Memory Frames → State Memory Frames) → KernelTables → KernelTables → Type 0
PerformsUnspent image operation old new =
    (earlier : List Event) (st : State Memory Frames) → Shows image earlier old st → st.book.spent ≡ None → Shows image earlier new (operation st)

-- it shows the same states
abbrev pub ShowsSame : Image → KernelTables → KernelTables → Type 0
ShowsSame image old new = (earlier : List Event) (st : State Memory Frames) → Shows image earlier old st → Shows image earlier new st

-- the activity's own part of a turn has been done, and this is left to the kernel
abbrev pub HasTurned : Image → ℕ → Did → KernelTables → KernelTables → Type 0
HasTurned image a left old new =
    (earlier : List Event) (st : State Memory Frames) → Shows image earlier old st → st.book.spent ≡ None →
    let t = turn image st.store (st.frames a) in
    (left ≡ t.left) × Shows image earlier new (turned (machine image) a t st)

-- the activity stands on a worker, and each one that was started is kept
pub record HasTurn (a : ℕ) (d : KernelTables) : Type 0 where
  pub on : IsOn d.line a
  pub counted : started_of d.line ≡ length d.activities.items

-- an activity's next turn is this one
abbrev pub NextIs : ℕ → Next → KernelTables → Type 0
NextIs a next d = (kept : Activity) → slice_get d.activities.items a ≡ Some kept → next ≡ kept.next

-- whether its frames are kept
abbrev pub has_frames : Next → Bool
has_frames Runs = true
has_frames Lent = false
has_frames (WillTrap n) = true
has_frames Unwinds = true
has_frames Gone = false

-- it hasn't ended, and its frames aren't lent
abbrev pub IsLive : ℕ → KernelTables → Type 0
IsLive a d = (kept : Activity) → slice_get d.activities.items a ≡ Some kept → has_frames kept.next ≡ true

-- the activity runs, and its frames stand before the work that is left to the kernel
abbrev pub StandsBefore : Image → ℕ → Did → KernelTables → Type 0
StandsBefore image a left d =
    (kept : Activity) → slice_get d.activities.items a ≡ Some kept → (Runs ≡ kept.next) × IsBefore image left (frames_in kept.frames)

-- it doesn't wait for a lock
abbrev pub StandsAtNoLock : ℕ → State Memory Frames → Type 0
StandsAtNoLock a st = (l : LockName) (wants : Wants) → place_of st.book.line a ≡ Some (book.At l wants) → ⊥

-- whether the one to whom a lock passed awaited a condition
abbrev pub waits_for_condition : Passed → Bool
waits_for_condition (Waiter a) = true
waits_for_condition (Entrant a) = false
waits_for_condition Free = false

-- it stands before the work that is left to the kernel, in the state too
abbrev pub IsAt : Image → ℕ → Did → KernelTables → State Memory Frames → Type 0
IsAt image a left d st = StandsBefore image a left d × StandsAtWork image left (st.frames a).frames

-- it awaits this condition
abbrev pub AwaitsIn : (condition : ℕ) → ℕ → KernelTables → Type 0
AwaitsIn c a d = (kept : Activity) × (slice_get d.activities.items a ≡ Some kept) × IsAwaiting c kept

-- the lock l, which a gave up, is b's, who is ready
abbrev pub handed : (a : ℕ) (l : LockName) (b : ℕ) (waiter : Bool) → State Memory Frames → State Memory Frames
handed a l b waiter st = on_book (λ k. book.ready b (owned_by l (Some b) (tell (event.Pass l a b waiter) k))) (on_book (owned_by l None) st)

-- a waiter that has got its lock goes on, unless its condition traps: then that is its next turn
abbrev pub goes_or_traps : Image → ℕ → Verdict → State Memory Frames → State Memory Frames
goes_or_traps image b Holds st = go_past (machine image) b st
goes_or_traps image b Fails st = go_past (machine image) b st
goes_or_traps image b (Traps n) st = on_book (book.next_is b (book.WillTrap n)) st

-- all is done but that b, which stands before this work, goes on
pub record IsHanded (image : Image) (earlier : List Event) (a : ℕ) (l : LockName) (b : ℕ) (waiter : Bool) (left : Did) (new : KernelTables) (st : State Memory Frames) : Type 0 where
  pub shows : Shows image earlier new (handed a l b waiter st)
  pub at : IsAt image b left new (handed a l b waiter st)
  pub out : StandsAtNoLock b (handed a l b waiter st)

-- a lock that a gave up has passed, and all is done but that the heir goes on, or traps
abbrev pub HasHeir : Image → List Event → ℕ → LockName → Passed → KernelTables → State Memory Frames → Type 0
HasHeir image earlier a l Free new st = Shows image earlier new (release (machine image) a l st)
HasHeir image earlier a l (Entrant b) new st =
    (release (machine image) a l st ≡ go_past (machine image) b (handed a l b false st)) × IsHanded image earlier a l b false (Enter l) new st
HasHeir image earlier a l (Waiter b) new st =
    (c : ℕ)
    × (release (machine image) a l st ≡ goes_or_traps image b (verdict image st.store (st.frames b) c) (handed a l b true st))
    × IsHanded image earlier a l b true (Await l c) new st × AwaitsIn c b new

-- one lock has been taken from the end of a list, or there was none
abbrev pub IsPopped : Option LockName → List LockName → List LockName → Type 0
IsPopped None old new = (old ≡ []) × (new ≡ [])
IsPopped (Some l) old new = old ≡ new ++ l ∷ []

-- frames of which only the count of statements is left
abbrev pub IsEmptied : Kept → Kept → Type 0
IsEmptied old new = (new.begun ≡ old.begun) × (frames_in new ≡ record { following = []; frames = [] })

-- the tables have what they had, and perhaps more room
pub record HasSame (old new : KernelTables) : Type 0 where
  pub store : new.store ≡ old.store
  pub activities : new.activities.items ≡ old.activities.items
  pub line : StandsSame old.line new.line
  pub places : places_of new.line ≡ places_of old.line
  pub live : live_of new.line ≡ live_of old.line
  pub stack : new.stack ≡ old.stack
  pub output : new.output.items ≡ old.output.items
  pub traps : new.traps.items ≡ old.traps.items
  pub events : new.events.items ≡ old.events.items
  pub budget : new.budget ≡ old.budget
  pub spent : new.spent ≡ old.spent

-- the tables have handed out their events
abbrev pub HandsOut : KernelTables → KernelTables → Type 0
HandsOut old new = (new.events.items ≡ []) × (new ≡ record old { events = new.events })
