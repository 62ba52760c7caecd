-- A run of an image: what callers see of a kernel. Everything else about it is a function of its log.
use Rattle.std.specs.Prelude.{ℕ, ◌-◌, ◌==◌, not, filter, if◌then◌else◌, Bool, true, false, List, [], ◌∷◌, Option, Some, None, take, drop, length, map}
use Rattle.aos_base.specs.declared.kernel.Event.{Event}
use Rattle.aos_base.specs.declared.kernel.Outcome.{Outcome}
use Rattle.aos_base.specs.declared.kernel.Outcome.TheVariants.{Going, Ended, Dead, Spent}
use Rattle.aos_base.specs.Book.{Where, TrapRow, outcome, on_worker, first_ready}
use Rattle.aos_base.specs.Machine.{Choice, State, execution}
use Rattle.aos_base.specs.Observation.{WaitRow, waits_below}
use Rattle.aos_code.specs.declared.image.Image.{Image}
use Rattle.aos_code.specs.declared.report.CallRec.{CallRec}
use Rattle.aos_code.specs.declared.report.TrapRec.{TrapRec}
use Rattle.aos_code.specs.declared.report.WaitRec.{WaitRec}
use Rattle.aos_code.specs.Memory.{Memory}
use Rattle.aos_code.specs.Machine.{Frames, machine, first_state}
use Rattle.aos_base.specs.declared.kernel.Sched.{Sched}
use Rattle.aos_kernel.specs.declared.log.Stepped.{Stepped}
use Rattle.aos_kernel.specs.declared.log.Stepped.TheVariants.{Turned, Dispatched, Idle, Over}
use Rattle.aos_base.specs.Schedule.{choices}
use Rattle.aos_kernel.specs.Log.{with_step, with_tick}

pub record Run : Type 0 where
  pub image : Image
  pub workers : ℕ
  pub budget : ℕ
  pub log : List Sched
  pub lent : List ℕ  -- the workers whose activities are lent
  pub loans : ℕ  -- how many loans were settled with turns, modulo 2^64

-- whether a worker is one of these
abbrev pub among : ℕ → List ℕ → Bool
among w [] = false
among w (v ∷ vs) = if v == w then true else among w vs

-- those but the worker
abbrev pub without : ℕ → List ℕ → List ℕ
without w vs = filter (λ v. not (v == w)) vs

-- where the image is after these choices
abbrev pub after : Image → ℕ → List Choice → State Memory Frames
after image budget cs = execution (machine image) cs (first_state image budget)

abbrev pub state_of : Run → State Memory Frames
state_of r = after r.image r.budget (choices r.log)

abbrev pub without_last : List Choice → List Choice
without_last cs = take (length cs - 1) cs

-- the state before the last step or tick
abbrev pub state_before : Run → State Memory Frames
state_before r = after r.image r.budget (without_last (choices r.log))

-- the events of the last step or tick
abbrev pub events_of : Run → List Event
events_of r = drop (length (state_before r).book.events) (state_of r).book.events

-- a call that led to a trap, and a trap, as they are told
abbrev pub call_of : Where → CallRec
call_of at = record { «module» = at.module_; pos = at.pos }

abbrev pub rec_of : TrapRow → TrapRec
rec_of row =
    record {
      number = row.number;
      code = row.code;
      activity = row.activity;
      «module» = row.at.module_;
      pos = row.at.pos;
      restart = row.restart;
      calls = map call_of row.calls;
    }

abbrev pub traps_of : Run → List TrapRec
traps_of r = map rec_of (state_of r).book.traps

-- one who waits, as it is told
abbrev pub wait_of : WaitRow → WaitRec
wait_of row = record { activity = row.activity; lock = row.lock; awaits = row.awaits; «module» = row.at.module_; pos = row.at.pos }

-- those who wait for locks, in the order of their numbers
abbrev pub waits_in : Image → State Memory Frames → List WaitRec
waits_in image st = map wait_of (waits_below (machine image) st.book.started st.book.line st.frames)

abbrev pub waits_of : Run → List WaitRec
waits_of r = waits_in r.image (state_of r)

-- the activity that reached the budget, where the outcome is Spent
abbrev pub if_spent : Outcome → Option ℕ → Option ℕ
if_spent Going a = None
if_spent Ended a = None
if_spent Dead a = None
if_spent Spent a = a

abbrev pub spent_of : Run → Option ℕ
spent_of r = let b = (state_of r).book in if_spent (outcome b) b.spent

-- a turn where the worker has an activity, else a dispatch where one is ready
abbrev pub stepped_with : Option ℕ → Option ℕ → Stepped
stepped_with (Some a) ready = Turned
stepped_with None (Some a) = Dispatched
stepped_with None None = Idle

abbrev pub stepped_while : Outcome → Stepped → Stepped
stepped_while Going s = s
stepped_while Ended s = Over
stepped_while Dead s = Over
stepped_while Spent s = Over

-- what a step of w comes to
abbrev pub comes_to : ℕ → Run → Stepped
comes_to w r = let b = (state_of r).book in stepped_while (outcome b) (stepped_with (on_worker w b.line) (first_ready b.line))

-- the run after a step of w that came to this
abbrev pub after_step : Stepped → ℕ → Run → Run
after_step Turned w r = record r { log = with_step w r.log }
after_step Dispatched w r = record r { log = with_step w r.log }
after_step Idle w r = r
after_step Over w r = r

abbrev pub has_activity : Option ℕ → Bool
has_activity None = false
has_activity (Some a) = true

abbrev pub ticks_while : Outcome → Bool → Bool
ticks_while Going has = has
ticks_while Ended has = false
ticks_while Dead has = false
ticks_while Spent has = false

-- whether a tick of w takes its activity from it
abbrev pub ticks : ℕ → Run → Bool
ticks w r = let b = (state_of r).book in ticks_while (outcome b) (has_activity (on_worker w b.line))

-- the run after a tick of w that did so or didn't
abbrev pub after_tick : Bool → ℕ → Run → Run
after_tick true w r = record r { log = with_tick w r.log }
after_tick false w r = r
