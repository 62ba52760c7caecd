-- Whether the answer to a question comes, and no trap.
use Rattle.std.specs.Prelude.{◌≡◌, ℕ, ◌+◌, ◌-◌, min, List, ◌∷◌, take, reverse, Bool, true, false, nat_lt, if◌then◌else◌, Option, Some, None}
use Rattle.aos_base.specs.Rooted.{Rooted, at_root}
use Rattle.aos_code.specs.declared.instr.Cell.{Cell}
use Rattle.aos_code.specs.declared.instr.Kind.{Kind}
use Rattle.aos_code.specs.declared.image.ProcShape.{ProcShape}
use Rattle.aos_code.specs.declared.image.TypeDesc.{TypeDesc}
use Rattle.aos_code.specs.Memory.{Memory, Addr}
use Rattle.aos_code.specs.Silent.{Stack, Keeps, is_of}
use Rattle.aos_code.specs.Machine.{asker, Frame, calls, works, finds, goes}
use Rattle.aos_store.specs.declared.frames.Frames.{Frames as KeptFrames}
use Rattle.aos_store.specs.Store.{list_in, has_all}
use Rattle.aos_silent_steps.specs.declared.act.Question.{Question as KeptQuestion}
use Rattle.aos_silent_steps.specs.declared.silent.Stop.{Stop as KeptStop}
use Rattle.aos_silent_steps.specs.declared.act.Way.{Way}
use Rattle.aos_silent_steps.specs.Acts.{question_in, passed}
use Rattle.aos_silent_steps.specs.Silent.{stop_in}
use Rattle.aos_cpu.specs.Private.{has_gone, is_own, is_own_stop}

-- there is a value, of this kind
abbrev pub holds : Kind → Option Cell → Bool
holds kind None = false
holds kind (Some v) = is_of kind v

-- how many characters of a text with so many are stored in an array of this length, with the 0X
abbrev pub stored_len : Bool → (room len : ℕ) → Option ℕ
stored_len true room n = if nat_lt n room then Some (n + 1) else None
stored_len false room n = Some (min (room - 1) n + 1)

-- there are so many cells at a place, where it is known how many
abbrev pub has_cells : Option ℕ → Addr → Rooted (List Cell) → Bool
has_cells None to x = false
has_cells (Some n) to x = has_all n to.cell (at_root to.root x)

-- a text with so many characters is stored in an array at a place
abbrev pub takes_text : Bool → (len room : Option ℕ) → Addr → Rooted (List Cell) → Bool
takes_text strict None room to x = false
takes_text strict (Some n) None to x = false
takes_text strict (Some n) (Some room) to x = has_cells (stored_len strict room n) to x

-- this tells whether a procedure of this shape is called with so many operands of the topmost frame, which are handed over in this way
abbrev pub TellsCall : Bool → Option ProcShape → Way → (count : ℕ) → KeptFrames → Memory → Type 0
TellsCall is shape way count frames mem =
    (f : Frame) (fs : List Frame) → list_in frames.list.items ≡ f ∷ fs → (following : List ℕ) (p at : ℕ) (k : Keeps) (s : Stack) →
    is ≡ has_gone (calls following shape p (passed way (reverse (take count f.stack))) (asker at k s f fs mem)).left

-- this tells whether the answer comes to the question of the topmost frame, if that needs nothing but the frames
abbrev pub TellsOwn : Bool → List ProcShape → List TypeDesc → KeptQuestion → KeptFrames → Memory → Type 0
TellsOwn is shapes types q frames mem =
    (f : Frame) (fs : List Frame) → list_in frames.list.items ≡ f ∷ fs → is_own shapes (question_in q f.stack) ≡ true → (following : List ℕ) (at : ℕ) (k : Keeps) (s : Stack) →
    is ≡ has_gone (works following shapes types (finds types (question_in q f.stack) f mem) (question_in q f.stack) (asker at k s f fs mem)).left

-- and so does this where silent work ends
abbrev pub TellsStop : Bool → List ProcShape → List TypeDesc → KeptStop → KeptFrames → Memory → Type 0
TellsStop is shapes types stop frames mem =
    (f : Frame) (fs : List Frame) → list_in frames.list.items ≡ f ∷ fs → is_own_stop shapes (stop_in stop f) ≡ true → (following : List ℕ) →
    is ≡ has_gone (goes following shapes types (stop_in stop f) f fs mem).left
