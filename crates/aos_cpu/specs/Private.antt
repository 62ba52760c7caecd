-- Turns on an activity's own frames alone, which can be made on frames that are lent.
use Rattle.std.specs.Prelude.{◌≡◌, ◌<◌, ◌+◌, ◌-◌, ◌^◌, ◌%◌, ℕ, zero, suc, List, [], ◌∷◌, Bool, true, false, ◌&&◌, Option, Some, None, drop, nat_eq, nat_le, if◌then◌else◌}
use Rattle.aos_base.specs.declared.root.Root.{Root}
use Rattle.aos_base.specs.declared.root.Root.TheVariants.{Frame as FrameRoot, Module as ModuleRoot, Object as ObjectRoot}
use Rattle.aos_base.specs.declared.kernel.Did.{Did}
use Rattle.aos_base.specs.declared.kernel.Did.TheVariants.{Went, Ended, Enter, Leave, Await, Start, Trapped}
use Rattle.aos_base.specs.Question.{Reads, Stores, Copies, PutsText, ComparesTexts, Calls, Ends, Makes, Starts, Enters, Leaves, Awaits, PutsInt, PutsChar, PutsString, PutsNothing, PutsLn, Places, Lengths, Opens, Sizes, Tests}
use Rattle.aos_base.specs.Rooted.{Made, by_number}
use Rattle.aos_code.specs.declared.instr.Cell.{Cell}
use Rattle.aos_code.specs.declared.instr.Cell.TheVariants.{Num, Ref, Call as CallCell, Place}
use Rattle.aos_code.specs.declared.image.ParamKind.{ParamKind}
use Rattle.aos_code.specs.declared.image.ParamKind.TheVariants as param
use Rattle.aos_code.specs.declared.image.ProcShape.{ProcShape}
use Rattle.aos_code.specs.declared.image.Image.{Image}
use Rattle.aos_code.specs.Memory.{Memory}
use Rattle.aos_code.specs.Numbered.{numbered}
use Rattle.aos_code.specs.Silent.{Question, Stop, Work, Ended as StopsAt, Begins, Fails, Decides}
use Rattle.aos_code.specs.Machine.{Frame, Frames, Turned, arguments_of, opened, made_in, stop_of, turn}
use Rattle.aos_store.specs.declared.frames.Frames.{Frames as KeptFrames}
use Rattle.aos_store.specs.Store.{frames_in, SameCounts}
use Rattle.aos_cpu.specs.declared.alone.PrivateStop.{PrivateStop}
use Rattle.aos_cpu.specs.declared.alone.PrivateStop.TheVariants.{Most, Shared, Budget}
use Rattle.aos_silent_steps.specs.Known.{Knows}
use Rattle.aos_cpu.specs.Turns.{Alike, counted}

-- a memory without modules and objects, of which it is known what objects were made as
abbrev pub only_made : List Made → Memory
only_made made = record { modules = []; objects = []; made = made }

abbrev pub no_memory : Memory
no_memory = only_made []

abbrev pub made_by : List Made → ℕ → Option Made
made_by made = λ o. by_number o made

-- Which work needs nothing but the frames.

abbrev pub is_of_frame : Root → Bool
is_of_frame (FrameRoot d) = true
is_of_frame (ModuleRoot m) = false
is_of_frame (ObjectRoot o) = false

-- what isn't a place elsewhere
abbrev pub is_own_value : Cell → Bool
is_own_value (Num z) = true
is_own_value (Ref o) = true
is_own_value (CallCell p o) = true
is_own_value (Place root cell type) = is_of_frame root

-- what a call copies for parameters of these kinds is in the frames
abbrev pub copies_own : List ParamKind → List Cell → Bool
copies_own [] vs = true
copies_own (p ∷ ps) [] = true
copies_own (param.Scalar kind ∷ ps) (v ∷ vs) = copies_own ps vs
copies_own (param.Whole n ∷ ps) (v ∷ vs) = is_own_value v && copies_own ps vs
copies_own (param.Place ∷ ps) (v ∷ vs) = copies_own ps vs
copies_own (param.Open d false n ∷ ps) (v ∷ vs) = copies_own ps (drop d vs)
copies_own (param.Open d true n ∷ ps) (v ∷ vs) = is_own_value v && copies_own ps (drop d vs)

abbrev pub calls_own : Option ProcShape → List Cell → Bool
calls_own None vs = true
calls_own (Some f) vs = copies_own f.params.items (arguments_of f.method vs)

-- the answer reads and changes no memory, and is no call of Out
abbrev pub is_own : List ProcShape → Question → Bool
is_own shapes (Reads kind a) = is_of_frame a.root
is_own shapes (Stores a v) = is_of_frame a.root
is_own shapes (Copies n from to) = is_of_frame from.root && is_of_frame to.root
is_own shapes (PutsText strict from n to room) = is_of_frame from.root && is_of_frame to.root
is_own shapes (ComparesTexts r a n b m) = is_of_frame a.root && is_of_frame b.root
is_own shapes (Calls how p vs) = calls_own (numbered shapes p) vs
is_own shapes (Ends result) = true
is_own shapes (Makes t vs) = false
is_own shapes (Starts v) = false
is_own shapes Enters = false
is_own shapes Leaves = false
is_own shapes (Awaits c) = false
is_own shapes (PutsInt v n) = false
is_own shapes (PutsChar v) = false
is_own shapes (PutsString a n) = false
is_own shapes PutsNothing = false
is_own shapes PutsLn = false
is_own shapes (Places a) = false
is_own shapes (Lengths a) = false
is_own shapes (Opens v) = false
is_own shapes (Sizes v d) = false
is_own shapes (Tests v t) = false

-- where silent work ends before such work, or at the beginning of a statement
abbrev pub is_own_stop : List ProcShape → Stop → Bool
is_own_stop shapes (Work q at k s) = is_own shapes q
is_own_stop shapes (StopsAt (Begins at p s) k) = true
is_own_stop shapes (StopsAt (Fails n c) k) = false
is_own_stop shapes (StopsAt (Decides a) k) = false

abbrev pub has_gone : Did → Bool
has_gone Went = true
has_gone Ended = false
has_gone (Enter l) = false
has_gone (Leave l) = false
has_gone (Await l c) = false
has_gone (Start o) = false
has_gone (Trapped n c) = false

module _ (image : Image) where
  -- a turn where there is no memory, and objects are known to be made as this
  abbrev pub alone : List Made → Frames → Turned
  alone made fs = turn image (only_made made) fs

  -- over any memory in which they were made so, and maybe others, the next turn makes the same frames, changes no memory, writes nothing,
  -- and leaves nothing to the kernel
  abbrev pub IsPrivate : List Made → Frames → Type 0
  IsPrivate made fs =
      (mem : Memory) → Knows (made_in image mem) (made_by made) → turn image mem fs ≡ record { store = mem; frames = (alone made fs).frames; output = []; begun = (alone made fs).begun; left = Went }

  abbrev pub is_own_top : List Frame → Bool
  is_own_top [] = false
  is_own_top (f ∷ fs) = is_own_stop image.shapes.items (stop_of image (made_by []) f fs)

  -- the next turn needs nothing but the frames, and asks no object for what it was made as: it is private, unless it traps
  abbrev pub is_own_turn : Frames → Bool
  is_own_turn fs = is_own_top (opened fs).frames

  -- such a turn that doesn't trap
  abbrev pub is_private : Frames → Bool
  is_private fs = is_own_turn fs && has_gone (alone [] fs).left

  -- a private turn of these frames has been made
  pub record HasTurned (made : List Made) (fs : Frames) (old new : KeptFrames) : Type 0 where
    pub private : IsPrivate made fs
    pub alike : Alike image (made_by made) (alone made fs).frames (frames_in new)
    pub begun : new.begun ≡ counted (alone made fs).begun old.begun
    pub turns : new.turns ≡ (old.turns + 1) % 2 ^ 64

  -- the next turn isn't private, and nothing has been done but silent work
  pub record Holds (old new : KeptFrames) : Type 0 where
    pub alike : Alike image (made_by []) (frames_in old) (frames_in new)
    pub counts : SameCounts old new
    pub shared : is_private (frames_in new) ≡ false

  -- a private turn has been made where that was the next one
  abbrev pub HasTried : Bool → (old new : KeptFrames) → Type 0
  HasTried true old new = (made : List Made) (fs : Frames) → Alike image (made_by made) fs (frames_in old) → HasTurned made fs old new
  HasTried false old new = Holds old new

  -- the frames after so many turns where there is no memory
  abbrev pub after_turns : List Made → ℕ → Frames → Frames
  after_turns made zero fs = fs
  after_turns made (suc n) fs = (alone made (after_turns made n fs)).frames

  -- and how many statements have begun, where there were so many before
  abbrev pub begun_after : List Made → ℕ → Frames → ℕ → ℕ
  begun_after made zero fs begun = begun
  begun_after made (suc n) fs begun = counted (alone made (after_turns made n fs)).begun (begun_after made n fs begun)

  -- so many turns have been made of these frames, each private, and none but the last may have used up the budget
  pub record Privately (made : List Made) (budget many : ℕ) (fs : Frames) (old new : KeptFrames) : Type 0 where
    pub private : (i : ℕ) → i < many → IsPrivate made (after_turns made i fs)
    pub below : (i : ℕ) → i < many → begun_after made i fs old.begun < budget
    pub alike : Alike image (made_by made) (after_turns made many fs) (frames_in new)
    pub begun : new.begun ≡ begun_after made many fs old.begun
    pub turns : new.turns ≡ (old.turns + many) % 2 ^ 64

  -- of any frames that are alike to the old ones, where objects are known to be made so
  abbrev pub IsMadePrivately : (budget many : ℕ) → (old new : KeptFrames) → Type 0
  IsMadePrivately budget many old new = (made : List Made) (fs : Frames) → Alike image (made_by made) fs (frames_in old) → Privately made budget many fs old new

-- so many turns are told of these frames
abbrev pub turns_since : (old new : KeptFrames) → ℕ
turns_since old new = (new.turns + (2 ^ 64 - old.turns)) % 2 ^ 64

-- why private turns end: the budget goes before the most that were asked for
abbrev pub stop_after : (budget most made begun : ℕ) → PrivateStop
stop_after budget most made begun = if nat_le budget begun then Budget else if nat_eq made most then Most else Shared

abbrev pub WhereShared : PrivateStop → Type 0 → Type 0
WhereShared Shared P = P
WhereShared Most P = Unit {0}
WhereShared Budget P = Unit {0}
