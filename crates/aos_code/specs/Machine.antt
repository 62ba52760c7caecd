-- An image as a machine: its memory, its frames, and the turns of an activity.
use Rattle.std.specs.Prelude.{ℕ, zero, suc, ℤ, pos, negsuc, ◌+◌, List, [], ◌∷◌, ◌++◌, length, take, drop, Bool, true, false, not, ◌&&◌, Option, Some, None, map, nat_lt, nat_eq, if◌then◌else◌, is_some, option_and_then, option_map, slice_get}
use Rattle.std.specs.List.{flat_map, list_all}
use Rattle.std.specs.Option.{unwrap_or}
use Rattle.aos_base.specs.declared.text.Pos.{Pos}
use Rattle.aos_base.specs.declared.number.Relation.{Relation}
use Rattle.aos_base.specs.declared.root.Root.{Root}
use Rattle.aos_base.specs.declared.root.Root.TheVariants.{Frame as FrameRoot}
use Rattle.aos_base.specs.declared.kernel.Did.{Did}
use Rattle.aos_base.specs.declared.kernel.Did.TheVariants.{Went, Ended as NoFrame, Enter, Leave, Await, Start, Trapped}
use Rattle.aos_base.specs.declared.kernel.LockName.{LockName}
use Rattle.aos_base.specs.declared.kernel.LockName.TheVariants.{Module as ModuleLock, Object as ObjectLock}
use Rattle.aos_base.specs.declared.kernel.Verdict.{Verdict}
use Rattle.aos_base.specs.declared.kernel.Verdict.TheVariants.{Holds, Fails as HoldsNot, Traps}
use Rattle.aos_base.specs.declared.priority.Priority.{Priority}
use Rattle.aos_base.specs.declared.priority.Priority.TheVariants.{Normal}
use Rattle.aos_base.specs.Number.{places_of, justified, holds, array_lengths}
use Rattle.aos_base.specs.Operators.{natural, flag}
use Rattle.aos_base.specs.Priority.{number_of, with_number}
use Rattle.aos_base.specs.Text.{order, ended_within, cut_within}
use Rattle.aos_base.specs.Book.{Where}
use Rattle.aos_base.specs.Machine.{Turn, Machine, State, start_of}
use Rattle.aos_base.specs.Frames.{Frames as FramesOf, change_frame, change_top, is_deep_by, begins_one, position_by, lowest_home_by, position_in_by}
pub use Rattle.aos_base.specs.Frames.{all_frames, goes_on, puts, leaves, or_below}
use Rattle.aos_base.specs.Rooted.{Made, Rooted, by_number, load, load_all, spliced}
use Rattle.aos_base.specs.Shared.{rooted as rooted_in, store_with}
use Rattle.aos_base.specs.Question.{Reads, Stores, Copies, PutsText, ComparesTexts, Calls, Ends, Makes, Starts, Enters, Leaves, Awaits, PutsInt, PutsChar, PutsString, PutsNothing, PutsLn, Places, Lengths, Opens, Sizes, Tests}
use Rattle.aos_code.specs.declared.instr.Cell.{Cell}
use Rattle.aos_code.specs.declared.instr.Cell.TheVariants.{Num, Ref, Call as CallCell, Place}
use Rattle.aos_code.specs.declared.instr.Kind.{Kind}
use Rattle.aos_code.specs.declared.instr.Kind.TheVariants.{N, R, C, A}
use Rattle.aos_code.specs.declared.instr.Instr.{Instr}
use Rattle.aos_code.specs.declared.instr.Instr.TheVariants as instr
use Rattle.aos_code.specs.declared.image.ParamKind.{ParamKind}
use Rattle.aos_code.specs.declared.image.ParamKind.TheVariants as param
use Rattle.aos_code.specs.declared.image.Body.{Body}
use Rattle.aos_code.specs.declared.image.ProcShape.{ProcShape}
use Rattle.aos_code.specs.declared.image.TypeDesc.{TypeDesc}
use Rattle.aos_code.specs.declared.image.Image.{Image}
use Rattle.aos_code.specs.Numbered.{numbered}
use Rattle.aos_code.specs.Memory.{Addr, Memory, type_of_object, with_object, new_number, has_room}
use Rattle.aos_code.specs.Silent.{Here, Stack, Keeps, Question, Begins, Fails, Decides, Stop, Work, Ended, is_of, cells_of, silent}

-- a frame: its procedure, the object whose method or body it is, 0 for none, the place of the next instruction, the statement last
-- begun, its cells and how many of them count as scalars, what it keeps, and its operands
pub record Frame : Type 0 where
  pub procedure : ℕ
  pub object : ℕ
  pub next : ℕ
  pub at : Option Pos
  pub is_open : Bool
  pub cells : List Cell
  pub counted : ℕ
  pub keeps : Keeps
  pub stack : Stack

abbrev pub Frames : Type 0
Frames = FramesOf Frame

-- the lock of a frame's regions: that of the object on which its procedure is called, or else of the module in which that stands
abbrev pub own_lock : (method : Bool) → (home object : ℕ) → LockName
own_lock true m o = ObjectLock o
own_lock false m o = ModuleLock m

abbrev pub lock_in : Option ProcShape → Frame → LockName
lock_in None f = own_lock false 0 f.object
lock_in (Some shape) f = own_lock shape.method shape.module f.object

-- where the instructions of a frame above these stand
abbrev pub here_of : Frame → List Frame → Here
here_of f fs = record { below = length fs; self = f.object }

abbrev pub Turned : Type 0
Turned = Turn Memory Frames

abbrev pub first_cell : Kind → Cell
first_cell N = Num (pos 0)
first_cell R = Ref 0
first_cell C = CallCell 0 0
first_cell A = Num (pos 0)

-- The memory below the roots of an activity.

abbrev pub rooted : List Frame → Memory → Rooted (List Cell)
rooted fs mem = rooted_in (map (λ f. f.cells) fs) mem

abbrev pub frames_with : Root → (List Cell → List Cell) → List Frame → List Frame
frames_with r g fs = change_frame r (λ f. record f { cells = g f.cells }) fs

abbrev pub memory_with : Root → (List Cell → List Cell) → Memory → Memory
memory_with r g mem = store_with r g mem

-- so many cells, where there are so many
abbrev pub if_all : ℕ → List Cell → Option (List Cell)
if_all n vs = if nat_eq (length vs) n then Some vs else None

-- the text that OutInt writes, where the number of places is 0 to 255
abbrev pub written : Cell → Cell → Option (List ℕ)
written (Num z) (Num n) = justified z (places_of n)
written _ _ = None

abbrev pub cells_at : ℕ → Addr → Rooted (List Cell) → Option (List Cell)
cells_at n a x = option_and_then (if_all n) (load_all n a.root a.cell x)

-- the object that a method is called on comes before its arguments
abbrev pub object_of : (method : Bool) → List Cell → ℕ
object_of true (Ref o ∷ vs) = o
object_of _ vs = 0

abbrev pub arguments_of : (method : Bool) → List Cell → List Cell
arguments_of true vs = drop 1 vs
arguments_of false vs = vs

-- What work needs to find: the end of a region, and AWAIT, an open region of the frame, and the end of the frame none; the start of an
-- activity an object whose type has an active body.

abbrev pub has_active_body : Option TypeDesc → Bool
has_active_body None = false
has_active_body (Some t) = t.active && nat_lt 0 t.body

abbrev pub is_startable : List TypeDesc → Cell → Memory → Bool
is_startable types (Num z) mem = false
is_startable types (Ref o) mem = has_active_body (option_and_then (numbered types) (type_of_object o mem))
is_startable types (CallCell p o) mem = false
is_startable types (Place root cell type) mem = false

abbrev pub finds : List TypeDesc → Question → Frame → Memory → Bool
finds types (Ends result) f mem = not f.is_open
finds types (Starts v) f mem = is_startable types v mem
finds types Leaves f mem = f.is_open
finds types (Awaits c) f mem = f.is_open
finds types q f mem = true

-- what asks a question: the instruction at a place of the topmost frame, with what is kept and the operands below its own, over the
-- frames below and the memory
pub record Asker : Type 0 where
  pub at : ℕ
  pub keeps : Keeps
  pub stack : Stack
  pub frame : Frame
  pub below : List Frame
  pub memory : Memory

module _ (at : ℕ) (keeps : Keeps) (stack : Stack) where
  abbrev pub asker : Frame → List Frame → Memory → Asker
  asker f fs mem = record { at = at; keeps = keeps; stack = stack; frame = f; below = fs; memory = mem }

-- an activity's frames, of which the topmost runs
module _ (following : List ℕ) where
  -- the frame goes on behind the instruction at this place, with these operands
  abbrev pub behind : ℕ → Keeps → Stack → Frame → Frame
  behind at k s f = record f { next = at + 1; stack = s; keeps = k }

  -- it stands at the instruction, whose operands lie there still
  abbrev pub before : ℕ → Keeps → Stack → Frame → Frame
  before at k s f = record f { next = at; stack = s; keeps = k }

  -- what asks goes on behind its instruction, or stands at it, with these operands
  abbrev pub going_on : Stack → Asker → List Frame
  going_on s h = behind h.at h.keeps s h.frame ∷ h.below

  abbrev pub standing : Stack → Asker → List Frame
  standing s h = before h.at h.keeps s h.frame ∷ h.below

  -- or traps
  abbrev pub fails : ℕ → Asker → Turned
  fails n h = leaves following (Trapped n 0) (h.frame ∷ h.below) h.memory

  -- what stands below its roots
  abbrev pub roots : Asker → Rooted (List Cell)
  roots h = rooted (h.frame ∷ h.below) h.memory

  -- it stores cells, where there are such cells
  abbrev pub writes : Bool → Addr → List Cell → Asker → Turned
  writes true a vs h =
      goes_on following (frames_with a.root (spliced a.cell vs) (going_on h.stack h)) (memory_with a.root (spliced a.cell vs) h.memory)
  writes false a vs h = fails 16 h

  abbrev pub reads : Kind → Option Cell → Asker → Turned
  reads kind None h = fails 16 h
  reads kind (Some v) h =
      if is_of kind v then goes_on following (going_on (v ∷ h.stack) h) h.memory else fails 16 h

  abbrev pub copies : Option (List Cell) → Bool → Addr → Asker → Turned
  copies None there to h = fails 16 h
  copies (Some vs) there to h = writes there to vs h

  -- the end of a frame, which hands its result to the one below
  abbrev pub with_result : Option Cell → List Frame → List Frame
  with_result None fs = fs
  with_result (Some v) fs = change_top (λ f. record f { stack = v ∷ f.stack }) fs

  abbrev pub ends : Option Cell → List Frame → Memory → Turned
  ends result fs mem = goes_on following (with_result result fs) mem

  abbrev pub prints : Option (List ℕ) → Asker → Turned
  prints None h = fails 14 h
  prints (Some bytes) h = puts following bytes (going_on h.stack h) h.memory

  -- bytes that must be there
  abbrev pub writes_out : Option (List ℕ) → Asker → Turned
  writes_out None h = fails 16 h
  writes_out (Some bytes) h = puts following bytes (going_on h.stack h) h.memory

  -- an object is made, where the heap has room for it
  abbrev pub makes : Bool → Made → List Cell → Asker → Turned
  makes true m cells h = goes_on following (going_on (Ref (new_number h.memory) ∷ h.stack) h) (with_object m cells h.memory)
  makes false m cells h = fails 12 h

  -- numbers that are to be lengths
  abbrev pub number_in : Cell → Option ℤ
  number_in (Num z) = Some z
  number_in (Ref o) = None
  number_in (CallCell p o) = None
  number_in (Place root cell type) = None

  abbrev pub numbers_in : List Cell → Option (List ℤ)
  numbers_in [] = Some []
  numbers_in (v ∷ vs) = option_and_then (λ z. option_map (λ zs. z ∷ zs) (numbers_in vs)) (number_in v)

  -- rows in one another, of these lengths
  abbrev pub times : ℕ → List Cell → List Cell
  times zero vs = []
  times (suc n) vs = vs ++ times n vs

  abbrev pub in_rows : List ℕ → List Cell → List Cell
  in_rows [] vs = vs
  in_rows (n ∷ ns) vs = times n (in_rows ns vs)

  -- an object of a type, of these lengths, none of which may be below 1
  abbrev pub makes_with : Option (List ℕ) → ℕ → TypeDesc → Asker → Turned
  makes_with None t d h = fails 15 h
  makes_with (Some ns) t d h =
      let m : Made = record { type = t; lengths = ns } in
      let cells = in_rows ns (map first_cell d.kinds.items) in makes (has_room m cells h.memory) m cells h

  abbrev pub makes_of : Option TypeDesc → Option (List ℤ) → ℕ → Asker → Turned
  makes_of None zs t h = fails 16 h
  makes_of (Some d) None t h = fails 16 h
  makes_of (Some d) (Some zs) t h = makes_with (array_lengths zs) t d h

  -- an object's activity is left to the kernel
  abbrev pub starts : Cell → Asker → Turned
  starts (Ref (suc o)) h = leaves following (Start (suc o)) (standing (Ref (suc o) ∷ h.stack) h) h.memory
  starts v h = fails 16 h

  -- Texts: the characters before the first 0X, or all where there is none.

  abbrev pub character_then : Option ℕ → Option (List ℕ) → Option (List ℕ)
  character_then None rest = None
  character_then (Some zero) rest = Some []
  character_then (Some (suc c)) rest = option_map (λ cs. suc c ∷ cs) rest

  abbrev pub code_in : Cell → Option ℕ
  code_in (Num z) = natural 256 z
  code_in (Ref o) = None
  code_in (CallCell p o) = None
  code_in (Place root cell type) = None

  -- none where a cell before the end has no character
  abbrev pub text_in : List Cell → Option (List ℕ)
  text_in [] = Some []
  text_in (v ∷ vs) = character_then (code_in v) (text_in vs)

  abbrev pub length_in : Cell → Option ℕ
  length_in (Num (pos n)) = Some n
  length_in (Num (negsuc n)) = None
  length_in (Ref o) = None
  length_in (CallCell p o) = None
  length_in (Place root cell type) = None

  -- the text at a place, in an array of this length
  abbrev pub text_at : Addr → Cell → Rooted (List Cell) → Option (List ℕ)
  text_at a n x = option_and_then text_in (option_and_then (λ m. cells_at m a x) (length_in n))

  abbrev pub character_cells : List ℕ → List Cell
  character_cells cs = map (λ c. Num (pos c)) cs

  abbrev pub stores_text : Option (List ℕ) → Addr → Rooted (List Cell) → Asker → Turned
  stores_text None to x h = fails 15 h
  stores_text (Some cs) to x h =
      writes (is_some (cells_at (length cs) to x)) to (character_cells cs) h

  abbrev pub fitted : Bool → ℕ → List ℕ → Option (List ℕ)
  fitted true room cs = ended_within room cs
  fitted false room cs = Some (cut_within room cs)

  -- a text that is to be stored, as far as it fits, where both the text and the room for it are known
  abbrev pub fitted_in : Bool → Option (List ℕ) → Option ℕ → Option (Option (List ℕ))
  fitted_in strict None room = None
  fitted_in strict (Some cs) None = None
  fitted_in strict (Some cs) (Some room) = Some (fitted strict room cs)

  abbrev pub puts_text : Option (Option (List ℕ)) → Addr → Rooted (List Cell) → Asker → Turned
  puts_text None to x h = fails 16 h
  puts_text (Some text) to x h = stores_text text to x h

  abbrev pub compares : Relation → Option (List ℕ) → Option (List ℕ) → Asker → Turned
  compares r (Some a) (Some b) h = goes_on following (going_on (Num (flag (holds r (order a b) (pos 0))) ∷ h.stack) h) h.memory
  compares r (Some a) None h = fails 16 h
  compares r None b h = fails 16 h

  -- Calls.

  -- what parameters get: the cells of the frame, and behind all of these the cells of copied open arrays
  pub record Handed : Type 0 where
    pub cells : List Cell
    pub copies : List Cell

  abbrev pub hand : List Cell → List Cell → Handed → Handed
  hand vs copied h = record { cells = vs ++ h.cells; copies = copied ++ h.copies }

  abbrev pub lengths_in : List Cell → Option (List ℕ)
  lengths_in [] = Some []
  lengths_in (v ∷ vs) = option_and_then (λ n. option_map (λ ns. n ∷ ns) (lengths_in vs)) (length_in v)

  -- the cells that stand at a place, which a value parameter copies
  abbrev pub whole_at : ℕ → Cell → Rooted (List Cell) → Option (List Cell)
  whole_at n (Num z) x = None
  whole_at n (Ref o) x = None
  whole_at n (CallCell p o) x = None
  whole_at n (Place root cell type) x = cells_at n (record { root = root; cell = cell }) x

  abbrev pub handed_more : Option Handed → List Cell → List Cell → Option Handed
  handed_more rest vs copied = option_map (hand vs copied) rest

  -- what is handed over for parameters, in a frame above so many; copies begin at this cell
  module _ (here : ℕ) (x : Rooted (List Cell)) where
    abbrev pub copied_open : (at : ℕ) → List Cell → Option (List Cell) → (ℕ → Option Handed) → Option Handed
    copied_open at lengths None k = None
    copied_open at lengths (Some vs) k = option_map (hand (Place (FrameRoot here) at 0 ∷ lengths) vs) (k (at + length vs))

    abbrev pub handed : List ParamKind → List Cell → (at : ℕ) → Option Handed
    handed [] vs at = Some (record { cells = []; copies = [] })
    handed (p ∷ ps) [] at = None
    handed (param.Scalar kind ∷ ps) (v ∷ vs) at = option_map (hand (v ∷ []) []) (handed ps vs at)
    handed (param.Whole n ∷ ps) (v ∷ vs) at =
        option_and_then (λ cells. option_map (hand cells []) (handed ps vs at)) (whole_at n v x)
    handed (param.Place ∷ ps) (v ∷ vs) at = option_map (hand (v ∷ []) []) (handed ps vs at)
    handed (param.Open d false n ∷ ps) (v ∷ vs) at =
        option_and_then (λ ns. option_map (hand (v ∷ take d vs) []) (handed ps (drop d vs) at)) (lengths_in (take d vs))
    handed (param.Open d true n ∷ ps) (v ∷ vs) at =
        option_and_then (λ ns. copied_open at (take d vs) (whole_at (cells_of ns n) v x) (λ at'. handed ps (drop d vs) at'))
        (lengths_in (take d vs))

  -- the cells behind the parameters begin as their kinds say
  abbrev pub called_frame : (procedure object : ℕ) → ProcShape → Handed → Frame
  called_frame p o f h =
      record {
        procedure = p;
        object = o;
        next = 0;
        at = None;
        is_open = false;
        cells = h.cells ++ (map first_cell (drop (length h.cells) f.kinds.items) ++ h.copies);
        counted = f.counted + length h.copies;
        keeps = λ c. Num (pos 0);
        stack = [];
      }

  abbrev pub is_deep : Frame → List Frame → Bool
  is_deep g fs = is_deep_by (λ f. f.counted) g fs

  abbrev pub enters : Bool → Frame → Asker → Turned
  enters true g h = fails 11 h
  enters false g h = goes_on following (g ∷ going_on h.stack h) h.memory

  abbrev pub calls_with : Option Frame → Asker → Turned
  calls_with None h = fails 16 h
  calls_with (Some g) h = enters (is_deep g (h.frame ∷ h.below)) g h

  abbrev pub calls : Option ProcShape → ℕ → List Cell → Asker → Turned
  calls None p vs h = fails 16 h
  calls (Some shape) p vs h =
      let given = handed (suc (length h.below)) (roots h) shape.params.items (arguments_of shape.method vs) (length shape.kinds.items) in
      calls_with (option_map (called_frame p (object_of shape.method vs) shape) given) h

  -- the question is answered
  module _ (shapes : List ProcShape) (types : List TypeDesc) where
    -- the lock of its frame's regions
    abbrev pub lock_at : Asker → LockName
    lock_at h = lock_in (numbered shapes h.frame.procedure) h.frame

    abbrev pub answer : Question → Asker → Turned
    answer (Reads kind a) h = reads kind (load a.root a.cell (roots h)) h
    answer (Stores a v) h =
        writes (is_some (load a.root a.cell (roots h))) a (v ∷ []) h
    answer (Copies n from to) h =
        let x = roots h in copies (cells_at n from x) (is_some (cells_at n to x)) to h
    answer (PutsText strict from n to room) h =
        let x = roots h in puts_text (fitted_in strict (text_at from n x) (length_in room)) to x h
    answer (ComparesTexts r a n b m) h =
        let x = roots h in compares r (text_at a n x) (text_at b m x) h
    answer (Calls how p vs) h = calls (numbered shapes p) p vs h
    answer (Ends result) h = ends result h.below h.memory
    answer (Makes t vs) h = makes_of (numbered types t) (numbers_in vs) t h
    answer (Starts v) h = starts v h
    answer Enters h = leaves following (Enter (lock_at h)) (standing h.stack h) h.memory
    answer Leaves h = leaves following (Leave (lock_at h)) (standing h.stack h) h.memory
    answer (Awaits c) h = leaves following (Await (lock_at h) c) (standing h.stack h) h.memory
    answer (PutsInt v n) h = prints (written v n) h
    answer (PutsChar v) h = writes_out (option_map (λ c. c ∷ []) (code_in v)) h
    answer (PutsString a n) h = writes_out (text_at a n (roots h)) h
    answer PutsNothing h = puts following [] (going_on h.stack h) h.memory
    answer PutsLn h = puts following (10 ∷ []) (going_on h.stack h) h.memory
    -- answered at once, before a turn comes here
    answer (Places a) h = fails 16 h
    answer (Lengths a) h = fails 16 h
    answer (Opens v) h = fails 16 h
    answer (Sizes v d) h = fails 16 h
    answer (Tests v t) h = fails 16 h

    -- the question is answered where the work finds what it needs
    abbrev pub works : (found : Bool) → Question → Asker → Turned
    works true q h = answer q h
    works false q h = fails 16 h

    abbrev pub goes : Stop → Frame → List Frame → Memory → Turned
    goes (Work q at k s) f fs mem = works (finds types q f mem) q (asker at k s f fs mem)
    goes (Ended (Begins at p s) k) f fs mem =
        begins_one following (record f { next = at + 1; at = Some p; stack = s; keeps = k } ∷ fs) mem
    goes (Ended (Fails n c) k) f fs mem = leaves following (Trapped n c) (f ∷ fs) mem
    -- no condition ends here
    goes (Ended (Decides a) k) f fs mem = leaves following (Trapped 16 0) (f ∷ fs) mem

-- a frame at the beginning of a body, which has no variables
abbrev pub body_frame : (object procedure : ℕ) → Frame
body_frame o p = record { procedure = p; object = o; next = 0; at = None; is_open = false; cells = []; counted = 0; keeps = λ c. Num (pos 0); stack = [] }

abbrev pub code_in_body : Option Body → List Instr
code_in_body None = []
code_in_body (Some b) = b.code.items

abbrev pub home_in : Option ProcShape → ℕ
home_in None = 0
home_in (Some s) = s.module

-- where no frame is left the next body begins
abbrev pub opened_by : List Frame → List ℕ → Frames
opened_by [] [] = record { following = []; frames = [] }
opened_by [] (p ∷ ps) = record { following = ps; frames = body_frame 0 p ∷ [] }
opened_by (f ∷ fs) ps = record { following = ps; frames = f ∷ fs }

abbrev pub opened : Frames → Frames
opened fs = opened_by fs.frames fs.following

-- a body's number is 0 where there is none
abbrev pub bodies : ℕ → List ℕ
bodies zero = []
bodies (suc p) = suc p ∷ []

-- the bodies of modules, one after the other
abbrev pub module_frames : List ℕ → Frames
module_frames ps = record { following = ps; frames = [] }

-- the body of an object
abbrev pub object_frames : ℕ → Option TypeDesc → Frames
object_frames o None = record { following = []; frames = [] }
object_frames o (Some t) = record { following = []; frames = map (body_frame o) (bodies t.body) }

-- the priority of the activities of a type's objects, by the number in its description; the normal one where no priority has that number
abbrev pub level : ℕ → Priority
level n = unwrap_or (with_number n) Normal

abbrev pub object_priority : Option TypeDesc → Priority
object_priority None = Normal
object_priority (Some t) = level t.priority

-- whether a frame's region is open behind the work that was left to the kernel
abbrev pub opens : Question → Bool → Bool
opens Enters is_open = true
opens Leaves is_open = false
opens q is_open = is_open

-- past that work, to which silent work has come
abbrev pub past_stop : Stop → Frame → Frame
past_stop (Work q at k s) f = record f { next = at + 1; is_open = opens q f.is_open; keeps = k; stack = s }
past_stop (Ended end k) f = f

-- work behind which the frame goes on, once the kernel has done it
abbrev pub is_passed : Did → Bool
is_passed Went = false
is_passed NoFrame = false
is_passed (Enter l) = true
is_passed (Leave l) = true
is_passed (Await l c) = true
is_passed (Start o) = true
is_passed (Trapped n c) = false

-- Conditions. One is evaluated over the frame that awaits it, from no operands, and changes nothing.

-- what may stand in one: no visible work but reading a scalar and comparing texts, and nothing that keeps a value, asserts or halts
abbrev pub may_evaluate : Instr → Bool
may_evaluate (instr.Keep c k) = false
may_evaluate (instr.Assert c) = false
may_evaluate (instr.Halt c) = false
may_evaluate (instr.Begin line col) = false
may_evaluate (instr.Store k) = false
may_evaluate (instr.Copy n) = false
may_evaluate (instr.PutText strict) = false
may_evaluate (instr.Call p) = false
may_evaluate (instr.Virtual k p) = false
may_evaluate (instr.CallValue p) = false
may_evaluate (instr.NewObject t) = false
may_evaluate (instr.NewArray t j) = false
may_evaluate instr.Start = false
may_evaluate instr.Enter = false
may_evaluate instr.Leave = false
may_evaluate (instr.Await c) = false
may_evaluate instr.Return = false
may_evaluate instr.OutChar = false
may_evaluate instr.OutInt = false
may_evaluate instr.OutString = false
may_evaluate instr.OutLn = false
may_evaluate instr.OutOpen = false
may_evaluate i = true

-- none, where something else stands there
abbrev pub condition_in : Option Body → List Instr
condition_in None = []
condition_in (Some b) = if list_all may_evaluate b.code.items then b.code.items else []

-- it ends with 0 or 1
abbrev pub decided : ℤ → Verdict
decided (pos zero) = HoldsNot
decided (pos (suc zero)) = Holds
decided (pos (suc (suc n))) = Traps 16
decided (negsuc n) = Traps 16

-- it goes on with what a cell holds, or traps
abbrev pub goes_on_with : Kind → Option Cell → (Cell → Verdict) → Verdict
goes_on_with kind None next = Traps 16
goes_on_with kind (Some v) next = if is_of kind v then next v else Traps 16

-- or with what the order of two texts is
abbrev pub goes_on_by : Relation → Option (List ℕ) → Option (List ℕ) → (Cell → Verdict) → Verdict
goes_on_by r (Some a) (Some b) next = next (Num (flag (holds r (order a b) (pos 0))))
goes_on_by r (Some a) None next = Traps 16
goes_on_by r None b next = Traps 16

-- where silent work has come to this over these cells; behind a cell that is read, and texts that are compared, it goes on so
abbrev pub judged : Rooted (List Cell) → (ℕ → Keeps → Stack → Verdict) → Stop → Verdict
judged x next (Work (Reads kind a) at k s) = goes_on_with kind (load a.root a.cell x) (λ v. next (at + 1) k (v ∷ s))
judged x next (Work (ComparesTexts r a n b m) at k s) =
    goes_on_by r (text_at [] a n x) (text_at [] b m x) (λ v. next (at + 1) k (v ∷ s))
judged x next (Work q at k s) = HoldsNot
judged x next (Ended (Begins at p s) k) = HoldsNot
judged x next (Ended (Fails n c) k) = Traps n
judged x next (Ended (Decides a) k) = decided a

module _ (image : Image) where
  abbrev pub code_of : ℕ → List Instr
  code_of p = code_in_body (numbered image.bodies.items p)

  -- the number of the module in which a procedure stands
  abbrev pub home_of : ℕ → ℕ
  home_of p = home_in (numbered image.shapes.items p)

  -- the silent work of a frame, where objects are known to be made as this
  abbrev pub stop_of : (ℕ → Option Made) → Frame → List Frame → Stop
  stop_of made f fs =
      silent image.shapes.items image.types.items made f.procedure (here_of f fs) f.cells (code_of f.procedure) f.next f.keeps f.stack

  abbrev pub made_in : Memory → ℕ → Option Made
  made_in mem o = by_number o mem.made

  abbrev pub turn_at : List ℕ → List Frame → Memory → Turned
  turn_at following [] mem = leaves following NoFrame [] mem
  turn_at following (f ∷ fs) mem = goes following image.shapes.items image.types.items (stop_of (made_in mem) f fs) f fs mem

  -- all silent work up to and with the next visible instruction
  abbrev pub turn : Memory → Frames → Turned
  turn mem fs = let now = opened fs in turn_at now.following now.frames mem

  -- a frame that has left work to the kernel stands at its instruction, so no object is asked on the way
  abbrev pub past_all : List Frame → List Frame
  past_all [] = []
  past_all (f ∷ fs) = past_stop (stop_of (λ o. None) f fs) f ∷ fs

  abbrev pub past : Frames → Frames
  past fs = let now = opened fs in record now { frames = past_all now.frames }

  -- the locks of the open regions, the latest entered first
  abbrev pub regions_of : List Frame → List LockName
  regions_of [] = []
  regions_of (f ∷ fs) = if f.is_open then lock_in (numbered image.shapes.items f.procedure) f ∷ regions_of fs else regions_of fs

  -- the frames with which an object's activity begins
  abbrev pub body_of : Memory → ℕ → Frames
  body_of mem o = object_frames o (option_and_then (numbered image.types.items) (type_of_object o mem))

  -- and the activity's priority
  abbrev pub priority_of : Memory → ℕ → Priority
  priority_of mem o = object_priority (option_and_then (numbered image.types.items) (type_of_object o mem))

  -- the module in which a frame's procedure stands
  abbrev pub frame_home : Frame → ℕ
  frame_home f = home_of f.procedure

  abbrev pub position_or : Where → List Frame → Where
  position_or none fs = position_by (λ f. f.at) frame_home none fs

  abbrev pub lowest_home : ℕ → List Frame → ℕ
  lowest_home home fs = lowest_home_by frame_home home fs

  abbrev pub position_in : List Frame → Where
  position_in fs = position_in_by (λ f. f.at) frame_home fs

  abbrev pub position : Frames → Where
  position fs = position_in (opened fs).frames

  -- the code of a condition
  abbrev pub condition_of : ℕ → List Instr
  condition_of c = condition_in (slice_get image.conds.items c)

  -- a condition of this code over the topmost of these frames, from a place on, through silent work so many times at most: no jump leads
  -- back, so it comes to an end before
  module _ (mem : Memory) (f : Frame) (fs : List Frame) (code : List Instr) where
    abbrev pub verdict_from : ℕ → ℕ → Keeps → Stack → Verdict
    verdict_from zero at k s = HoldsNot
    verdict_from (suc n) at k s =
        judged (rooted (f ∷ fs) mem) (verdict_from n)
        (silent image.shapes.items image.types.items (made_in mem) f.procedure (here_of f fs) f.cells code at k s)

  abbrev pub verdict_over : Memory → List Frame → List Instr → Verdict
  verdict_over mem [] code = HoldsNot
  verdict_over mem (f ∷ fs) code = verdict_from mem f fs code (suc (length code)) 0 f.keeps []

  -- what the condition of this number comes to over the topmost frame
  abbrev pub verdict : Memory → Frames → ℕ → Verdict
  verdict mem fs c = verdict_over mem fs.frames (condition_of c)

  -- an image as a machine under the kernel
  abbrev pub machine : Machine Memory Frames
  machine =
      record {
        turn = turn;
        past = past;
        verdict = verdict;
        regions = λ fs. regions_of fs.frames;
        position = position;
        body = body_of;
        priority = λ mem o. number_of (priority_of mem o);
        anew = λ fs. None;
      }

  abbrev pub first_memory : Memory
  first_memory = record { modules = map (λ m. m.cells.items) image.modules.items; objects = []; made = [] }

  -- activity 0 runs the bodies of the modules, in load order
  abbrev pub first_frames : Frames
  first_frames = module_frames (flat_map (λ m. bodies m.body) image.modules.items)

  abbrev pub first_state : ℕ → State Memory Frames
  first_state budget = start_of first_memory first_frames budget
