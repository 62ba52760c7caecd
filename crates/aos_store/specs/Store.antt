-- Frames and memory as code keeps them, and what of the definitions they show.
use Rattle.std.specs.Prelude.{◌≡◌, replicate, ℕ, ◌+◌, ◌-◌, pos, List, [], ◌∷◌, ◌++◌, length, map, reverse, take, drop, get_or, Bool, true, false, ◌&&◌, nat_lt, nat_le, if◌then◌else◌, Option, Some, None, sum_by}
use Rattle.aos_base.specs.declared.limits.TheConstants.{MOST_FRAME_SCALARS, MOST_FRAMES}
use Rattle.aos_base.specs.declared.root.Root.{Root}
use Rattle.aos_base.specs.Rooted.{Rooted, spliced}
use Rattle.aos_code.specs.declared.instr.Cell.{Cell}
use Rattle.aos_code.specs.declared.instr.Cell.TheVariants.{Num}
use Rattle.aos_code.specs.declared.instr.Kind.{Kind}
use Rattle.aos_code.specs.Memory.{Memory}
use Rattle.aos_code.specs.Silent.{Keeps, kept}
use Rattle.aos_code.specs.Machine.{Frame, Frames, rooted, frames_with, first_cell}
use Rattle.aos_store.specs.declared.frames.Frame.{Frame as KeptFrame}
use Rattle.aos_store.specs.declared.frames.Frames.{Frames as KeptFrames}
use Rattle.aos_store.specs.Objects.{object_cells, made_in}
use Rattle.aos_store.specs.declared.memory.Store.{Store}
use Rattle.aos_store.specs.declared.frames.FrameErr.{FrameErr}
use Rattle.aos_store.specs.declared.frames.FrameErr.TheVariants.{Deep, NoMemory as NoFrameMemory}
use Rattle.aos_store.specs.declared.cells.Change.{Change}
use Rattle.aos_store.specs.declared.cells.Change.TheVariants.{Sets, Moves}

-- the cells of a frame that places name, and those behind them, in which it keeps values
abbrev pub own_cells : KeptFrame → List Cell
own_cells f = take (length f.cells.items - f.keeps) f.cells.items

abbrev pub kept_cells : KeptFrame → List Cell
kept_cells f = drop (length f.cells.items - f.keeps) f.cells.items

-- what is kept, by number
abbrev pub keeps_in : List Cell → Keeps
keeps_in vs = λ c. get_or vs c (Num (pos 0))

-- operands lie with the topmost last
abbrev pub frame_in : KeptFrame → Frame
frame_in f =
    record {
      procedure = f.procedure;
      object = f.object;
      next = f.next;
      at = f.at;
      is_open = f.is_open;
      cells = own_cells f;
      counted = f.counted;
      keeps = keeps_in (kept_cells f);
      stack = reverse f.operands.items;
    }

-- so do frames
abbrev pub list_in : List KeptFrame → List Frame
list_in fs = map frame_in (reverse fs)

-- and the bodies that are to follow
abbrev pub frames_in : KeptFrames → Frames
frames_in fs = record { following = reverse fs.following.items; frames = list_in fs.list.items }

abbrev pub memory_in : Store → Memory
memory_in s =
    record {
      modules = map (λ v. v.items) s.modules.items;
      objects = map object_cells s.objects;
      made = map made_in s.objects;
    }

-- all cells that places name
abbrev pub rooted_in : KeptFrames → Store → Rooted (List Cell)
rooted_in fs s = rooted (list_in fs.list.items) (memory_in s)

-- as many statements have begun, and as many turns were made on lent frames
abbrev pub SameCounts : KeptFrames → KeptFrames → Type 0
SameCounts old new = (new.begun ≡ old.begun) × (new.turns ≡ old.turns)

-- Changes of the cells below a root.

-- there are the cells that are changed, among so many
abbrev pub fits : Change → ℕ → Bool
fits (Sets c v) n = nat_lt c n
fits (Moves count from to) n = nat_le count (n - from) && nat_le count (n - to)

abbrev pub fits_in : Change → Option (List Cell) → Bool
fits_in change None = false
fits_in change (Some cells) = fits change (length cells)

abbrev pub changed : Change → List Cell → List Cell
changed (Sets c v) cells = spliced c (v ∷ []) cells
changed (Moves count from to) cells = spliced to (take count (drop from cells)) cells

abbrev pub with_cells : (List Cell → List Cell) → Frame → Frame
with_cells g f = record f { cells = g f.cells }

-- a value is kept under a number
abbrev pub with_kept : ℕ → Cell → Frame → Frame
with_kept c v f = record f { keeps = kept c v f.keeps }

abbrev pub with_frames : Root → (List Cell → List Cell) → KeptFrames → Frames
with_frames r g fs = record { following = reverse fs.following.items; frames = frames_with r g (list_in fs.list.items) }

-- Frames that are made.

-- whether a frame more with so many scalars passes the most frames, or the most scalars in them
abbrev pub deep : ℕ → List Frame → Bool
deep counted fs = if nat_lt (length fs) MOST_FRAMES then nat_lt MOST_FRAME_SCALARS (counted + sum_by (λ f. f.counted) fs) else true

abbrev pub IsFrameRefusal : FrameErr → (too_deep : Bool) → Type 0
IsFrameRefusal Deep too_deep = too_deep ≡ true
IsFrameRefusal NoFrameMemory too_deep = too_deep ≡ false

-- a frame that is made: its first cells begin as their kinds say, and so many behind them as 0
abbrev pub new_frame : (procedure object : ℕ) → List Kind → (more counted : ℕ) → Frame
new_frame p o kinds more counted =
    record {
      procedure = p;
      object = o;
      next = 0;
      at = None;
      is_open = false;
      cells = map first_cell kinds ++ replicate more (Num (pos 0));
      counted = counted;
      keeps = λ c. Num (pos 0);
      stack = [];
    }

-- Many cells at a place.

-- there are so many cells from this one on
abbrev pub has_all : (count at : ℕ) → Option (List Cell) → Bool
has_all count at None = false
has_all count at (Some cells) = nat_le count (length cells - at)

abbrev pub read_all : (count at : ℕ) → Option (List Cell) → List Cell
read_all count at None = []
read_all count at (Some cells) = take count (drop at cells)
