-- What the parameters of a call get, one after the other.
use Rattle.std.specs.Prelude.{◌≡◌, ℕ, suc, ◌+◌, ◌^◌, pos, List, [], ◌∷◌, ◌++◌, length, map, take, drop, reverse, Bool, true, false, nat_lt, if◌then◌else◌, Option, Some, None, option_map, option_and_then}
use Rattle.aos_base.specs.declared.root.Root.TheVariants.{Frame as FrameRoot}
use Rattle.aos_base.specs.declared.kernel.Did.{Did}
use Rattle.aos_base.specs.Rooted.{Rooted}
use Rattle.aos_code.specs.declared.instr.Cell.{Cell}
use Rattle.aos_code.specs.declared.instr.Cell.TheVariants.{Num, Place}
use Rattle.aos_code.specs.declared.instr.Kind.{Kind}
use Rattle.aos_code.specs.declared.image.ParamKind.{ParamKind}
use Rattle.aos_code.specs.declared.image.ParamKind.TheVariants as param
use Rattle.aos_code.specs.declared.image.ProcShape.{ProcShape}
use Rattle.aos_code.specs.Memory.{Memory}
use Rattle.aos_code.specs.Silent.{cells_of}
use Rattle.aos_code.specs.Machine.{asker, Frame, behind, calls, first_cell, whole_at, lengths_in}
use Rattle.aos_store.specs.declared.frames.Frames.{Frames as KeptFrames}
use Rattle.aos_store.specs.Store.{list_in, frames_in}
use Rattle.aos_silent_steps.specs.declared.act.Way.{Way}
use Rattle.aos_silent_steps.specs.declared.act.Way.TheVariants.{Direct, Bound, Free}
use Rattle.aos_silent_steps.specs.Acts.{passed}
use Rattle.aos_cpu.specs.Answers.{Made}
use Rattle.aos_cpu.specs.declared.calls.Gift.{Gift as KeptGift}

-- what one parameter gets: its cells, behind the place of what is copied for it where it has that; what is copied; and how many
-- arguments that took
pub record Gift : Type 0 where
  pub own : Bool
  pub cells : List Cell
  pub copied : List Cell
  pub taken : ℕ

abbrev pub gift_in : KeptGift → Gift
gift_in g = record { own = g.own; cells = g.cells.now; copied = g.copied.now; taken = g.taken }

abbrev pub plain : List Cell → ℕ → Gift
plain vs n = record { own = false; cells = vs; copied = []; taken = n }

abbrev pub copied : List Cell → ℕ → List Cell → Gift
copied lengths n cells = record { own = true; cells = lengths; copied = cells; taken = n }

module _ (x : Rooted (List Cell)) where
  abbrev pub open_gift : ℕ → Bool → ℕ → Cell → List Cell → List ℕ → Option Gift
  open_gift d false k v lengths ns = Some (plain (v ∷ lengths) (suc d))
  open_gift d true k v lengths ns = option_map (copied lengths (suc d)) (whole_at [] (cells_of ns k) v x)

  abbrev pub gift_of : ParamKind → List Cell → Option Gift
  gift_of p [] = None
  gift_of (param.Scalar kind) (v ∷ vs) = Some (plain (v ∷ []) 1)
  gift_of (param.Whole n) (v ∷ vs) = option_map (λ cells. plain cells 1) (whole_at [] n v x)
  gift_of param.Place (v ∷ vs) = Some (plain (v ∷ []) 1)
  gift_of (param.Open d copied n) (v ∷ vs) = option_and_then (open_gift d copied n v (take d vs)) (lengths_in [] (take d vs))

  abbrev pub gifts : List ParamKind → List Cell → Option (List Gift)
  gifts [] vs = Some []
  gifts (p ∷ ps) vs = option_and_then (λ g. option_map (λ gs. g ∷ gs) (gifts ps (drop g.taken vs))) (gift_of p vs)

-- all that is copied
abbrev pub all_copied : List Gift → List Cell
all_copied [] = []
all_copied (g ∷ gs) = g.copied ++ all_copied gs

-- the cells of one, in a frame above so many, where what is copied begins at a cell
abbrev pub gift_cells : ℕ → ℕ → Gift → List Cell
gift_cells here at g = if g.own then Place (FrameRoot here) at 0 ∷ g.cells else g.cells

abbrev pub all_cells : ℕ → ℕ → List Gift → List Cell
all_cells here at [] = []
all_cells here at (g ∷ gs) = gift_cells here at g ++ all_cells here (at + length g.copied) gs

-- the cells of the whole frame
abbrev pub called_cells : ℕ → List Kind → List Gift → List Cell
called_cells here kinds gs =
    let own = all_cells here (length kinds) gs in own ++ (map first_cell (drop (length own) kinds) ++ all_copied gs)

-- how many cells the whole of an array of these lengths has, where that has 64 bits
abbrev pub sized : ℕ → Option (List ℕ) → Option (Option ℕ)
sized k None = None
sized k (Some ns) = Some (if nat_lt (cells_of ns k) (2 ^ 64) then Some (cells_of ns k) else None)

-- the frame of a procedure that is called on this object, 0 for none, and begins with these cells
abbrev pub called : (procedure object counted : ℕ) → List Cell → Frame
called p o counted cells =
    record { procedure = p; object = o; next = 0; at = None; is_open = false; cells = cells; counted = counted; keeps = λ c. Num (pos 0); stack = [] }

-- a frame has been put above the topmost one, which goes on behind the instruction at this place without so many operands
abbrev pub IsEntered : (at taken : ℕ) → Frame → (old new : KeptFrames) → Type 0
IsEntered at taken g old new =
    (f : Frame) (fs : List Frame) → list_in old.list.items ≡ f ∷ fs →
    frames_in new ≡ record { following = reverse old.following.items; frames = g ∷ behind [] at f.keeps (drop taken f.stack) f ∷ fs }

-- through a value with an object only a method is called
abbrev pub may_pass : Way → (method : Bool) → Bool
may_pass Direct method = true
may_pass Bound method = method
may_pass Free method = true

-- a procedure of this shape has been called with so many operands, which are handed over in this way
abbrev pub IsCalled : Option ProcShape → (procedure : ℕ) → Way → (count at : ℕ) → (old new : KeptFrames) → Memory → Did → List ℕ → Type 0
IsCalled shape p way count at old new mem did out =
    (f : Frame) (fs : List Frame) → list_in old.list.items ≡ f ∷ fs →
    Made (calls (reverse old.following.items) shape p (passed way (reverse (take count f.stack))) (asker at f.keeps (drop count f.stack) f fs mem)) false did (frames_in new) mem out out
