-- Conditions: how many operands one has at most, and what evaluating one leaves as it is.
use Rattle.std.specs.Prelude.{◌≡◌, ◌<◌, ◌≤◌, ◌+◌, ℕ, suc, List, length, drop, vec_capacity}
use Rattle.std.specs.List.{sum_by}
use Rattle.aos_code.specs.declared.instr.Instr.{Instr}
use Rattle.aos_code.specs.declared.instr.Instr.TheVariants as instr
use Rattle.aos_code.specs.Machine.{Frame}
use Rattle.aos_store.specs.declared.frames.Frame.{Frame as KeptFrame}
use Rattle.aos_silent_steps.specs.declared.silent.Stop.{Stop as KeptStop}
use Rattle.aos_silent_steps.specs.declared.silent.Stop.TheVariants.{Work as AtWork, Begins as AtBegin, Fails as AtFault, Decides as AtVerdict}

-- how many operands more an instruction leaves than it finds, at most
abbrev pub grows : Instr → ℕ
grows (instr.OpenRef j) = suc j
grows i = 1

-- and so code, each instruction of which is done once at most
abbrev pub need : List Instr → ℕ
need code = sum_by grows code

-- there is room for all operands that the rest of the code may give
abbrev pub HasRoomFor : List Instr → KeptFrame → Type 0
HasRoomFor code f = length f.operands.items + need (drop f.next code) ≤ vec_capacity f.operands

-- and so there is at a question, whose place is within the code
abbrev pub AsksInRoom : KeptStop → List Instr → KeptFrame → Type 0
AsksInRoom (AtWork q at) code f = (at < length code) × HasRoomFor code f
AsksInRoom (AtBegin at pos) code f = Unit {0}
AsksInRoom (AtFault n c) code f = Unit {0}
AsksInRoom (AtVerdict a) code f = Unit {0}

-- only the place and the operands have changed
abbrev pub HasMoved : Frame → Frame → Type 0
HasMoved old new = new ≡ record old { next = new.next; stack = new.stack }
