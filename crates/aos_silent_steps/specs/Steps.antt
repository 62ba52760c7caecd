-- Silent steps of a frame.
use Rattle.std.specs.Prelude.{◌≡◌, ℕ, ◌+◌, List, ◌∷◌, Option, drop}
use Rattle.aos_base.specs.Rooted.{Made}
use Rattle.aos_code.specs.declared.instr.Cell.{Cell}
use Rattle.aos_code.specs.declared.instr.Instr.{Instr}
use Rattle.aos_code.specs.declared.instr.Instr.TheVariants as instr
use Rattle.aos_code.specs.declared.image.ProcShape.{ProcShape}
use Rattle.aos_code.specs.declared.image.TypeDesc.{TypeDesc}
use Rattle.aos_code.specs.Silent.{Stack, Keeps, Begins, Fails, Decides, Stop, Work, Ended, Act, on_act}
use Rattle.aos_code.specs.Machine.{Frame}
use Rattle.aos_silent_steps.specs.declared.act.Act.{Act as KeptAct}
use Rattle.aos_silent_steps.specs.declared.act.Act.TheVariants.{Goes as GoesOn, Sees as Asks, Begins as BeginsAt, Fails as FailsWith, Decides as DecidesWith}
use Rattle.aos_silent_steps.specs.Acts.{question_in, operands_of}
use Rattle.aos_silent_steps.specs.Known.{Knows}

-- how silent work goes on after an act, where the operands are s and a question's lie there still
abbrev pub after : KeptAct → (ℕ → ℕ → Keeps → Stack → Stop) → ℕ → Keeps → Stack → Stop
after (GoesOn over) next at k s = next over (at + 1) k s
after (Asks q) next at k s = Work (question_in q s) at k (drop (operands_of q) s)
after (BeginsAt to p) next at k s = Ended (Begins to p s) k
after (FailsWith n c) next at k s = Ended (Fails n c) k
after (DecidesWith a) next at k s = Ended (Decides a) k

-- where silent work goes on, or comes to a Begin
abbrev pub WhereMoves : KeptAct → Type 0 → Type 0
WhereMoves (GoesOn over) P = P
WhereMoves (Asks q) P = Unit {0}
WhereMoves (BeginsAt at pos) P = P
WhereMoves (FailsWith n c) P = Unit {0}
WhereMoves (DecidesWith a) P = Unit {0}

-- beside these cells an act does this to what is kept and leaves these operands, where objects are known to be made as this
abbrev pub DoesSo : List ProcShape → List TypeDesc → (ℕ → Option Made) → List Cell → Act → KeptAct → (old new : Keeps) → Stack → Type 0
DoesSo shapes types made cells a did old new s = (next : ℕ → ℕ → Keeps → Stack → Stop) (at : ℕ) → on_act shapes types made cells a next at old ≡ after did next at new s

-- an act of a frame has been done, in which only operands and what is kept have changed, whatever objects were made as
pub record IsStep (a : Act) (did : KeptAct) (old new : Frame) : Type 0 where
  pub goes : (shapes : List ProcShape) (types : List TypeDesc) (made : ℕ → Option Made) → DoesSo shapes types made old.cells a did old.keeps new.keeps new.stack
  pub same : new ≡ record old { keeps = new.keeps; stack = new.stack }

-- An act of a frame has been done, where objects are known to be made as this. Where it goes on, it would have gone on so if more were
-- known.
pub record IsStepOf (shapes : List ProcShape) (types : List TypeDesc) (made : ℕ → Option Made) (a : Act) (did : KeptAct) (old new : Frame) : Type 0 where
  pub goes : DoesSo shapes types made old.cells a did old.keeps new.keeps new.stack
  pub more : (all : ℕ → Option Made) → Knows all made → WhereMoves did (DoesSo shapes types all old.cells a did old.keeps new.keeps new.stack)
  pub same : new ≡ record old { keeps = new.keeps; stack = new.stack }

-- the same of operands alone, whatever is kept
pub record IsTold (shapes : List ProcShape) (types : List TypeDesc) (made : ℕ → Option Made) (a : Act) (did : KeptAct) (s : Stack) : Type 0 where
  pub goes : (cells : List Cell) (k : Keeps) → DoesSo shapes types made cells a did k k s
  pub more : (all : ℕ → Option Made) → Knows all made → (cells : List Cell) (k : Keeps) → WhereMoves did (DoesSo shapes types all cells a did k k s)

-- a frame with an operand more
abbrev pub given_more : Cell → Frame → Frame
given_more v f = record f { stack = v ∷ f.stack }

-- what an instruction does: it gives an operand more or keeps one, works on the operands that there are, tests the type of a record,
-- asks an object, or calls a method by what it was made as, says where silent work goes on, or asks for memory, procedures and the kernel's work, or for texts and output
pub data Group : Type 0 where
  OnFrame : Group
  Operands : Group
  Tested : Group
  Told : Group
  Jumps : Group
  Asked : Group
  Written : Group

abbrev pub group_of : Instr → Group
group_of (instr.Num n) = OnFrame
group_of instr.Nil = OnFrame
group_of instr.NilCall = OnFrame
group_of (instr.Proc p) = OnFrame
group_of instr.SelfRef = OnFrame
group_of instr.Dup = OnFrame
group_of instr.Drop = Operands
group_of instr.Swap = Operands
group_of (instr.Frame c) = OnFrame
group_of (instr.Module m c) = OnFrame
group_of (instr.Param c) = OnFrame
group_of (instr.Length c) = OnFrame
group_of (instr.Deref c) = Told
group_of (instr.OpenRef j) = Told
group_of (instr.Offset c t) = Operands
group_of (instr.Index n k) = Operands
group_of (instr.IndexOpen j k) = Operands
group_of (instr.PickLen d j) = Operands
group_of (instr.Unary op) = Operands
group_of (instr.Binary op) = Operands
group_of instr.EqRef = Operands
group_of instr.EqCall = Operands
group_of (instr.Bind k) = Told
group_of (instr.Is t) = Told
group_of (instr.IsPlace t) = Tested
group_of (instr.Guard t) = Told
group_of (instr.GuardPlace t) = Tested
group_of (instr.Keep c k) = OnFrame
group_of (instr.Kept c k) = OnFrame
group_of (instr.Fail n) = Jumps
group_of (instr.Assert c) = Jumps
group_of (instr.Halt c) = Jumps
group_of (instr.Jump to) = Jumps
group_of (instr.JumpFalse to) = Jumps
group_of (instr.Begin line col) = Jumps
group_of (instr.Load kind) = Asked
group_of (instr.Store kind) = Asked
group_of (instr.Copy n) = Asked
group_of (instr.PutText strict) = Written
group_of (instr.CmpText r) = Written
group_of (instr.Call p) = Asked
group_of (instr.Virtual k p) = Told
group_of (instr.CallValue p) = Asked
group_of (instr.NewObject t) = Asked
group_of (instr.NewArray t j) = Asked
group_of instr.Start = Asked
group_of instr.Enter = Asked
group_of instr.Leave = Asked
group_of (instr.Await c) = Asked
group_of instr.Verdict = Asked
group_of instr.Return = Asked
group_of instr.OutChar = Written
group_of instr.OutInt = Written
group_of instr.OutString = Written
group_of instr.OutLn = Written
group_of instr.OutOpen = Written
