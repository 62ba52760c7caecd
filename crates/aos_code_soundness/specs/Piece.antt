-- The operands at each place of code, and a piece of code that stands somewhere in the whole and takes the operands from some
-- kinds to others.
use Rattle.std.specs.Prelude.{◌≡◌, ◌<◌, ◌≤◌, ℕ, ◌+◌, List, [], ◌∷◌, ◌++◌, length, drop, Option, Some, IsTrue}
use Rattle.aos_code.specs.declared.instr.Instr.{Instr}
use Rattle.aos_code.specs.declared.image.Image.{Image}
use Rattle.aos_sound.specs.declared.stand.Role.{Role}
use Rattle.aos_sound.specs.Sound.{Kinds, Leads, next_of, after, may_stand}

-- the kinds of the operands at each place, none where no path comes
abbrev pub Typing : Type 0
Typing = ℕ → Option Kinds

-- a piece of code stands at this place of the whole
abbrev pub Stands : List Instr → ℕ → List Instr → Type 0
Stands whole at code = (rest : List Instr) × (drop at whole ≡ code ++ rest)

-- from this place on the typing has these operands, one after the other
abbrev pub Lies : Typing → ℕ → List Kinds → Type 0
Lies kinds at [] = Unit {0}
Lies kinds at (s ∷ ss) = (kinds at ≡ Some s) × Lies kinds (at + 1) ss

-- the typing has operands at places of the code alone
abbrev pub Within : List Instr → Typing → Type 0
Within whole kinds = (at : ℕ) (s : Kinds) → kinds at ≡ Some s → at < length whole

-- what a piece asks of the whole and its typing: what is there where the piece's jumps leave it
abbrev pub Round : Type 1
Round = List Instr → Typing → Type 0

-- nothing is asked
abbrev pub Anything : Round
Anything = λ whole kinds. Unit {0}

-- the place has these operands
abbrev pub At : ℕ → Kinds → Round
At to s = λ whole kinds. kinds to ≡ Some s

-- in an image, as the procedure of this number, in this role and with room for so many operands
module _ (image : Image) (own : ℕ) (role : Role) (depth : ℕ) where
  -- an instruction stands where it may, and finds what it takes; wherever the code goes on behind it the typing has what is left
  pub record IsOk (whole : List Instr) (kinds : Typing) (i : Instr) (at : ℕ) : Type 0 where
    pub before : Kinds
    pub left : Kinds
    pub is : kinds at ≡ Some before
    pub finds : after image own i before ≡ Some left
    pub few : length before ≤ depth
    pub on : (to : ℕ) → Leads (next_of i) at to → kinds to ≡ Some left
    pub stand : IsTrue (may_stand image own role whole at i)

  -- so does each instruction of code at this place
  abbrev pub AreOk : List Instr → Typing → List Instr → ℕ → Type 0
  AreOk whole kinds [] at = Unit {0}
  AreOk whole kinds (i ∷ is) at = IsOk whole kinds i at × AreOk whole kinds is (at + 1)

  -- Code at this place takes operands of kinds s to t. There are operands for each of its places, the first of which is s, and
  -- with them all its instructions are as they should be, wherever the place behind it has t and what the piece asks is so.
  pub record Piece (Asks : Round) (code : List Instr) (at : ℕ) (s t : Kinds) : Type 0 where
    pub types : List Kinds
    pub long : length types ≡ length code
    pub enters : (kinds : Typing) → Lies kinds at types → kinds (at + length code) ≡ Some t → kinds at ≡ Some s
    pub flows : (whole : List Instr) (kinds : Typing) → Within whole kinds → Stands whole at code → Lies kinds at types → kinds (at + length code) ≡ Some t → Asks whole kinds → AreOk whole kinds code at
