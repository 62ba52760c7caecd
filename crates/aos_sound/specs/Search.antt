-- What a search along the paths through code knows on its way: for each place the number of the stack with which paths come
-- there, if one was found, and the places from which it has still to go on.
use Rattle.std.specs.Prelude.{◌≡◌, ◌≢◌, ◌<◌, ◌≤◌, ◌⊎◌, ℕ, ◌+◌, List, [], length, get_or, Option, Some, None, Bool, true, false, Contains, sum_by, slice_get}
use Rattle.aos_code.specs.declared.instr.Instr.{Instr}
use Rattle.aos_code.specs.declared.image.Image.{Image}
use Rattle.aos_sound.specs.declared.effect.Next.{Next}
use Rattle.aos_sound.specs.Sound.{Kinds, next_of, Leads, after, Comes, ArePathsSound}
use Rattle.aos_sound.specs.Stacks.{stack_at}

-- the number of a stack, if any, for each place
abbrev pub Table : Type 0
Table = List (Option ℕ)

-- the number for this place
abbrev pub at_place : Table → (at : ℕ) → Option ℕ
at_place table at = get_or table at None

-- 1 where there is no number
abbrev pub one_if_none : Option ℕ → ℕ
one_if_none None = 1
one_if_none (Some id) = 0

-- to so many places no path was found
abbrev pub unknown : Table → ℕ
unknown table = sum_by one_if_none table

module _ (stacks : List Kinds) where
  -- the numbers are those of stacks
  abbrev pub AreNumbers : Table → Type 0
  AreNumbers table = (at id : ℕ) → at_place table at ≡ Some id → id < length stacks

  -- a path was found to this place, with these operands
  abbrev pub Known : Table → (at : ℕ) → Kinds → Type 0
  Known table at s = (id : ℕ) × (at_place table at ≡ Some id) × (id < length stacks) × (stack_at stacks id ≡ s)

  -- code can't go on at this place with these operands: it is past the end, or a path was found to it with others
  abbrev pub Misses : Table → (to : ℕ) → Kinds → Type 0
  Misses table to s = (length table ≤ to) ⊎ ((id : ℕ) × (at_place table to ≡ Some id) × (id < length stacks) × (stack_at stacks id ≢ s))

  -- whether the code goes on at this place
  abbrev pub KnownOrMisses : (to : ℕ) → Kinds → Bool → Table → Type 0
  KnownOrMisses to s true table = Known table to s
  KnownOrMisses to s false table = Misses table to s

  -- the code goes on everywhere that it may, or it can't go on somewhere
  abbrev pub GoesOn : Next → (at : ℕ) → Kinds → Bool → Table → Type 0
  GoesOn next at s true table = (to : ℕ) → Leads next at to → Known table to s
  GoesOn next at s false table = (to : ℕ) × Leads next at to × Misses table to s

  -- what was known before is known, and what is new is that paths come to some of these places with these operands
  pub record Arrives (Onto : ℕ → Type 0) (s : Kinds) (table : Table) (todo : List ℕ) (table' : Table) (todo' : List ℕ) : Type 0 where
    pub long : length table' ≡ length table
    pub keeps : (p id : ℕ) → at_place table p ≡ Some id → at_place table' p ≡ Some id
    pub new : (p id : ℕ) → at_place table' p ≡ Some id → (at_place table p ≡ Some id) ⊎ (Onto p × (id < length stacks) × (stack_at stacks id ≡ s) × Contains todo' p)
    pub todo_keeps : (p : ℕ) → Contains todo p → Contains todo' p
    pub todo_new : (p : ℕ) → Contains todo' p → Contains todo p ⊎ ((id : ℕ) × (at_place table' p ≡ Some id))
    pub fewer : unknown table' + length todo' ≡ unknown table + length todo

module _ (image : Image) (own : ℕ) (code : List Instr) (depth : ℕ) where
  -- the search has gone on from this place
  pub record Passed (stacks : List Kinds) (table : Table) (at : ℕ) (s : Kinds) : Type 0 where
    pub instr : Instr
    pub stands : slice_get code at ≡ Some instr
    pub left : Kinds
    pub finds : after image own instr s ≡ Some left
    pub few : length s ≤ depth
    pub on : (to : ℕ) → Leads (next_of instr) at to → Known stacks table to left

  -- what is known are paths, and from each place that is known the search has gone on or is to go on
  pub record Explored (stacks : List Kinds) (table : Table) (todo : List ℕ) : Type 0 where
    pub long : length table ≡ length code
    pub numbers : AreNumbers stacks table
    pub begins : Known stacks table 0 []
    pub comes : (at : ℕ) (s : Kinds) → Known stacks table at s → Comes image own code at s
    pub passed : (at : ℕ) (s : Kinds) → Known stacks table at s → Contains todo at ⊎ Passed stacks table at s
    pub known : (at : ℕ) → Contains todo at → (id : ℕ) × (at_place table at ≡ Some id)

  -- whether a step goes on, and where it does not the paths are not sound
  abbrev pub ExploredOrUnsound : Bool → List Kinds → Table → List ℕ → Type 0
  ExploredOrUnsound true stacks table todo = Explored stacks table todo
  ExploredOrUnsound false stacks table todo = ArePathsSound image own code depth → ⊥
