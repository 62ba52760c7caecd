-- A small machine, at which the laws are seen to hold: each activity makes a list of commands.
use Rattle.std.specs.Prelude.{◌≡◌, ◌<◌, ◌-◌, ℕ, suc, Option, Some, None, List, [], ◌∷◌, nat_le, length, slice_get, if◌then◌else◌, true}
use Rattle.aos_base.specs.declared.kernel.LockName.{LockName}
use Rattle.aos_base.specs.declared.kernel.LockName.TheVariants.{Object}
use Rattle.aos_base.specs.declared.kernel.Verdict.{Verdict}
use Rattle.aos_base.specs.declared.kernel.Verdict.TheVariants.{Holds, Fails}
use Rattle.aos_base.specs.declared.kernel.Did.{Did}
use Rattle.aos_base.specs.declared.kernel.Did.TheVariants.{Went, Ended, Enter, Leave, Await, Start, Trapped}
use Rattle.aos_base.specs.Lock.{is_lock, Entry, Condition, Waiting}
use Rattle.aos_base.specs.Book.{Where, put}
use Rattle.aos_base.specs.Machine.{Choice, Step, Tick, Turn, Machine, State, start_of, execution}
use Rattle.aos_concurrency.specs.Regions.{times}

pub data Command : Type 0 where
  Skip : Command
  Say : (byte : ℕ) → Command
  Raise : (lock : LockName) → Command  -- adds one to the number that the lock guards
  Take : (lock : LockName) → Command
  Give : (lock : LockName) → Command
  Until : (lock : LockName) → (least : ℕ) → Command  -- waits until the number that the lock guards is at least this
  Fork : Command  -- starts an activity that makes the store's commands
  Fail : (number : ℕ) → Command

-- a number for each lock to guard, and what a new activity makes
pub record Shared : Type 0 where
  pub number : LockName → ℕ
  pub commands : List Command

-- what activity 0 makes, and what each new one does
pub record Program : Type 0 where
  pub commands : List Command
  pub forked : List Command

-- what is left to make, the open regions, and the whole, with which it begins anew
pub record Frames : Type 0 where
  pub rest : List Command
  pub regions : List LockName
  pub whole : List Command

abbrev pub nothing_raised : List Command → Shared
nothing_raised commands = record { number = λ _. 0; commands = commands }

abbrev pub whole_of : List Command → Frames
whole_of commands = record { rest = commands; regions = []; whole = commands }

abbrev pub raised : LockName → Shared → Shared
raised l s = record s { number = put is_lock s.number l (suc (s.number l)) }

module _ {F : Type 0} where
  -- goes on with these frames
  abbrev pub goes : Shared → F → List ℕ → Turn Shared F
  goes s f bytes = record { store = s; frames = f; output = bytes; begun = true; left = Went }

  -- leaves this work to the kernel
  abbrev pub leaves : Shared → F → Did → Turn Shared F
  leaves s f w = record { store = s; frames = f; output = []; begun = true; left = w }

abbrev pub toy_turn : Shared → Frames → List Command → Turn Shared Frames
toy_turn s f [] = leaves s f Ended
toy_turn s f (Skip ∷ rest) = goes s (record f { rest = rest }) []
toy_turn s f (Say b ∷ rest) = goes s (record f { rest = rest }) (b ∷ [])
toy_turn s f (Raise l ∷ rest) = goes (raised l s) (record f { rest = rest }) []
toy_turn s f (Take l ∷ rest) = leaves s f (Enter l)
toy_turn s f (Give l ∷ rest) = leaves s f (Leave l)
toy_turn s f (Until l n ∷ rest) = leaves s f (Await l n)
toy_turn s f (Fork ∷ rest) = leaves s f (Start 0)
toy_turn s f (Fail n ∷ rest) = leaves s f (Trapped n 0)

abbrev pub tail : List LockName → List LockName
tail [] = []
tail (l ∷ ls) = ls

-- the open regions behind a command
abbrev pub regions_past : Option Command → List LockName → List LockName
regions_past None ls = ls
regions_past (Some Skip) ls = ls
regions_past (Some (Say b)) ls = ls
regions_past (Some (Raise l)) ls = ls
regions_past (Some (Take l)) ls = l ∷ ls
regions_past (Some (Give l)) ls = tail ls
regions_past (Some (Until l n)) ls = ls
regions_past (Some Fork) ls = ls
regions_past (Some (Fail n)) ls = ls

abbrev pub toy_past : List Command → Frames → Frames
toy_past [] f = f
toy_past (c ∷ rest) f = record f { rest = rest; regions = regions_past (Some c) f.regions }

-- a condition is a number that the lock's has to come to
abbrev pub judges : Shared → Option Command → ℕ → Verdict
judges s None n = Fails
judges s (Some Skip) n = Fails
judges s (Some (Say b)) n = Fails
judges s (Some (Raise l)) n = Fails
judges s (Some (Take l)) n = Fails
judges s (Some (Give l)) n = Fails
judges s (Some (Until l k)) n = if nat_le n (s.number l) then Holds else Fails
judges s (Some Fork) n = Fails
judges s (Some (Fail k)) n = Fails

abbrev pub first : List Command → Option Command
first [] = None
first (c ∷ rest) = Some c

abbrev pub at_left : ℕ → Where
at_left n = record { module_ = 0; pos = record { line = n; col = 0 } }

abbrev pub toy : Machine Shared Frames
toy = record {
  turn = λ s f. toy_turn s f f.rest;
  past = λ f. toy_past f.rest f;
  verdict = λ s f n. judges s (first f.rest) n;
  regions = λ f. f.regions;
  position = λ f. at_left (length f.rest);
  body = λ s o. whole_of s.commands;
  priority = λ s o. 1;
  anew = λ f. Some (whole_of f.whole);
}

abbrev pub toy_start : Program → ℕ → State Shared Frames
toy_start p budget = start_of (nothing_raised p.forked) (whole_of p.commands) budget

-- the state after a schedule
abbrev pub toy_run : Program → ℕ → List Choice → State Shared Frames
toy_run p budget cs = execution toy cs (toy_start p budget)

-- The same, compiled: code, and a place in it

pub record Coded : Type 0 where
  pub code : List Command
  pub pc : ℕ
  pub regions : List LockName

abbrev pub code_of : List Command → Coded
code_of commands = record { code = commands; pc = 0; regions = [] }

abbrev pub coded_turn : Shared → Coded → Option Command → Turn Shared Coded
coded_turn s g None = leaves s g Ended
coded_turn s g (Some Skip) = goes s (record g { pc = suc g.pc }) []
coded_turn s g (Some (Say b)) = goes s (record g { pc = suc g.pc }) (b ∷ [])
coded_turn s g (Some (Raise l)) = goes (raised l s) (record g { pc = suc g.pc }) []
coded_turn s g (Some (Take l)) = leaves s g (Enter l)
coded_turn s g (Some (Give l)) = leaves s g (Leave l)
coded_turn s g (Some (Until l n)) = leaves s g (Await l n)
coded_turn s g (Some Fork) = leaves s g (Start 0)
coded_turn s g (Some (Fail n)) = leaves s g (Trapped n 0)

abbrev pub coded : Machine Shared Coded
coded = record {
  turn = λ s g. coded_turn s g (slice_get g.code g.pc);
  past = λ g. record g { pc = suc g.pc; regions = regions_past (slice_get g.code g.pc) g.regions };
  verdict = λ s g n. judges s (slice_get g.code g.pc) n;
  regions = λ g. g.regions;
  position = λ g. at_left (length g.code - g.pc);
  body = λ s o. code_of s.commands;
  priority = λ s o. 1;
  anew = λ g. Some (code_of g.code);
}

abbrev pub coded_start : Program → ℕ → State Shared Coded
coded_start p budget = start_of (nothing_raised p.forked) (code_of p.commands) budget

abbrev pub coded_run : Program → ℕ → List Choice → State Shared Coded
coded_run p budget cs = execution coded cs (coded_start p budget)

-- well nested: each lock that is given was taken last, and a number is raised and awaited in a region of its lock;
-- to take a lock in a region of its own is trap 9, so nothing is asked of what follows
abbrev pub Nested : List Command → List LockName → Type 0
Nested [] ls = ls ≡ []
Nested (Skip ∷ rest) ls = Nested rest ls
Nested (Say b ∷ rest) ls = Nested rest ls
Nested (Raise l ∷ rest) ls = (0 < times l ls) × Nested rest ls
Nested (Take l ∷ rest) ls = times l ls ≡ 0 → Nested rest (l ∷ ls)
Nested (Give l ∷ rest) ls = (ls ≡ l ∷ tail ls) × Nested rest (tail ls)
Nested (Until l n ∷ rest) ls = (0 < times l ls) × Nested rest ls
Nested (Fork ∷ rest) ls = Nested rest ls
Nested (Fail n ∷ rest) ls = Nested rest ls

abbrev pub IsNested : Program → Type 0
IsNested p = Nested p.commands [] × Nested p.forked []

-- no command takes a lock or waits
abbrev pub TakesNone : List Command → Type 0
TakesNone [] = Unit {0}
TakesNone (Skip ∷ rest) = TakesNone rest
TakesNone (Say b ∷ rest) = TakesNone rest
TakesNone (Raise l ∷ rest) = TakesNone rest
TakesNone (Take l ∷ rest) = ⊥
TakesNone (Give l ∷ rest) = TakesNone rest
TakesNone (Until l n ∷ rest) = ⊥
TakesNone (Fork ∷ rest) = TakesNone rest
TakesNone (Fail n ∷ rest) = TakesNone rest

-- each condition of the toy reads the number of its own lock alone
abbrev pub IsAnyLocal : LockName → ℕ → Type 0
IsAnyLocal l n = Unit {0}

-- An execution in which the lock of object 1 passes to activity 0, which waits until its number is 1

abbrev pub waits_for_one : Program
waits_for_one = record {
  commands = Fork ∷ Take (Object 1) ∷ Until (Object 1) 1 ∷ Say 7 ∷ Give (Object 1) ∷ [];
  forked = Take (Object 1) ∷ Raise (Object 1) ∷ Give (Object 1) ∷ [];
}

-- up to where activity 1 has raised the number, and is about to give up the lock
abbrev pub up_to_the_release : List Choice
up_to_the_release = Step 0 ∷ Step 0 ∷ Step 0 ∷ Step 0 ∷ Step 0 ∷ Step 0 ∷ Step 0 ∷ []

-- An execution in which worker 0 has activity 0, which is to skip twice, while worker 1 makes steps

abbrev pub skips_twice : Program
skips_twice = record { commands = Fork ∷ Skip ∷ Skip ∷ []; forked = Say 7 ∷ [] }

-- activity 0 has started activity 1
abbrev pub lent_at : State Shared Frames
lent_at = toy_run skips_twice 100 (Step 0 ∷ Step 0 ∷ [])

-- activity 1 has written its byte
abbrev pub settled_at : State Shared Frames
settled_at = execution toy (Step 1 ∷ Step 1 ∷ []) lent_at

abbrev pub skipping : List Command → Frames
skipping rest = record { rest = rest; regions = []; whole = Fork ∷ Skip ∷ Skip ∷ [] }

-- An execution in which a tick has taken its activity from worker 0

abbrev pub idle_at : State Shared Frames
idle_at = toy_run skips_twice 100 (Step 0 ∷ Step 0 ∷ Tick 0 ∷ [])

-- Two lists that are alike: 4 and 6 wait to enter, 5 waits for condition 9

abbrev pub entrant : ℕ → Waiting
entrant a = record { activity = a; wants = Entry }

abbrev pub waiter : ℕ → Waiting
waiter a = record { activity = a; wants = Condition 9 }

abbrev pub one_list : List Waiting
one_list = entrant 4 ∷ waiter 5 ∷ entrant 6 ∷ []

abbrev pub another_list : List Waiting
another_list = waiter 5 ∷ entrant 4 ∷ entrant 6 ∷ []
