-- All files together: their modules in load order, with names for all their object types.
use Rattle.std.specs.Prelude.{ℕ, List, map, Option, Some, None, slice_get}
use Rattle.std.specs.List.{zip}
use Rattle.aos_typed.specs.Program.{Program}
use Rattle.aos_typed.specs.Conditions.{numbered}
use Rattle.aos_symbols.specs.Outcome.{Outcome, went, then, in_turn}
use Rattle.aos_reading.specs.Files.{Reading, Source, trees_from, load_order, named}
use Rattle.aos_compile.specs.Modules.{World, no_modules, elaborated, program_of}

-- the file with a number, behind the modules before it
abbrev pub loaded : List Source → World → ℕ → Outcome World
loaded ss w k = load (slice_get ss k)
  where
    load : Option Source → Outcome World
    load None = went w
    load (Some s) = elaborated w k s.0 s.1

abbrev pub in_order : List Source → List ℕ → Outcome World
in_order ss order = in_turn (loaded (map named ss)) no_modules order

abbrev pub modules : List Source → Outcome World
modules ss = then (load_order ss) (in_order ss)

-- the program of all modules, whose AWAITs have their numbers
abbrev pub whole : World → Program
whole w = numbered (program_of w)

-- What texts come to, whose readings are these: their program, or the refusal by the first rule that they break.
abbrev pub elaborate : List (List ℕ) → List Reading → Outcome Program
elaborate texts rs = then (trees_from 0 rs) (λ ms. then (modules (zip texts ms)) (λ w. went (whole w)))
