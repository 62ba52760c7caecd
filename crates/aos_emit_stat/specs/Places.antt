-- Where the arms of a CASE begin. The jumps of its search have the numbers of arms, and are told where these are when that is known.
use Rattle.std.specs.Prelude.{ℕ, zero, suc, ◌+◌, Option, List, [], ◌∷◌, ◌++◌, length, map, take, drop}
use Rattle.aos_typed.specs.Program.{Cases, NoElse, Else, OfLabels, Procedure, Program}
use Rattle.aos_code.specs.declared.instr.Instr.{Instr}
use Rattle.aos_code.specs.declared.instr.Instr.TheVariants.{Jump}
use Rattle.aos_sim.specs.Code.{Ways, stats_code}

-- the places of the arms with labels, and then that of what is behind them
abbrev pub places_from : Program → Option Procedure → Cases → (at : ℕ) → Ways → (level : ℕ) → List ℕ
places_from program own NoElse at ways level = at ∷ []
places_from program own (Else ss) at ways level = at ∷ []
places_from program own (OfLabels rs ss cases) at ways level =
    at ∷ places_from program own cases (at + length (stats_code program own ss at ways level) + 1) ways level

-- the place with this number, or the last one, where there is any
abbrev pub place_in : (other : ℕ) → List ℕ → ℕ → ℕ
place_in other [] n = other
place_in other (p ∷ ps) zero = p
place_in other (p ∷ ps) (suc n) = place_in p ps n

-- what leads to an arm's number leads to its place
abbrev pub led : (ℕ → ℕ) → Instr → Instr
led place (Jump n) = Jump (place n)
led place instr = instr

-- so do the jumps from this instruction on
abbrev pub led_behind : (from : ℕ) → (ℕ → ℕ) → List Instr → List Instr
led_behind from place code = take from code ++ map (led place) (drop from code)
