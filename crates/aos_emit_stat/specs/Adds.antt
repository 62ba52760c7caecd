-- What emitters of statements promise. Where an EXIT leads isn't known yet where statements are emitted, nor is where an arm goes on.
use Rattle.std.specs.Prelude.{◌≡◌, ℕ, ◌+◌, Option, List, [], ◌∷◌, ◌++◌, length}
use Rattle.aos_base.specs.declared.text.Pos.{Pos}
use Rattle.aos_code.specs.declared.instr.Instr.{Instr}
use Rattle.aos_typed.specs.Program.{Stat, Stats, Arms, Cases, Procedure, Program}
use Rattle.aos_sim.specs.Search.{arms_in, search_of, search_size, search_code}
use Rattle.aos_sim.specs.Code.{begin, operands_code, stat_code, stats_code, arms_code, cases_code, arm_place}
use Rattle.aos_dispatch.specs.declared.prefixes.Prefix.{Prefix}
use Rattle.aos_emit_expr.specs.Adds.{front_code}
use Rattle.aos_emit_expr.specs.Pending.{pending_end}
use Rattle.aos_emit_expr.specs.Scope.{Inside, program_of, own_of}
use Rattle.aos_emit_stat.specs.Ways.{left_to, pending}

-- statements of one part and of two, and the instruction that takes what they give
abbrev pub one_code : Pos → Instr → Program → Option Procedure → Prefix → ℕ → List Instr
one_code here last p own f at = begin here ∷ (front_code p own f (at + 1) ++ last ∷ [])

abbrev pub two_code : Pos → Instr → Program → Option Procedure → Prefix × Prefix → ℕ → List Instr
two_code here last p own fs at =
    let first = front_code p own fs.0 (at + 1) in
    begin here ∷ operands_code first (front_code p own fs.1 (at + 1 + length first)) last

-- to the old code this is added, around which so many FORs and CASEs keep something
module _ (s : Inside) (old new : List Instr) (level : ℕ) where
  abbrev pub AddsStat : Stat → Type 0
  AddsStat x = new ≡ old ++ stat_code (program_of s) (own_of s) x (length old) (pending s) level

  abbrev pub AddsStats : Stats → Type 0
  AddsStats ss = new ≡ old ++ stats_code (program_of s) (own_of s) ss (length old) (pending s) level

  -- statements behind which so many instructions come, to whose end EXIT leads
  abbrev pub AddsLeft : (behind : ℕ) → Stats → Type 0
  AddsLeft behind ss =
      let size = length (stats_code (program_of s) (own_of s) ss (length old) (left_to s 0) level) in
      new ≡ old ++ stats_code (program_of s) (own_of s) ss (length old) (left_to s (length old + size + behind)) level

  -- arms whose end isn't known yet
  abbrev pub AddsArms : Arms → Type 0
  AddsArms arms = new ≡ old ++ arms_code (program_of s) (own_of s) arms (length old) pending_end (pending s) level

  abbrev pub AddsCases : Cases → Type 0
  AddsCases cases = new ≡ old ++ cases_code (program_of s) (own_of s) cases (length old) pending_end (pending s) level

  -- the search of a CASE and its arms
  abbrev pub AddsFound : Cases → Type 0
  AddsFound cases =
      let first = length old + search_size (search_of cases) in
      let end = first + length (cases_code (program_of s) (own_of s) cases first 0 (pending s) level) in
      new
      ≡ old
      ++ (search_code (arm_place (program_of s) (own_of s) cases first (pending s) level) (arms_in cases) (search_of cases) level (length old)
      ++ cases_code (program_of s) (own_of s) cases first end (pending s) level)
