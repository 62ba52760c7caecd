-- What a routine's code is emitted in: its program, its procedure, if the routine is one, and what its statements stand in.
use Rattle.std.specs.Prelude.{◌≡◌, ℕ, List, [], Option, Some, None, option_map}
use Rattle.aos_types.specs.declared.row.TypeRow.{TypeRow}
use Rattle.aos_types.specs.Shape.{size}
use Rattle.aos_typed.specs.declared.tree.Program.{Program as TProgram}
use Rattle.aos_typed.specs.declared.tree.TProcedure.{TProcedure}
use Rattle.aos_typed.specs.Program.{Procedure, Program}
use Rattle.aos_typed.specs.Seen.{seen_procedure, seen_program}
use Rattle.aos_layout.specs.Frame.{frame, frame_parts, places_from}
use Rattle.aos_emit_expr.specs.declared.regions.Within.{Within as Around}
use Rattle.aos_emit_expr.specs.declared.regions.Within.TheVariants as around

pub record Inside : Type 0 where
  pub program : TProgram
  pub own : Option TProcedure
  pub within : Around

abbrev pub program_of : Inside → Program
program_of s = seen_program s.program

abbrev pub own_of : Inside → Option Procedure
own_of s = option_map seen_procedure s.own

-- in a region that begins here, and in a LOOP that does
abbrev pub in_region : Inside → Inside
in_region s = record { program = s.program; own = s.own; within = around.InLoop }

abbrev pub around_loop : Around → Around
around_loop around.NoRegion = around.NoRegion
around_loop around.AroundLoop = around.AroundLoop
around_loop around.InLoop = around.AroundLoop

abbrev pub in_loop : Inside → Inside
in_loop s = record { program = s.program; own = s.own; within = around_loop s.within }

-- the first cell of each parameter and then of each local of the procedure, and how many cells these have
abbrev pub first_own : List TypeRow → Option Procedure → List ℕ
first_own rows None = []
first_own rows (Some q) = places_from 0 (frame_parts rows q)

abbrev pub all_own : List TypeRow → Option Procedure → ℕ
all_own rows None = 0
all_own rows (Some q) = size (frame rows q)

pub record AreOwn (rows : List TypeRow) (own : Option Procedure) (places : List ℕ) (cells : ℕ) : Type 0 where
  pub first : places ≡ first_own rows own
  pub all : cells ≡ all_own rows own
