-- What the code's list of routines is seen as.
use Rattle.std.specs.Prelude.{Option, Some, None, List, map}
use Rattle.aos_typed.specs.Program.{Procedure, Program}
use Rattle.aos_typed.specs.Routines.{Routine, routine_of}
use Rattle.aos_typed.specs.Seen.{seen_body, seen_procedure}
use Rattle.aos_typed.specs.WellTyped.{IsProcedure}
use Rattle.aos_dispatch.specs.declared.routines.Routine.{Routine as CodeRoutine}
use Rattle.aos_dispatch.specs.declared.routines.Routine.TheVariants.{Body, Procedure as Declared}

abbrev pub seen_routine : CodeRoutine → Routine
seen_routine (Body m exclusive ss) = record { home = m; own = None; body = seen_body exclusive ss.now }
seen_routine (Declared m q) = routine_of m (seen_procedure q.now)

abbrev pub seen_routines : List CodeRoutine → List Routine
seen_routines rs = map seen_routine rs

-- the procedure whose statements a routine has is typed, if there is one
abbrev pub IsTypedBy : Program → Option Procedure → Type 0
IsTypedBy p None = Unit {0}
IsTypedBy p (Some q) = IsProcedure p q

abbrev pub IsTyped : Program → Routine → Type 0
IsTyped p r = IsTypedBy p r.own
