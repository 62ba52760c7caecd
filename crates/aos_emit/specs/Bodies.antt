-- What the body of a routine is to have.
use Rattle.std.specs.Prelude.{List, length}
use Rattle.aos_code.specs.declared.instr.Instr.{Instr}
use Rattle.aos_typed.specs.Program.{Body}
use Rattle.aos_emit_expr.specs.Scope.{Inside, program_of, own_of}
use Rattle.aos_sim.specs.Code.{statements_code}

-- its statements, behind which an EXIT leads that stands in no LOOP
abbrev pub all_statements : Inside → Body → List Instr
all_statements s b =
    statements_code (program_of s) (own_of s) b (length (statements_code (program_of s) (own_of s) b 0))
