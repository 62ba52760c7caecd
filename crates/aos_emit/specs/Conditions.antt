-- What the body of a condition is to have.
use Rattle.std.specs.Prelude.{ℕ, List}
use Rattle.aos_code.specs.declared.instr.Instr.{Instr}
use Rattle.aos_code.specs.declared.image.Body.{Body}
use Rattle.aos_typed.specs.Conditions.{Condition}
use Rattle.aos_typed.specs.Program.{Program}
use Rattle.aos_sim.specs.Code.{condition_code}
use Rattle.aos_sim.specs.Need.{value_need}

-- the code of a body, and how many operands it has at most
abbrev pub of_body : Body → List Instr × ℕ
of_body b = (b.code.items, b.depth)

abbrev pub of_condition : Program → Condition → List Instr × ℕ
of_condition p c = (condition_code p c.own c.expression, value_need c.expression)
