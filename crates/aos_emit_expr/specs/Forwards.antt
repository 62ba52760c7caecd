-- Code that was made from its last instruction to its first, turned round.
use Rattle.std.specs.Prelude.{ℕ, List, map, reverse}
use Rattle.aos_code.specs.declared.instr.Instr.{Instr}
use Rattle.aos_emit_expr.specs.Back.{placed}

-- instructions that stand from the last to the first, as they are placed where the code ends at this place
abbrev pub forwards : ℕ → List Instr → List Instr
forwards end back = map (placed end) (reverse back)
