-- Jumps forward to what isn't emitted yet: they have numbers that no instruction has, and are told where they go when that is known.
use Rattle.std.specs.Prelude.{ℕ, nat_eq, if◌then◌else◌, List, ◌++◌, map, take, drop}
use Rattle.aos_code.specs.declared.instr.Instr.{Instr}
use Rattle.aos_code.specs.declared.instr.Instr.TheVariants.{Jump}

-- what leads to a pending number leads to another
abbrev pub redirected : (pending to target : ℕ) → ℕ
redirected pending to target = if nat_eq target pending then to else target

abbrev pub redirect : (pending to : ℕ) → Instr → Instr
redirect pending to (Jump target) = Jump (redirected pending to target)
redirect pending to instr = instr

-- so do the jumps from this instruction on
abbrev pub redirect_behind : (from pending to : ℕ) → List Instr → List Instr
redirect_behind from pending to code = take from code ++ map (redirect pending to) (drop from code)
