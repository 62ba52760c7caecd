-- What makes an object, behind the code of the place that it is stored at and of what its initializer is handed.
use Rattle.std.specs.Prelude.{ℕ, ◌+◌, List, ◌∷◌, ◌++◌, Option}
use Rattle.aos_code.specs.declared.instr.Instr.{Instr}
use Rattle.aos_code.specs.declared.instr.Instr.TheVariants.{NewObject}
use Rattle.aos_typed.specs.Methods.{body_type, initializer}
use Rattle.aos_typed.specs.Program.{Procedure, Program}
use Rattle.aos_sim.specs.Code.{stash, initial_kinds, initialize_code, store_code}

abbrev pub made_code : Program → Option Procedure → (type level : ℕ) → List Instr
made_code p own t level =
    let slot = initializer p t in
    let kinds = initial_kinds p own slot t in
    stash kinds level
    ++ (NewObject (t + 1) ∷ (initialize_code p own slot t kinds level ++ store_code p own (body_type p t) level))
