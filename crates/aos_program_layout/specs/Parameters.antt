-- What is handed over to routines.
use Rattle.std.specs.Prelude.{ℕ, option_and_then, List, All}
use Rattle.aos_base.specs.Rooted.{by_number}
use Rattle.aos_types.specs.declared.row.TypeRow.{TypeRow}
use Rattle.aos_typed.specs.Program.{Parameter}
use Rattle.aos_typed.specs.Routines.{Routine, parameters_of}
use Rattle.aos_layout.specs.Frame.{IsThere}

-- what is handed over to the routine with this number, and the types of all that is handed over are there
abbrev pub handed_by : List Routine → ℕ → List Parameter
handed_by rs n = parameters_of (option_and_then (λ r. r.own) (by_number n rs))

abbrev pub AreHandedThere : List TypeRow → List Routine → Type 0
AreHandedThere rows rs = All (λ r. All (λ a. IsThere rows a.of) (parameters_of r.own)) rs
