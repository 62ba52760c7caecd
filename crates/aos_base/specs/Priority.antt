-- Priorities by their numbers (Muller 2002, the scheduler of the Active Object System; that there are three is this project's own).
use Rattle.std.specs.Prelude.{ℕ, ◌==◌, Option, Some, None, if◌then◌else◌}
use Rattle.aos_base.specs.declared.priority.Priority.{Priority}
use Rattle.aos_base.specs.declared.priority.Priority.TheVariants.{Low, Normal, High}

abbrev pub number_of : Priority → ℕ
number_of Low = 1
number_of Normal = 2
number_of High = 3

-- the priority with a number, where there is one
abbrev pub with_number : ℕ → Option Priority
with_number n = if n == 1 then Some Low else if n == 2 then Some Normal else if n == 3 then Some High else None
