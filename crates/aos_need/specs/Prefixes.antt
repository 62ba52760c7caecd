-- How many operands what a designator, an array or an expression begins with needs, and a call, and FOR without its statements.
use Rattle.std.specs.Prelude.{ℕ, ◌+◌, max, Option, Some, None}
use Rattle.aos_typed.specs.Program.{Callee, Arguments}
use Rattle.aos_typed.specs.Seen.{seen_place, seen_rows, seen_expr}
use Rattle.aos_dispatch.specs.declared.prefixes.Prefix.{Prefix}
use Rattle.aos_dispatch.specs.declared.prefixes.Prefix.TheVariants.{Value, Place as Located, Rows as Spanned}
use Rattle.aos_sim.specs.Need.{place_need, rows_need, arguments_need, receiver_need, receivers, value_need, assign_need}

-- what something is called on lies below what is handed over
abbrev pub call_need : Callee → Arguments → ℕ
call_need c more = max (receiver_need c) (receivers c + arguments_need more)

abbrev pub front_need : Prefix → ℕ
front_need (Value e) = value_need (seen_expr e.now)
front_need (Located p) = place_need (seen_place p.now)
front_need (Spanned r) = rows_need (seen_rows r.now)

abbrev pub rest_need : Option Prefix → ℕ
rest_need None = 0
rest_need (Some f) = front_need f

-- last instructions that need so many, with what stands before them
abbrev pub whole_need : ℕ × Option Prefix → ℕ
whole_need r = max r.0 (rest_need r.1)

-- FOR without its statements: its last value, its first one, the test and the step
abbrev pub around_need : (place from to : ℕ) → ℕ
around_need place from to = max (max to (assign_need place from)) (assign_need place (max place 2))
