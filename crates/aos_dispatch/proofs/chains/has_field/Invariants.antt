-- What the loop of has_field keeps.
use Rattle.std.proofs.Common.{◌≡◌, ◌-◌, length}
use Rattle.std.specs.Prelude.{nat_lt}
use Rattle.aos_typed.specs.Fields.{field_types, fields_by}
use Rattle.aos_dispatch.proofs.chains.has_field.Given as goal

-- what is left of the bases has the field as what is left of its number
abbrev pub invariant-loop-step : goal.invariant-loop-step
invariant-loop-step l =
    nat_lt l.left (length (fields_by (length l.types - l._step) l.types l.at)) ≡ nat_lt l.number (length (field_types l.types l.fn.t))
