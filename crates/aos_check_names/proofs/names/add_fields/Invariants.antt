use Rattle.std.proofs.Common.{◌≡◌, ◌++◌, take}
use Rattle.std.specs.List.{flat_map}
use Rattle.aos_check_names.specs.Names as rules
use Rattle.aos_check_names.proofs.names.add_fields.Given as goal

abbrev pub invariant-loop-field : goal.invariant-loop-field
invariant-loop-field l = l.names.items ≡ l.initial.names.items ++ flat_map rules.field_names (take l.field-index l.fields)
