use Rattle.std.proofs.Common.{◌≡◌, take}
use Rattle.std.specs.List.{flat_map}
use Rattle.aos_variables.specs.Parts as judge
use Rattle.aos_variables.proofs.fields.record_defs.Given as goal

abbrev pub invariant-loop-field : goal.invariant-loop-field
invariant-loop-field l = l.all.items ≡ flat_map judge.defs_in (take l.field-index l.fields)
