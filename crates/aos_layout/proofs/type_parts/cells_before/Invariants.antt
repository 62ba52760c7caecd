use Rattle.std.proofs.Common.{◌≡◌}
use Rattle.aos_types.specs.Shape as shape
use Rattle.aos_layout.specs.TypeParts.{fields}
use Rattle.aos_layout.proofs.type_parts.cells_before.Given as goal

abbrev pub invariant-loop-field : goal.invariant-loop-field
invariant-loop-field l = l.cells ≡ shape.before l.field-index (fields l.types l.fn.fields)
