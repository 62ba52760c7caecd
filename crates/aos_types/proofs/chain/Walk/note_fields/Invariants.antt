use Rattle.std.proofs.Common.{◌≡◌, take}
use Rattle.std.specs.List.{flat_map}
use Rattle.aos_types.specs.Chain as chain
use Rattle.aos_types.specs.Walk as walk
use Rattle.aos_types.proofs.chain.Walk.note_fields.Given as goal

abbrev pub invariant-loop-field : goal.invariant-loop-field
invariant-loop-field l = l.self ≡ walk.all_noted (flat_map (chain.held l.rows) (take l.field-index l.fields)) l.fn.self
