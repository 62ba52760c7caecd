use Rattle.std.proofs.Common.{◌≡◌, false, take}
use Rattle.std.specs.List.{flat_map, list_any}
use Rattle.aos_types.specs.Chain as chain
use Rattle.aos_types.specs.Limit as limit
use Rattle.aos_types.proofs.limit.is_field_past.Given as goal

abbrev pub invariant-loop-field : goal.invariant-loop-field
invariant-loop-field l =
    list_any (limit.count_past l.counts) (flat_map (chain.held l.rows) (take l.field-index l.fields)) ≡ false
