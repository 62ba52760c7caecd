use Rattle.std.proofs.Common.{◌≡◌, ◌+◌, take, sum_by}
use Rattle.aos_types.specs.Count as count
use Rattle.aos_types.proofs.count.of_fields.Given as goal

abbrev pub invariant-loop-field : goal.invariant-loop-field
invariant-loop-field l =
    l.all ≡ count.capped (count.of_base (count.made l.counts) l.fn.base + sum_by (count.of_variable (count.made l.counts) l.rows) (take l.field-index l.fields))
