use Rattle.std.proofs.Common.{◌≡◌, not}
use Rattle.std.specs.List.{filter, range_with_len}
use Rattle.aos_order.specs.Placing.{is_among}
use Rattle.aos_order.proofs.placing.unplaced.Given as goal

abbrev pub invariant-loop-file : goal.invariant-loop-file
invariant-loop-file l = l.left.items ≡ filter (λ k. not (is_among l.placed.keys k)) (range_with_len 0 l.file-counter)
