use Rattle.std.proofs.Common.{◌≡◌, ◌-◌, true, length, take}
use Rattle.std.specs.List.{list_all}
use Rattle.aos_order.specs.Placing.{is_among}
use Rattle.aos_order.proofs.placing.are_placed.Given as goal

abbrev pub invariant-loop-file : goal.invariant-loop-file
invariant-loop-file l = list_all (is_among l.placed.keys) (take l.known l.needed) ≡ true

abbrev pub decreases-loop-file : goal.decreases-loop-file
decreases-loop-file l = length l.needed - l.known
