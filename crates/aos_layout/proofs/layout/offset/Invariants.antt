use Rattle.aos_types.specs.Contents.{contents}
use Rattle.aos_layout.proofs.Ways.{IsOnWay}
use Rattle.aos_layout.proofs.layout.offset.Given as goal

abbrev pub invariant-loop-number : goal.invariant-loop-number
invariant-loop-number l = IsOnWay l.types (contents l.types l.fn.t) l.path l.number-index l.at l.cells
