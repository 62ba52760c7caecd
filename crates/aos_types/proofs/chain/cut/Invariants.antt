use Rattle.std.proofs.Common.{◌≡◌, take}
use Rattle.aos_types.specs.Chain as chain
use Rattle.aos_types.proofs.chain.cut.Given as goal

abbrev pub invariant-loop-number : goal.invariant-loop-number
invariant-loop-number l = l.rows ≡ chain.cut (take l.number l.flags) l.fn.rows
