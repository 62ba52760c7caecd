-- The loop over the numbers of parameters: those before are the same.
use Rattle.std.proofs.Common.{◌≡◌, drop}
use Rattle.aos_types.specs.Signature as judge
use Rattle.aos_types.proofs.signature.same_in_order.Given as goal

abbrev pub invariant-loop-number : goal.invariant-loop-number
invariant-loop-number l = judge.same_parameters l.types (drop l.number l.a) (drop l.number l.b) ≡ judge.same_parameters l.types l.a l.b
