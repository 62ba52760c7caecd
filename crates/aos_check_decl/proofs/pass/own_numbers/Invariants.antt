-- The loop over the numbers.
use Rattle.std.proofs.Common.{◌≡◌}
use Rattle.aos_check_decl.specs.Pass.{own_numbers}
use Rattle.aos_check_decl.proofs.pass.own_numbers.Given as goal

abbrev pub invariant-loop-place : goal.invariant-loop-place
invariant-loop-place l = l.numbers.items ≡ own_numbers l.first l.place
