-- The loop over the module's types.
use Rattle.std.proofs.Common.{◌≡◌, ◌+◌, map}
use Rattle.std.specs.List.{range_with_len}
use Rattle.aos_check_types.proofs.aliases.own_types.Given as goal

abbrev pub invariant-loop-number : goal.invariant-loop-number
invariant-loop-number l = l.own.items ≡ map (λ k. record { 0 = l.first + k }) (range_with_len 0 l.number)
