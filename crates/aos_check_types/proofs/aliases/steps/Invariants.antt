-- The loop over the module's types.
use Rattle.std.proofs.Common.{◌≡◌, ◌+◌, map}
use Rattle.std.specs.List.{range_with_len}
use Rattle.aos_check_types.specs.Aliases.{step}
use Rattle.aos_check_types.proofs.aliases.steps.Given as goal

abbrev pub invariant-loop-number : goal.invariant-loop-number
invariant-loop-number l = l.ahead.items ≡ map (λ k. step l.first l.targets (record { 0 = l.first + k })) (range_with_len 0 l.number)
