-- What the loop of front_target keeps.
use Rattle.std.proofs.Common.{◌≡◌, ◌≤◌, suc}
use Rattle.aos_typed.specs.Seen.{seen_program}
use Rattle.aos_dispatch.specs.Sizes.{front_size, rest_size}
use Rattle.aos_uses.specs.Prefixes.{front_target, rest_target}
use Rattle.aos_uses.proofs.target.front_target.Given as goal

-- what is left names the same variable, and is no more
abbrev pub invariant-loop-rest : goal.invariant-loop-rest
invariant-loop-rest l =
    (rest_target (seen_program l.dispatch) l.found l.rest ≡ front_target (seen_program l.dispatch) l.fn.all) × (rest_size l.rest ≤ suc (front_size l.fn.all))

abbrev pub decreases-loop-rest : goal.decreases-loop-rest
decreases-loop-rest l = rest_size l.rest
