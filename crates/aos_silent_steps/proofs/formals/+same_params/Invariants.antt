use Rattle.std.proofs.Common.{length}
use Rattle.aos_silent_steps.proofs.formals.+same_params.Given as goal

-- the parameters that are left
abbrev pub decreases-same_params : goal.decreases-same_params
decreases-same_params l = length l.one.now
