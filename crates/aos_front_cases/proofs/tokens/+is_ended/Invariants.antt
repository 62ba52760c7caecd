use Rattle.std.proofs.Common.{length}
use Rattle.aos_front_cases.proofs.tokens.+is_ended.Given as goal

abbrev pub decreases-is_ended : goal.decreases-is_ended
decreases-is_ended l = length l.tokens.now
