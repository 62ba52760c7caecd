use Rattle.std.proofs.Common.{IsTrue}
use Rattle.aos_concurrency.proofs.NeverDead.{never_dead}
use Rattle.aos_concurrency.proofs.laws.never_dead.Goals as goal

pub returns : goal.returns
returns g c = record { outcome = λ m fits s f budget cs never rest. never_dead m (λ t w h. IsTrue (fits t w h)) never s f budget cs rest }
