use Rattle.aos_concurrency.proofs.ToyKeeps.{toy_mutual}
use Rattle.aos_concurrency.proofs.instances.toy_excludes.Goals as goal

pub returns : goal.returns
returns c = record { exclusive = λ p budget cs h. toy_mutual p budget h cs }
