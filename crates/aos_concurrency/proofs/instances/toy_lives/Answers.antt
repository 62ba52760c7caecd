use Rattle.aos_concurrency.proofs.ToyNever.{toy_never_dead}
use Rattle.aos_concurrency.proofs.instances.toy_lives.Goals as goal

pub returns : goal.returns
returns c = record { outcome = λ p budget cs own forked. toy_never_dead p budget cs own forked }
