use Rattle.aos_concurrency.proofs.ToyKeeps.{toy_nested}
use Rattle.aos_concurrency.proofs.instances.toy_stays_nested.Goals as goal

pub returns : goal.returns
returns c = record { nested = λ p budget cs h a f is. toy_nested p budget h cs a f is }
