use Rattle.std.proofs.Common.{IsTrue}
use Rattle.aos_base.specs.Machine.{start_of, execution}
use Rattle.aos_concurrency.proofs.Begin.{start_sound}
use Rattle.aos_concurrency.proofs.Steps.{execution_sound, sound_always}
use Rattle.aos_concurrency.proofs.Excludes.{sound_mutual}
use Rattle.aos_concurrency.proofs.laws.one_owner.Goals as goal

pub returns-clause-exclusive : goal.returns-clause-exclusive
returns-clause-exclusive g c m fits s f budget cs keeps rest none =
    sound_mutual m (λ t w h. IsTrue (fits t w h)) (execution m cs (start_of s f budget))
    (execution_sound m (λ t w h. IsTrue (fits t w h)) keeps cs (start_of s f budget) (start_sound s f budget m (λ t w h. IsTrue (fits t w h)) rest none))

pub returns-clause-outside : goal.returns-clause-outside
returns-clause-outside g c m fits s f budget keeps rest none =
    sound_always m (λ t w h. IsTrue (fits t w h)) keeps (start_of s f budget) (start_sound s f budget m (λ t w h. IsTrue (fits t w h)) rest none)
