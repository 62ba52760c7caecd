use Rattle.std.proofs.Common.{IsTrue}
use Rattle.aos_base.specs.Machine.{start_of, execution}
use Rattle.aos_concurrency.specs.Regions.{Outside}
use Rattle.aos_concurrency.proofs.Begin.{start_sound}
use Rattle.aos_concurrency.proofs.Steps.{execution_sound, sound_always}
use Rattle.aos_concurrency.proofs.Itself.{sound_fitting}
use Rattle.aos_concurrency.proofs.Changes.{execution_tidy}
use Rattle.aos_concurrency.proofs.Heirs.{hands_over}
use Rattle.aos_concurrency.proofs.laws.hands_over.Goals as goal

pub returns : goal.returns
returns g c = record {
  handed = λ m fits tidy agree is_local s f budget before others entry a l d keeps guards rest none neat. let first = start_sound s f budget m (λ t w h. IsTrue (fits t w h)) rest none in
      hands_over m (λ t w h. IsTrue (fits t w h)) (λ t h. IsTrue (tidy t h)) (λ k t u. IsTrue (agree k t u)) (λ k j. IsTrue (is_local k j)) keeps guards
      (execution m before (start_of s f budget)) entry a l d others
      (execution_sound m (λ t w h. IsTrue (fits t w h)) keeps before (start_of s f budget) first)
      (execution_tidy m (Outside m) (λ t w h. IsTrue (fits t w h)) keeps.fits (λ t h. IsTrue (tidy t h)) guards.tidy before (start_of s f budget) (sound_always m (λ t w h. IsTrue (fits t w h)) keeps (start_of s f budget) first) (sound_fitting m (λ t w h. IsTrue (fits t w h)) (start_of s f budget) first) neat);
}
