use Rattle.std.proofs.Common.{IsTrue}
use Rattle.aos_base.specs.Machine.{start_of}
use Rattle.aos_concurrency.proofs.Itself.{start_fitting}
use Rattle.aos_concurrency.proofs.Changes.{happens_moves, execution_tidy}
use Rattle.aos_concurrency.proofs.laws.acts_in_five_ways.Goals as goal

pub returns-clause-ways : goal.returns-clause-ways
returns-clause-ways g c m admitted fits choice st keeps fit admits =
    happens_moves m (λ l h. IsTrue (admitted l h)) (λ t w h. IsTrue (fits t w h)) keeps choice st admits fit

pub returns-clause-tidy : goal.returns-clause-tidy
returns-clause-tidy g c m admitted fits tidy s f budget cs keeps tidies rest always neat =
    execution_tidy m (λ l h. IsTrue (admitted l h)) (λ t w h. IsTrue (fits t w h)) keeps (λ t h. IsTrue (tidy t h)) tidies cs (start_of s f budget) always
    (start_fitting m (λ l h. IsTrue (admitted l h)) (λ t w h. IsTrue (fits t w h)) keeps s f budget rest) neat
