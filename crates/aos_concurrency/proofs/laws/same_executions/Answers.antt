use Rattle.std.proofs.Common.{IsTrue}
use Rattle.aos_base.specs.Machine.{start_of}
use Rattle.aos_concurrency.proofs.Matching.{execution_matches, start_matches, observation_matches, events_match}
use Rattle.aos_concurrency.proofs.laws.same_executions.Goals as goal

pub returns-clause-observation : goal.returns-clause-observation
returns-clause-observation g c m n admitted stores frames s t f h budget sim at rest always cs =
    observation_matches (λ x y. IsTrue (stores x y)) (λ x y w k j. IsTrue (frames x y w k j)) (λ l k. IsTrue (admitted l k)) m n sim _ _
    (execution_matches (λ x y. IsTrue (stores x y)) (λ x y w k j. IsTrue (frames x y w k j)) (λ l k. IsTrue (admitted l k)) m n sim cs (start_of s f budget) (start_of t h budget) always
    (start_matches (λ x y. IsTrue (stores x y)) (λ x y w k j. IsTrue (frames x y w k j)) (λ l k. IsTrue (admitted l k)) m n sim s t f h budget at rest))

pub returns-clause-events : goal.returns-clause-events
returns-clause-events g c m n admitted stores frames s t f h budget sim at rest always cs =
    events_match (λ x y. IsTrue (stores x y)) (λ x y w k j. IsTrue (frames x y w k j)) (λ l k. IsTrue (admitted l k)) m n sim _ _
    (execution_matches (λ x y. IsTrue (stores x y)) (λ x y w k j. IsTrue (frames x y w k j)) (λ l k. IsTrue (admitted l k)) m n sim cs (start_of s f budget) (start_of t h budget) always
    (start_matches (λ x y. IsTrue (stores x y)) (λ x y w k j. IsTrue (frames x y w k j)) (λ l k. IsTrue (admitted l k)) m n sim s t f h budget at rest))
