use Rattle.std.proofs.Common.{[], ◌∷◌, ◌≤◌, refl, arith}
use Rattle.aos_base.specs.Book.{stands, ready, counted, born}
use Rattle.aos_base.specs.Machine.{Step, go_past, turned, happens}
use Rattle.aos_concurrency.specs.Toy.{toy, toy_start, idle_at}
use Rattle.aos_concurrency.proofs.Places.{one_place, execution_one, keeps_none}
use Rattle.aos_concurrency.proofs.instances.toy_stays_idle.Goals as goal

pub returns-clause-one : goal.returns-clause-one
returns-clause-one c p budget cs w a b at bt = one_place w a b _ (execution_one toy w cs (toy_start p budget) (omega arith)) at bt

pub returns-clause-idle : goal.returns-clause-idle
unfolding stands ready counted born go_past turned happens
returns-clause-idle c = refl

pub returns-clause-later : goal.returns-clause-later
returns-clause-later c =
    keeps_none toy 0 (Step 1 ∷ Step 1 ∷ []) idle_at ((λ e. absurd (omega (arith, e))), ((λ e. absurd (omega (arith, e))), tt)) (returns-clause-idle c)
