use Rattle.std.proofs.Common.{[], ◌∷◌, true, refl, arith}
use Rattle.aos_base.specs.Book.{stands, counted, born}
use Rattle.aos_base.specs.Machine.{Step, go_past, turned, happens}
use Rattle.aos_concurrency.specs.Toy.{Skip, Fork, Say, toy, lent_at, skipping, nothing_raised, whole_of}
use Rattle.aos_concurrency.proofs.Begin.{orderly_start}
use Rattle.aos_concurrency.proofs.Itself.{execution_orderly}
use Rattle.aos_concurrency.proofs.Settles.{settle}
use Rattle.aos_concurrency.proofs.Lent.{settle_later}
use Rattle.aos_concurrency.proofs.instances.toy_settles.Goals as goal

pub returns-clause-lent : goal.returns-clause-lent
unfolding stands counted born go_past turned happens
returns-clause-lent c = record { on = refl; stands = refl; activity = refl; frames = refl }

pub returns-clause-later : goal.returns-clause-later
unfolding stands counted born go_past turned happens
returns-clause-later c =
    settle_later toy 0 0 (lent_at.book.activity 0) (skipping (Skip ∷ Skip ∷ [])) (Step 1 ∷ Step 1 ∷ []) (true ∷ true ∷ []) (skipping []) lent_at refl
    ((λ e. absurd (omega (arith, e))), ((λ e. absurd (omega (arith, e))), tt))
    (execution_orderly toy (Step 0 ∷ Step 0 ∷ []) _ (orderly_start (nothing_raised (Say 7 ∷ [])) (whole_of (Fork ∷ Skip ∷ Skip ∷ [])) 100))
    (record { on = refl; stands = refl; activity = refl; frames = refl })
    (refl, (refl, tt)) (skipping (Skip ∷ []), (λ s. refl, (skipping [], (λ s. refl, refl))))

pub returns-clause-settle : goal.returns-clause-settle
returns-clause-settle c st w a f rest going on runs is =
    settle toy w a _ _ (true ∷ true ∷ []) st going on runs is (record f { rest = Skip ∷ rest }, (λ s. refl, (record f { rest = rest }, (λ s. refl, refl))))
