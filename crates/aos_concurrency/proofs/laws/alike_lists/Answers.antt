use Rattle.std.proofs.Common.{subst}
use Rattle.aos_base.specs.Lock.{heir, after_heir, Alike}
use Rattle.aos_concurrency.proofs.Chosen.{heir_alike, after_alike, append_alike}
use Rattle.aos_concurrency.proofs.laws.alike_lists.Goals as goal

pub returns-clause-heir : goal.returns-clause-heir
returns-clause-heir c verdict es fs h = heir_alike verdict es fs h

pub returns-clause-left : goal.returns-clause-left
returns-clause-left c verdict es fs h =
    subst (λ k. Alike (after_heir (heir verdict es) es) (after_heir k fs)) (heir_alike verdict es fs h) (after_alike (heir verdict es) es fs h)

pub returns-clause-joined : goal.returns-clause-joined
returns-clause-joined c e es fs h = append_alike e es fs h
