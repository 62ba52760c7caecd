use Rattle.aos_concurrency.proofs.Settles.{settle, goes_on}
use Rattle.aos_concurrency.proofs.Lent.{settle_later}
use Rattle.aos_concurrency.proofs.laws.private_turns.Goals as goal

pub returns-clause-settle : goal.returns-clause-settle
returns-clause-settle g c m w a f h begun st going on runs is private = settle m w a f h begun st going on runs is private

pub returns-clause-later : goal.returns-clause-later
returns-clause-later g c m w a entry f h begun cs st order lent runs none going private = settle_later m w a entry f cs begun h st runs none order lent going private

pub returns-clause-budget : goal.returns-clause-budget
returns-clause-budget g c a begun b going below = goes_on a begun b going below
