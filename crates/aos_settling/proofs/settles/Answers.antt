use Rattle.aos_concurrency.proofs.Settles.{settle_at}
use Rattle.aos_settling.proofs.Settling.{settle_later_at}
use Rattle.aos_settling.proofs.Tallies.{is_tallied}
use Rattle.aos_settling.proofs.settles.Goals as goal

pub returns-clause-at_once : goal.returns-clause-at_once
returns-clause-at_once g c m w a f h begun st going on runs is private = settle_at m w a f h begun st going on runs is private

pub returns-clause-later : goal.returns-clause-later
returns-clause-later g c m w a entry f h begun cs st order lent runs none going private = settle_later_at m w a entry f h cs begun st runs none order lent going private

pub returns-clause-tally : goal.returns-clause-tally
returns-clause-tally g c a begun b going = is_tallied a begun b going
