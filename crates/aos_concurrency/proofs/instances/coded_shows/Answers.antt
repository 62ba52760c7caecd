use Rattle.aos_concurrency.proofs.ToyCoded.{coded_seen, coded_told}
use Rattle.aos_concurrency.proofs.instances.coded_shows.Goals as goal

pub returns-clause-observation : goal.returns-clause-observation
returns-clause-observation c p budget cs = coded_seen p budget cs

pub returns-clause-events : goal.returns-clause-events
returns-clause-events c p budget cs = coded_told p budget cs
