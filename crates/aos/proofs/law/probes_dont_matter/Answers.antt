use Rattle.aos.proofs.Clauses.{dont_matter}
use Rattle.aos.proofs.law.probes_dont_matter.Goals as goal

pub returns : goal.returns
returns c = dont_matter
