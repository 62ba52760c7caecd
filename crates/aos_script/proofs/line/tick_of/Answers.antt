use Rattle.aos_script.proofs.Rests.{tick_flaw}
use Rattle.aos_script.proofs.line.tick_of.Goals as goal

pub returns-in-Err-clause-flaw : goal.returns-in-Err-clause-flaw
returns-in-Err-clause-flaw c line is = tick_flaw line c.args.worker.now c.args.workers is c.in-Err.flaw c.in-Err.ensures.flaw
