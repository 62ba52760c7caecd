use Rattle.std.proofs.Common.{arith}
use Rattle.aos_script.proofs.Rests.{steps_flaw}
use Rattle.aos_script.proofs.line.steps_of.Goals as goal

pub returns-in-Err-clause-flaw : goal.returns-in-Err-clause-flaw
returns-in-Err-clause-flaw c line is =
    let k = c.in-Some.ensures.written in
    steps_flaw line c.args.worker.now c.args.workers c.args.steps.now c.in-Some.k is k.0 k.1 (let most = c.from.ensures in let within = k.2 in omega arith) c.in-Err.flaw c.in-Err.ensures.flaw
