use Rattle.aos_cpu.proofs.Behind.{nothing_made}
use Rattle.aos_cpu.proofs.answers.put_nothing.Goals as goal

pub returns-clause-answered : goal.returns-clause-answered
returns-clause-answered c mem out = nothing_made c.args.frames.now c.go_behind.new.frames mem c.args.at out c.go_behind.ensures.behind
