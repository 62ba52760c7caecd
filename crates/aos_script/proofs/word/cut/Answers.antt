use Rattle.aos_script.proofs.Cuts.{cut_some, cut_none}
use Rattle.std.proofs.Common.{sym}
use Rattle.aos_script.proofs.word.cut.Goals as goal

pub returns-in-Some : goal.returns-in-Some
returns-in-Some c = cut_some c.args.byte c.args.text.now c.in-Some.i (sym c.in-Some.ensures)

pub returns-in-None : goal.returns-in-None
returns-in-None c = cut_none c.args.byte c.args.text.now (sym c.in-None.ensures)
