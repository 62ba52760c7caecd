use Rattle.aos_script.proofs.Counts.{few_read, printable_read}
use Rattle.aos_script.proofs.Lasting.{only, exact}
use Rattle.aos_script.proofs.script.read_script.Goals as goal

pub returns-clause-only : goal.returns-clause-only
returns-clause-only c = only c.args.bytes.now c.script_of.result c.script_of.ensures.read c.script_of.ensures.refused

pub returns-clause-exact : goal.returns-clause-exact
returns-clause-exact c = exact c.args.bytes.now c.script_of.result c.script_of.ensures.read c.script_of.ensures.refused

pub returns-clause-few : goal.returns-clause-few
returns-clause-few c = few_read c.args.bytes.now c.script_of.result c.requires c.script_of.ensures.read

pub returns-clause-printable : goal.returns-clause-printable
returns-clause-printable c = printable_read c.args.bytes.now c.script_of.result c.script_of.ensures.read
