use Rattle.aos_scan.proofs.Laws.{spans, ends_once, only, exact}
use Rattle.aos_scan.proofs.scanner.scan.Goals as goal

pub returns-clause-only : goal.returns-clause-only
returns-clause-only c = only c.args.text.now c.token_list.result c.token_list.ensures.found c.token_list.ensures.refused

pub returns-clause-exact : goal.returns-clause-exact
returns-clause-exact c = exact c.args.text.now c.token_list.result c.token_list.ensures.found c.token_list.ensures.refused

pub returns-clause-spans : goal.returns-clause-spans
returns-clause-spans c = spans c.args.text.now c.token_list.result c.token_list.ensures.found

pub returns-clause-ends : goal.returns-clause-ends
returns-clause-ends c = ends_once c.args.text.now c.token_list.result c.token_list.ensures.found
