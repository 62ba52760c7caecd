use Rattle.aos_scan.proofs.Laws.{one_token_list}
use Rattle.aos_scan.proofs.scanner.one_token_list.Goals as goal

pub returns : goal.returns
returns c = one_token_list
