use Rattle.aos_scan.proofs.Laws.{not_both}
use Rattle.aos_scan.proofs.scanner.not_both.Goals as goal

pub returns : goal.returns
returns c = not_both
