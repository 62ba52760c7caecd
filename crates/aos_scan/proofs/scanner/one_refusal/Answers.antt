use Rattle.aos_scan.proofs.Laws.{one_refusal}
use Rattle.aos_scan.proofs.scanner.one_refusal.Goals as goal

pub returns : goal.returns
returns c = one_refusal
