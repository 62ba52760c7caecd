use Rattle.aos_script.proofs.Lasting.{one_refusal}
use Rattle.aos_script.proofs.script.one_refusal.Goals as goal

pub returns : goal.returns
returns c = one_refusal
