use Rattle.aos_handover.proofs.Turns.{turn_kind}
use Rattle.aos_handover.proofs.turns_have_kinds.Goals as goal

pub returns : goal.returns
returns c = turn_kind
