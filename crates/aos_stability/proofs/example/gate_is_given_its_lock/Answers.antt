use Rattle.std.proofs.Common.{refl}
use Rattle.aos_stability.proofs.GateGuards.{local, quiet}
use Rattle.aos_stability.proofs.GateRun.{called, given, holds, others, owner}
use Rattle.aos_stability.proofs.GateTyped.{typed}
use Rattle.aos_stability.proofs.example.gate_is_given_its_lock.Goals as goal

pub returns-clause-typed : goal.returns-clause-typed
returns-clause-typed c = typed

pub returns-clause-quiet : goal.returns-clause-quiet
returns-clause-quiet c = quiet

pub returns-clause-called : goal.returns-clause-called
returns-clause-called c = called

pub returns-clause-number : goal.returns-clause-number
returns-clause-number c = refl

pub returns-clause-local : goal.returns-clause-local
returns-clause-local c = local

pub returns-clause-given : goal.returns-clause-given
returns-clause-given c = given

pub returns-clause-others : goal.returns-clause-others
returns-clause-others c = others

pub returns-clause-owner : goal.returns-clause-owner
returns-clause-owner c = owner

pub returns-clause-holds : goal.returns-clause-holds
returns-clause-holds c = holds
