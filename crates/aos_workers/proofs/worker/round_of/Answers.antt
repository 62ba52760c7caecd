use Rattle.aos_workers.proofs.Held.{ready_has, begins_held, gives_last, has_rounded, all_answered}
use Rattle.aos_workers.proofs.worker.round_of.Goals as goal

pub take-kernel-requires-clause-own : goal.take-kernel-requires-clause-own
take-kernel-requires-clause-own g c = ready_has _ _ c.requires.ready

pub work_by_loans-kernel-requires-clause-begins : goal.work_by_loans-kernel-requires-clause-begins
work_by_loans-kernel-requires-clause-begins g c = begins_held _ _ _ _ c.requires.ready c.take-kernel.ensures.kernel

pub give-requires-clause-kernel : goal.give-requires-clause-kernel
give-requires-clause-kernel g c = gives_last _ _ _ _ c.work_by_loans-kernel.ensures.held

pub returns-clause-view : goal.returns-clause-view
returns-clause-view g c = has_rounded _ _ _ _ _ _ _ c.requires.ready c.take-kernel.ensures.kernel c.work_by_loans-kernel.ensures.held c.give.ensures.view

pub returns-clause-answer : goal.returns-clause-answer
returns-clause-answer g c = all_answered _ _ _ _ _ _ _ _ c.requires.ready c.take-kernel.ensures.kernel c.give.ensures.view c.work_by_loans-kernel.ensures.answer
