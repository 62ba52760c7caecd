use Rattle.std.proofs.Common.{subst, sym, IfOk}
use Rattle.aos_workers.specs.Round.{IsReady, HasRounded, RoundAnswers}
use Rattle.aos_workers.proofs.Held.{ready_one, told_worker}
use Rattle.aos_workers.proofs.worker.round.Goals as goal

pub worker-w-requires : goal.worker-w-requires
worker-w-requires g c = ready_one _ _ c.requires.ready

pub round_of-requires-clause-ready : goal.round_of-requires-clause-ready
round_of-requires-clause-ready g c = subst (λ w. IsReady w c.args.pass.now.view) (told_worker _ c.args.pass.now.view c.worker-w.ensures) c.requires.ready

pub returns-clause-view : goal.returns-clause-view
returns-clause-view g c = subst (λ w. HasRounded w c.args.pass.now.view c.round_of.new.pass.view) (sym (told_worker _ c.args.pass.now.view c.worker-w.ensures)) c.round_of.ensures.view

pub returns-clause-answer : goal.returns-clause-answer
returns-clause-answer g c =
    subst (λ w. IfOk c.round_of.result (λ o. RoundAnswers w c.args.pass.now.view c.round_of.new.pass.view o)) (sym (told_worker _ c.args.pass.now.view c.worker-w.ensures)) c.round_of.ensures.answer
