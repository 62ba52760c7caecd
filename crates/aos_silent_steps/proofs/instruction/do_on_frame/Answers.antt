use Rattle.std.proofs.Common.{sym, subst}
use Rattle.aos_code.specs.Silent.{act}
use Rattle.aos_store.specs.Store.{frame_in}
use Rattle.aos_silent_steps.specs.Silent.{here_at}
use Rattle.aos_silent_steps.specs.Steps.{IsStep}
use Rattle.aos_silent_steps.proofs.Oks.{ok_more}
use Rattle.aos_silent_steps.proofs.instruction.do_on_frame.Goals as goal

pub returns-in-Param-clause-ok : goal.returns-in-Param-clause-ok
returns-in-Param-clause-ok c =
    let old = frame_in c.args.frame.now in
    ok_more c.param_value.result _ _
    (λ did h shapes types own at code _. subst (λ i. IsStep (act shapes types own (here_at c.args.here old) i code at old.stack) did old (frame_in c.param_value.new.frame)) (sym c.in-Param.is) (h c.args.here)) c.param_value.ensures.ok

pub returns-in-Length-clause-ok : goal.returns-in-Length-clause-ok
returns-in-Length-clause-ok c =
    let old = frame_in c.args.frame.now in
    ok_more c.length_value.result _ _
    (λ did h shapes types own at code _. subst (λ i. IsStep (act shapes types own (here_at c.args.here old) i code at old.stack) did old (frame_in c.length_value.new.frame)) (sym c.in-Length.is) (h c.args.here)) c.length_value.ensures.ok
