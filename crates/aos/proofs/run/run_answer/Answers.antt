use Rattle.std.proofs.Common.{◌++◌, List, refl, ap, subst, ◌∙◌}
use Rattle.std.specs.Prelude.{All}
use Rattle.aos_base.specs.declared.kernel.Sched.{Sched}
use Rattle.aos_base.specs.Schedule.{IsEntry}
use Rattle.aos.proofs.Over.{tells_log}
use Rattle.aos.proofs.run.run_answer.Goals as goal

pub returns : goal.returns
returns c =
    let entries = subst (λ (l : List Sched). All (IsEntry c.args.kernel.now.workers) l) c.log-log.ensures.log c.log-log.ensures.entries in
    tells_log c.args.log c.args.kernel.now c.in_ok-answer.answer _ c.in_ok-lines.lines.items entries c.in_ok-answer.ensures refl refl
    (c.in_ok-extend_from_slice.ensures.items ∙ ap (λ l. c.in_ok-answer.answer.err.items ++ l) c.deref.ensures.value) c.in_ok-lines.ensures
