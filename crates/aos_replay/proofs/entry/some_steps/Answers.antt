use Rattle.std.proofs.Common.{[], sym, ◌∙◌, subst}
use Rattle.aos_replay.specs.Continues.{Continues}
use Rattle.aos_replay.proofs.Going.{goes_nowhere, goes_many}
use Rattle.aos_replay.proofs.Telling.{tells_no_more, tells_many, told_of}
use Rattle.aos_replay.proofs.entry.some_steps.Goals as goal

pub returns-in_err-made-clause-told : goal.returns-in_err-made-clause-told
returns-in_err-made-clause-told g c = tells_no_more c.args.kernel.now c.steps.new.self _ c.in_err-made.ensures.err

pub returns-then-made-eq0-clause-done : goal.returns-then-made-eq0-clause-done
returns-then-made-eq0-clause-done g c =
    let old = c.args.kernel.now in
    subst (Continues [] old) (sym (c.in_ok-made.ensures.none c.if-made-eq0.true).0) (goes_nowhere old)

pub returns-then-made-eq0-clause-idle : goal.returns-then-made-eq0-clause-idle
returns-then-made-eq0-clause-idle g c = λ _.
    let q = c.in_ok-made.ensures.none c.if-made-eq0.true in (q.0, (q.1 c.requires.some).1)

pub returns-then-made-eq0-clause-told : goal.returns-then-made-eq0-clause-told
returns-then-made-eq0-clause-told g c = tells_no_more c.args.kernel.now c.steps.new.self _ (c.in_ok-made.ensures.none c.if-made-eq0.true).0

pub returns-clause-done : goal.returns-clause-done
returns-clause-done g c = goes_many c.args.worker c.in_ok-made.made c.args.kernel.now c.steps.new.self c.steps.ensures.same c.in_ok-made.ensures.made

pub returns-clause-idle : goal.returns-clause-idle
returns-clause-idle g c = λ e. absurd (c.if-made-eq0.false e)

pub returns-clause-told : goal.returns-clause-told
returns-clause-told g c =
    tells_many c.args.worker c.args.kernel.now c.steps.new.self _ _ c.in_ok-made.made c.if-made-eq0.false c.steps.ensures.same c.in_ok-made.ensures.made
    (c.tell_all.ensures ∙ told_of _ _ c.steps.new.self c.events.ensures)
