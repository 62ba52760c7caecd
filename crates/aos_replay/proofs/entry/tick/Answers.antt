use Rattle.std.proofs.Common.{[], ◌∷◌, ◌∙◌, ap, sym, subst}
use Rattle.aos_base.specs.Machine.{Tick}
use Rattle.aos_kernel.specs.Run.{after_tick}
use Rattle.aos_replay.specs.Continues.{Continues}
use Rattle.aos_replay.proofs.Going.{goes_tick, goes_nowhere, part_of}
use Rattle.aos_replay.proofs.Telling.{tells_no_more, tells_ticked, told_of}
use Rattle.aos_replay.proofs.entry.tick.Goals as goal

pub returns-in-Ok-true-clause-done : goal.returns-in-Ok-true-clause-done
returns-in-Ok-true-clause-done g c =
    let e = c.in-Ok-true.ensures in goes_tick c.args.worker c.args.kernel.now c.tick.new.self c.in-Ok-true.field-0 e.log e.same e.state

pub returns-in-Ok-true-clause-told : goal.returns-in-Ok-true-clause-told
returns-in-Ok-true-clause-told g c =
    let e = c.in-Ok-true.ensures in
    tells_ticked c.args.worker c.args.kernel.now c.tick.new.self _ _ c.in-Ok-true.field-0 c.in-Ok-true.field-0-test e.log e.same
    (c.tell_all.ensures ∙ told_of _ _ c.tick.new.self c.events.ensures)

pub returns-in-Ok-false-clause-done : goal.returns-in-Ok-false-clause-done
returns-in-Ok-false-clause-done g c =
    let e = c.in-Ok-false.ensures in goes_tick c.args.worker c.args.kernel.now c.tick.new.self c.in-Ok-false.field-0 e.log e.same e.state

pub returns-in-Ok-false-clause-told : goal.returns-in-Ok-false-clause-told
returns-in-Ok-false-clause-told g c =
    let same = c.in-Ok-false.ensures.log ∙ ap (λ t. after_tick t c.args.worker c.args.kernel.now) c.in-Ok-false.field-0-test in
    tells_no_more c.args.kernel.now c.tick.new.self _ same

pub returns-in-Err-clause-part : goal.returns-in-Err-clause-part
returns-in-Err-clause-part g c =
    let old = c.args.kernel.now in
    part_of [] (Tick c.args.worker ∷ []) old c.tick.new.self (subst (Continues [] old) (sym c.in-Err.ensures.err) (goes_nowhere old))

pub returns-in-Err-clause-told : goal.returns-in-Err-clause-told
returns-in-Err-clause-told g c = tells_no_more c.args.kernel.now c.tick.new.self _ c.in-Err.ensures.err
