use Rattle.std.proofs.Common.{List, sym, subst, reverse}
use Rattle.aos_code.specs.declared.instr.Cell.{Cell}
use Rattle.aos_code.specs.Numbered.{numbered}
use Rattle.aos_code.specs.Silent.{AsType, Stops, Fails, looks, act, sends}
use Rattle.aos_store.specs.Store.{frame_in}
use Rattle.aos_silent_steps.specs.Known.{known}
use Rattle.aos_silent_steps.specs.Steps.{IsStepOf, IsTold}
use Rattle.aos_silent_steps.proofs.Oks.{ok_more}
use Rattle.aos_silent_steps.proofs.Stepped.{told_step}
use Rattle.aos_silent_steps.proofs.instruction.do_told.Goals as goal

pub returns-in-Deref-clause-ok : goal.returns-in-Deref-clause-ok
returns-in-Deref-clause-ok c own here at code =
    let shapes = c.args.shapes.now in
    let types = c.args.types.now in
    let f = frame_in c.args.frame.now in
    let s = reverse c.tell_cell.new.stack.items in
    subst (λ i. IsStepOf shapes types (known c.args.heap.now) (act shapes types own here i code at f.stack) c.tell_cell.result f (record f { stack = s })) (sym c.in-Deref.is)
    (told_step shapes types (known c.args.heap.now) _ c.tell_cell.result f s (c.tell_cell.ensures.told shapes types))

pub returns-in-OpenRef-clause-ok : goal.returns-in-OpenRef-clause-ok
returns-in-OpenRef-clause-ok c =
    let shapes = c.args.shapes.now in
    let types = c.args.types.now in
    let f = frame_in c.args.frame.now in
    ok_more c.tell_array.result _ _
    (λ did step own here at code. subst (λ i. IsStepOf shapes types (known c.args.heap.now) (act shapes types own here i code at f.stack) did f (frame_in c.tell_array.new.frame)) (sym c.in-OpenRef.is) step)
    (c.tell_array.ensures.ok shapes types)

pub returns-in-Virtual-clause-ok : goal.returns-in-Virtual-clause-ok
returns-in-Virtual-clause-ok c own here at code =
    let shapes = c.args.shapes.now in
    let types = c.args.types.now in
    let f = frame_in c.args.frame.now in
    subst (λ i. IsStepOf shapes types (known c.args.heap.now) (act shapes types own here i code at f.stack) c.tell_method.result f (record f { stack = f.stack })) (sym c.in-Virtual.is)
    (told_step shapes types (known c.args.heap.now) _ c.tell_method.result f f.stack
    (subst (λ (xs : List Cell). IsTold shapes types (known c.args.heap.now) (sends (numbered shapes c.in-Virtual.procedure) c.in-Virtual.slot c.in-Virtual.procedure (reverse xs)) c.tell_method.result (reverse xs))
    c.deref-in-Virtual.ensures.value c.tell_method.ensures.told))

pub returns-in-Is-clause-ok : goal.returns-in-Is-clause-ok
returns-in-Is-clause-ok c own here at code =
    let shapes = c.args.shapes.now in
    let types = c.args.types.now in
    let f = frame_in c.args.frame.now in
    let s = reverse c.tell_is.new.stack.items in
    subst (λ i. IsStepOf shapes types (known c.args.heap.now) (act shapes types own here i code at f.stack) c.tell_is.result f (record f { stack = s })) (sym c.in-Is.is)
    (told_step shapes types (known c.args.heap.now) _ c.tell_is.result f s (c.tell_is.ensures.told shapes))

pub returns-in-Guard-clause-ok : goal.returns-in-Guard-clause-ok
returns-in-Guard-clause-ok c own here at code =
    let shapes = c.args.shapes.now in
    let types = c.args.types.now in
    let f = frame_in c.args.frame.now in
    subst (λ i. IsStepOf shapes types (known c.args.heap.now) (act shapes types own here i code at f.stack) c.tell_as.result f (record f { stack = f.stack })) (sym c.in-Guard.is)
    (told_step shapes types (known c.args.heap.now) _ c.tell_as.result f f.stack
    (subst (λ (xs : List Cell). IsTold shapes types (known c.args.heap.now) (looks (AsType c.in-Guard.other) (λ r. Stops (Fails 3 0)) (reverse xs)) c.tell_as.result (reverse xs)) c.deref.ensures.value
    (c.tell_as.ensures.told shapes)))

pub returns-in-Bind-clause-ok : goal.returns-in-Bind-clause-ok
returns-in-Bind-clause-ok c own here at code =
    let shapes = c.args.shapes.now in
    let types = c.args.types.now in
    let f = frame_in c.args.frame.now in
    let s = reverse c.tell_bound.new.stack.items in
    subst (λ i. IsStepOf shapes types (known c.args.heap.now) (act shapes types own here i code at f.stack) c.tell_bound.result f (record f { stack = s })) (sym c.in-Bind.is)
    (told_step shapes types (known c.args.heap.now) _ c.tell_bound.result f s (c.tell_bound.ensures.told shapes))
