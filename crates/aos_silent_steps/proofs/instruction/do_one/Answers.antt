use Rattle.std.proofs.Common.{◌≡◌, List, reverse, ap, ◌∙◌, subst}
use Rattle.aos_code.specs.declared.instr.Cell.{Cell}
use Rattle.aos_code.specs.declared.image.ProcShape.{ProcShape}
use Rattle.aos_code.specs.declared.image.TypeDesc.{TypeDesc}
use Rattle.aos_code.specs.Silent.{act}
use Rattle.aos_store.specs.Store.{frame_in}
use Rattle.aos_silent_steps.specs.Acts.{act_in}
use Rattle.aos_silent_steps.specs.Known.{known}
use Rattle.aos_silent_steps.specs.Silent.{here_at}
use Rattle.aos_silent_steps.specs.Steps.{IsStepOf}
use Rattle.aos_silent_steps.proofs.Oks.{ok_more}
use Rattle.aos_silent_steps.proofs.Stepped.{of_any, stepped_of}
use Rattle.aos_silent_steps.proofs.instruction.do_one.Goals as goal

pub returns-in-Num-clause-ok : goal.returns-in-Num-clause-ok
returns-in-Num-clause-ok c =
    let image = c.args.image.now in
    let f = c.args.frame.now in
    ok_more c.do_on_frame.result _ _
    (λ did h.
    of_any image.shapes.items image.types.items (known c.args.heap.now) (act image.shapes.items image.types.items f.procedure (here_at c.args.here (frame_in f)) c.args.instr c.args.code.now c.args.at (frame_in f).stack) did (frame_in f) (frame_in c.do_on_frame.new.frame)
    (h image.shapes.items image.types.items f.procedure c.args.at c.args.code.now c.requires.keeps)) c.do_on_frame.ensures.ok

pub returns-in-Num-clause-begins : goal.returns-in-Num-clause-begins
returns-in-Num-clause-begins c = c.do_on_frame.ensures.begins c.args.code.now

pub returns-in-Unary-clause-ok : goal.returns-in-Unary-clause-ok
returns-in-Unary-clause-ok c =
    let image = c.args.image.now in
    stepped_of image.shapes.items image.types.items (known c.args.heap.now) c.do_operands.result _ (frame_in c.args.frame.now) (reverse c.do_operands.new.stack.items)
    (c.do_operands.ensures.act image.shapes.items image.types.items c.args.frame.now.procedure (here_at c.args.here (frame_in c.args.frame.now)) c.args.at c.args.code.now)

pub returns-in-Unary-clause-begins : goal.returns-in-Unary-clause-begins
returns-in-Unary-clause-begins c = c.do_operands.ensures.begins c.args.code.now

pub returns-in-IsPlace-clause-ok : goal.returns-in-IsPlace-clause-ok
returns-in-IsPlace-clause-ok c =
    let image = c.args.image.now in
    let f = frame_in c.args.frame.now in
    stepped_of image.shapes.items image.types.items (known c.args.heap.now) c.do_tests.result _ f (reverse c.do_tests.new.stack.items)
    (c.do_tests.ensures.act image.shapes.items f.procedure (here_at c.args.here f) c.args.at c.args.code.now
    ∙ ap (λ (l : List TypeDesc). act image.shapes.items l f.procedure (here_at c.args.here f) c.args.instr c.args.code.now c.args.at f.stack) c.deref.ensures.value)

pub returns-in-IsPlace-clause-begins : goal.returns-in-IsPlace-clause-begins
returns-in-IsPlace-clause-begins c = c.do_tests.ensures.begins c.args.code.now

pub returns-in-Deref-clause-ok : goal.returns-in-Deref-clause-ok
returns-in-Deref-clause-ok c =
    let image = c.args.image.now in
    let f = frame_in c.args.frame.now in
    ok_more c.do_told.result _ _
    (λ did h. subst (λ (l : List ProcShape × List TypeDesc). IsStepOf l.0 l.1 (known c.args.heap.now) (act l.0 l.1 f.procedure (here_at c.args.here f) c.args.instr c.args.code.now c.args.at f.stack) did f (frame_in c.do_told.new.frame))
    (λ i. (c.deref-in-Deref.ensures.value i, c.deref-in-Deref-2.ensures.value i))
    (h f.procedure (here_at c.args.here f) c.args.at c.args.code.now)) c.do_told.ensures.ok

pub returns-in-Deref-clause-begins : goal.returns-in-Deref-clause-begins
returns-in-Deref-clause-begins c = c.do_told.ensures.begins c.args.code.now

pub returns-in-Deref-clause-full : goal.returns-in-Deref-clause-full
returns-in-Deref-clause-full c = c.do_told.ensures.full c.args.keeps

pub returns-in-Jump-clause-ok : goal.returns-in-Jump-clause-ok
returns-in-Jump-clause-ok c =
    let image = c.args.image.now in
    stepped_of image.shapes.items image.types.items (known c.args.heap.now) c.do_jumps.result _ (frame_in c.args.frame.now) (reverse c.do_jumps.new.stack.items)
    (c.do_jumps.ensures.act image.shapes.items image.types.items c.args.frame.now.procedure (here_at c.args.here (frame_in c.args.frame.now)))

pub returns-in-Load-clause-ok : goal.returns-in-Load-clause-ok
returns-in-Load-clause-ok c =
    let image = c.args.image.now in
    let f = frame_in c.args.frame.now in
    stepped_of image.shapes.items image.types.items (known c.args.heap.now) c.ask.result (act image.shapes.items image.types.items f.procedure (here_at c.args.here f) c.args.instr c.args.code.now c.args.at f.stack) f f.stack
    (subst (λ (x : List ProcShape × List Cell). act_in c.ask.result (reverse x.1) ≡ act x.0 image.types.items f.procedure (here_at c.args.here f) c.args.instr c.args.code.now c.args.at (reverse x.1)) (λ i. (c.deref-in-Load.ensures.value i, c.deref-in-Load-2.ensures.value i))
    (c.ask.ensures.act image.types.items (here_at c.args.here f) c.args.at c.args.code.now))

pub returns-in_default-clause-ok : goal.returns-in_default-clause-ok
returns-in_default-clause-ok c =
    let image = c.args.image.now in
    let f = frame_in c.args.frame.now in
    stepped_of image.shapes.items image.types.items (known c.args.heap.now) c.ask_written.result (act image.shapes.items image.types.items f.procedure (here_at c.args.here f) c.args.instr c.args.code.now c.args.at f.stack) f f.stack
    (subst (λ (xs : List Cell). act_in c.ask_written.result (reverse xs) ≡ act image.shapes.items image.types.items f.procedure (here_at c.args.here f) c.args.instr c.args.code.now c.args.at (reverse xs)) c.deref-in_default.ensures.value
    (c.ask_written.ensures.act image.shapes.items image.types.items f.procedure (here_at c.args.here f) c.args.at c.args.code.now))
