use Rattle.std.proofs.Common.{◌≡◌, get_or, reverse, refl, sym, ap, ◌∙◌, arith}
use Rattle.std.specs.Prelude.{pos}
use Rattle.aos_silent_steps.specs.Silent.{here_at}
use Rattle.aos_code.specs.declared.instr.Instr.{Instr}
use Rattle.aos_code.specs.declared.instr.Instr.TheVariants.{Num}
use Rattle.aos_code.specs.Silent.{act}
use Rattle.aos_code.specs.Machine.{made_in}
use Rattle.aos_store.specs.Store.{frame_in, memory_in}
use Rattle.aos_silent_steps.proofs.Stepped.{stepped_of}
use Rattle.aos_cpu.proofs.InPlace.{stays_more}
use Rattle.aos_cpu.proofs.in_place.do_top.Goals as goal

pub returns-in-JumpFalse-clause-done : goal.returns-in-JumpFalse-clause-done
returns-in-JumpFalse-clause-done c =
    let image = c.args.image.now in
    let frame = c.args.frame.now in
    let f = frame_in frame in
    let mem = memory_in c.args.store.now in
    let code = c.args.code.now in
    let does = λ (i : Instr). act image.shapes.items image.types.items f.procedure (here_at c.args.here f) i code frame.next f.stack in
    c.go_after-in-JumpFalse.ensures.done image c.args.here mem f c.requires.code refl
    (stepped_of image.shapes.items image.types.items (made_in image mem) c.jump_on_false-did.result (does (get_or code frame.next (Num (pos 0)))) f (reverse c.jump_on_false-did.new.stack.items)
    (c.jump_on_false-did.ensures.act ∙ ap does (sym c.in-JumpFalse.is)))
    (stays_more c.jump_on_false-did.result (c.jump_on_false-did.new.stack ≡ frame.operands) _ (λ e. ap (λ s. frame_in (record frame { operands = s })) e) c.jump_on_false-did.ensures.kept)

pub returns-in-JumpFalse-clause-room : goal.returns-in-JumpFalse-clause-room
returns-in-JumpFalse-clause-room c =
    let more = c.go_after-in-JumpFalse.ensures.room in
    record { procedure = more.procedure; operands = omega (arith, more.operands, c.jump_on_false-did.ensures.room); kept = more.kept }
