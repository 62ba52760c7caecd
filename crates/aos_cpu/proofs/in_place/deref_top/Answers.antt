use Rattle.std.proofs.Common.{◌≡◌, reverse, sym, ap, subst, arith}
use Rattle.aos_code.specs.declared.instr.Instr.{Instr}
use Rattle.aos_code.specs.Silent.{act}
use Rattle.aos_code.specs.Machine.{made_in}
use Rattle.aos_store.specs.Store.{frame_in, memory_in}
use Rattle.aos_silent_steps.specs.Silent.{here_at}
use Rattle.aos_silent_steps.specs.Steps.{IsStepOf}
use Rattle.aos_silent_steps.proofs.Stepped.{told_step}
use Rattle.aos_cpu.proofs.InPlace.{stays_more}
use Rattle.aos_cpu.proofs.in_place.deref_top.Goals as goal

pub go_after-requires-clause-begins : goal.go_after-requires-clause-begins
go_after-requires-clause-begins c = c.tell_cell-did.ensures.begins c.args.code.now

pub returns-clause-done : goal.returns-clause-done
returns-clause-done c image here code_is at_is is =
    let shapes = image.shapes.items in
    let types = image.types.items in
    let frame = c.args.frame.now in
    let f = frame_in frame in
    let mem = memory_in c.args.store.now in
    let told = c.tell_cell-did in
    let s = reverse told.new.stack.items in
    c.go_after.ensures.done image here mem f code_is at_is
    (subst (λ (i : Instr). IsStepOf shapes types (made_in image mem) (act shapes types f.procedure (here_at here f) i c.args.code.now c.args.at f.stack) told.result f (record f { stack = s })) (sym is)
    (told_step shapes types (made_in image mem) _ told.result f s (told.ensures.told shapes types)))
    (stays_more told.result (told.new.stack ≡ frame.operands) _ (λ e. ap (λ v. frame_in (record frame { operands = v })) e) told.ensures.kept)

pub returns-clause-room : goal.returns-clause-room
returns-clause-room c =
    let more = c.go_after.ensures.room in
    record { procedure = more.procedure; operands = omega (arith, more.operands, c.tell_cell-did.ensures.room); kept = more.kept }
