use Rattle.std.proofs.Common.{◌≡◌, get_or, refl, sym, ap, ◌∙◌, subst}
use Rattle.std.specs.Prelude.{pos}
use Rattle.std.proofs.lemmas.Option.{slice_get-get_or}
use Rattle.aos_code.specs.declared.instr.Instr.{Instr}
use Rattle.aos_code.specs.declared.instr.Instr.TheVariants.{Num}
use Rattle.aos_code.specs.Silent.{act}
use Rattle.aos_code.specs.Machine.{Frame, made_in}
use Rattle.aos_store.specs.Store.{frame_in, memory_in}
use Rattle.aos_silent_steps.specs.Silent.{here_at}
use Rattle.aos_silent_steps.specs.Steps.{IsStepOf}
use Rattle.aos_store.proofs.Rooms.{more_room}
use Rattle.aos_cpu.proofs.Turns.{some_same}
use Rattle.aos_cpu.proofs.InPlace.{worked_same}
use Rattle.aos_cpu.proofs.in_place.rest_top.Goals as goal

pub returns-in-Ok-clause-done : goal.returns-in-Ok-clause-done
returns-in-Ok-clause-done c code_is at_is =
    let image = c.args.image.now in
    let f = frame_in c.args.frame.now in
    let mem = memory_in c.args.store.now in
    let code = c.args.code.now in
    let at = c.args.at in
    let same : c.args.instr ≡ get_or code at (Num (pos 0)) = some_same _ _ (sym c.requires.place ∙ slice_get-get_or code at (Num (pos 0)) c.requires.within) in
    c.go_after.ensures.done image c.args.here mem f code_is at_is
    (subst (λ (i : Instr). IsStepOf image.shapes.items image.types.items (made_in image mem) (act image.shapes.items image.types.items f.procedure (here_at c.args.here f) i code at f.stack) c.in-Ok.did f (frame_in c.do_one.new.frame)) same c.in-Ok.ensures.ok)
    c.in-Ok.ensures.stays

pub returns-in-Ok-clause-room : goal.returns-in-Ok-clause-room
returns-in-Ok-clause-room c =
    let done = c.in-Ok.ensures in
    more_room c.args.frame.now c.do_one.new.frame c.go_after.new.frame
    (record { procedure = ap (λ (x : Frame). x.procedure) done.ok.same; operands = done.room; kept = done.keeps }) c.go_after.ensures.room

pub returns-in-Err-clause-done : goal.returns-in-Err-clause-done
returns-in-Err-clause-done c code_is at_is =
    let mem = memory_in c.args.store.now in
    worked_same c.args.image.now c.args.here mem mem (frame_in c.args.frame.now) (frame_in c.do_one.new.frame) c.in-Err.ensures.err refl

pub returns-in-Err-clause-room : goal.returns-in-Err-clause-room
returns-in-Err-clause-room c =
    record { procedure = ap (λ (x : Frame). x.procedure) c.in-Err.ensures.err; operands = c.in-Err.ensures.room; kept = c.in-Err.ensures.keeps }
