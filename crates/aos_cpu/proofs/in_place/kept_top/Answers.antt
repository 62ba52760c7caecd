use Rattle.std.proofs.Common.{refl, sym, ap, subst}
use Rattle.aos_code.specs.Silent.{Act}
use Rattle.aos_code.specs.Machine.{Frame, made_in}
use Rattle.aos_store.specs.Store.{frame_in}
use Rattle.aos_silent_steps.specs.Steps.{IsStep}
use Rattle.aos_silent_steps.proofs.Stepped.{of_any}
use Rattle.aos_store.proofs.Rooms.{more_room}
use Rattle.aos_cpu.proofs.InPlace.{worked_same}
use Rattle.aos_cpu.proofs.in_place.kept_top.Goals as goal

pub go_after-requires-clause-begins : goal.go_after-requires-clause-begins
go_after-requires-clause-begins c = c.in-Ok.ensures.begins c.args.code.now

pub returns-in-Ok-clause-done : goal.returns-in-Ok-clause-done
returns-in-Ok-clause-done c image here mem code_is at_is acts =
    let f = frame_in c.args.frame.now in
    c.go_after.ensures.done image here mem f code_is at_is
    (of_any image.shapes.items image.types.items (made_in image mem) _ c.in-Ok.did f (frame_in c.kept_value.new.frame) (subst (λ (a : Act). IsStep a c.in-Ok.did f (frame_in c.kept_value.new.frame)) (sym acts) c.in-Ok.ensures.ok)) c.in-Ok.ensures.stays

pub returns-in-Err-clause-done : goal.returns-in-Err-clause-done
returns-in-Err-clause-done c image here mem code_is at_is acts = worked_same image here mem mem (frame_in c.args.frame.now) (frame_in c.kept_value.new.frame) c.in-Err.ensures.err refl

pub returns-in-Ok-clause-room : goal.returns-in-Ok-clause-room
returns-in-Ok-clause-room c =
    let given = c.in-Ok.ensures in
    more_room c.args.frame.now c.kept_value.new.frame c.go_after.new.frame
    (record { procedure = ap (λ (x : Frame). x.procedure) given.ok.same; operands = given.room; kept = given.keeps }) c.go_after.ensures.room

pub returns-in-Err-clause-room : goal.returns-in-Err-clause-room
returns-in-Err-clause-room c =
    record { procedure = ap (λ (x : Frame). x.procedure) c.in-Err.ensures.err; operands = c.in-Err.ensures.room; kept = c.in-Err.ensures.keeps }
