use Rattle.std.proofs.Common.{◌+◌, refl, sym, subst, arith}
use Rattle.std.specs.Prelude.{false}
use Rattle.aos_code.specs.Machine.{Frame}
use Rattle.aos_store.specs.Store.{frame_in, memory_in}
use Rattle.aos_cpu.specs.InPlace.{HasTurnedTop}
use Rattle.aos_cpu.proofs.InPlace.{read_behind, worked_same}
use Rattle.aos_cpu.proofs.in_place.read_place.Goals as goal

pub returns-in-Ok-clause-done : goal.returns-in-Ok-clause-done
returns-in-Ok-clause-done c image code_is at_is acts =
    let f = frame_in c.args.frame.now in
    let mem = memory_in c.args.store.now in
    let place = c.args.place in
    subst (λ (x : Frame). HasTurnedTop image c.args.here false mem mem f (record x { next = c.args.at + 2 })) (sym c.in-Ok.ensures.ok)
    (read_behind image c.args.here mem f c.args.code.now c.args.at code_is at_is c.requires.within (omega arith) place.root place.cell c.args.kind c.in-Some.value acts c.requires.next c.in-Some.ensures
    (sym c.if-not-is_of.ensures))

pub returns-in-Err-clause-done : goal.returns-in-Err-clause-done
returns-in-Err-clause-done c image code_is at_is acts =
    let mem = memory_in c.args.store.now in
    worked_same image c.args.here mem mem (frame_in c.args.frame.now) (frame_in c.give.new.frame) c.in-Err.ensures.err refl
