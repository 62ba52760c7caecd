use Rattle.std.proofs.Common.{◌≡◌, get_or, reverse, sym, ap, ◌∙◌, arith}
use Rattle.std.specs.Prelude.{pos}
use Rattle.aos_code.specs.declared.instr.Instr.{Instr}
use Rattle.aos_code.specs.declared.instr.Instr.TheVariants.{Num}
use Rattle.aos_code.specs.Silent.{act}
use Rattle.aos_code.specs.Machine.{made_in}
use Rattle.aos_store.specs.Store.{frame_in}
use Rattle.aos_silent_steps.specs.Silent.{here_at}
use Rattle.aos_silent_steps.proofs.Stepped.{stepped_of}
use Rattle.aos_cpu.proofs.InPlace.{stays_more}
use Rattle.aos_cpu.proofs.in_place.index_top.Goals as goal

pub returns-clause-done : goal.returns-clause-done
returns-clause-done c image here mem code_is at_is is =
    let frame = c.args.frame.now in
    let f = frame_in frame in
    let did = c.index-did in
    let does = λ (i : Instr). act image.shapes.items image.types.items f.procedure (here_at here f) i c.args.code.now c.args.at f.stack in
    c.go_after.ensures.done image here mem f code_is at_is
    (stepped_of image.shapes.items image.types.items (made_in image mem) did.result (does (get_or c.args.code.now c.args.at (Num (pos 0)))) f (reverse did.new.stack.items) (did.ensures.act ∙ ap does (sym is)))
    (stays_more did.result (did.new.stack ≡ frame.operands) _ (λ e. ap (λ s. frame_in (record frame { operands = s })) e) did.ensures.kept)

pub returns-clause-room : goal.returns-clause-room
returns-clause-room c =
    let more = c.go_after.ensures.room in
    record { procedure = more.procedure; operands = omega (arith, more.operands, c.index-did.ensures.room); kept = more.kept }
