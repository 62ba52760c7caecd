use Rattle.std.proofs.Common.{refl, ap, ◌∙◌}
use Rattle.aos_code.specs.declared.instr.Instr.{Instr}
use Rattle.aos_code.specs.Silent.{act}
use Rattle.aos_store.specs.Store.{frame_in}
use Rattle.aos_silent_steps.specs.Silent.{here_at}
use Rattle.aos_cpu.proofs.InPlace.{own_given}
use Rattle.aos_cpu.proofs.in_place.self_top.Goals as goal

pub returns-clause-done : goal.returns-clause-done
returns-clause-done c image here mem code_is at_is is =
    let f = frame_in c.args.frame.now in
    let does = λ (i : Instr). act image.shapes.items image.types.items f.procedure (here_at here f) i c.args.code.now c.args.at f.stack in
    c.give_top.ensures.done image here mem code_is at_is (ap does is ∙ own_given f.object f.stack c.if-object-eq0.false)
