use Rattle.std.proofs.Common.{rules, w64, ◌≡◌, sym, ap, ◌∙◌}
use mir.Val.{to_z, of_z}
use Rattle.aos_code.specs.declared.instr.Cell.TheVariants.{Num as NumCell}
use Rattle.aos_code.specs.declared.instr.Instr.{Instr}
use Rattle.aos_code.specs.Silent.{act, gives}
use Rattle.aos_store.specs.Store.{frame_in}
use Rattle.aos_silent_steps.specs.Silent.{here_at}
use Rattle.aos_cpu.proofs.in_place.number_top.Goals as goal

pub returns-in-None-clause-done : goal.returns-in-None-clause-done
returns-in-None-clause-done c image here mem code_is at_is is =
    let f = frame_in c.args.frame.now in
    let does = λ (i : Instr). act image.shapes.items image.types.items f.procedure (here_at here f) i c.args.code.now c.args.at f.stack in
    let same : to_z w64 (of_z w64 c.args.n) ≡ c.args.n = search rules in
    c.give_top.ensures.done image here mem code_is at_is (ap does is ∙ ap (λ z. gives (NumCell z) f.stack) (sym same))
