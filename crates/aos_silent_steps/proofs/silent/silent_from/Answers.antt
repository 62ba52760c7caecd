use Rattle.std.proofs.Common.{ℕ, List, ap, ◌∙◌, subst}
use Rattle.std.specs.Prelude.{IsOk}
use Rattle.aos_code.specs.declared.instr.Instr.{Instr}
use Rattle.aos_code.specs.declared.image.ProcShape.{ProcShape}
use Rattle.aos_code.specs.Numbered.{numbered}
use Rattle.aos_code.specs.Silent.{keeps_in}
use Rattle.aos_sound.specs.Fits.{KeepsToPaths}
use Rattle.aos_silent_steps.specs.Room.{StandsInRoom}
use Rattle.aos_silent_steps.proofs.silent.silent_from.Goals as goal

pub returns-clause-room : goal.returns-clause-room
returns-clause-room c depth paths small stands =
    let image = c.args.image.now in
    let f = c.args.frame.now in
    let keeps = c.keeps_of.ensures ∙ ap (λ (l : List ProcShape). keeps_in (numbered l f.procedure)) c.deref.ensures.value in
    subst (λ (x : List Instr × ℕ). KeepsToPaths image f.procedure x.0 depth → StandsInRoom image depth x.1 x.0 f → IsOk c.walk_from.result × StandsInRoom image depth x.1 x.0 c.walk_from.new.frame)
    (λ i. (c.code_of.ensures i, keeps i)) (c.walk_from.ensures.room depth) paths stands
