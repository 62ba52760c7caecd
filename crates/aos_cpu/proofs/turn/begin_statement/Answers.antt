use Rattle.std.proofs.Common.{◌≡◌, ◌+◌, ◌-◌, ◌∷◌, length, refl, ap, ◌∙◌, arith}
use Rattle.std.specs.Prelude.{Some}
use Rattle.aos_store.specs.declared.frames.Frame.{Frame as KeptFrame}
use Rattle.aos_store.proofs.Rooms.{roomy_set}
use Rattle.aos_cpu.specs.Answers.{begun_at}
use Rattle.aos_cpu.proofs.Turns.{last_read, list_put}
use Rattle.aos_cpu.proofs.turn.begin_statement.Goals as goal

pub returns-in-Some-clause-frames : goal.returns-in-Some-clause-frames
returns-in-Some-clause-frames c f fs is =
    let frames = c.args.frames.now.list in
    let all : frames.len ≡ length frames.items = omega arith in
    let here = last_read frames.items frames.len c.in-Some.frame.now all c.in-Some.ensures.item.3.0 c.in-Some.ensures.item.1 in
    let both = list_put frames.items frames.len c.in-Some.frame.now _ f fs all here is in
    both.1 ∙ ap (λ x. begun_at c.args.at c.args.pos x ∷ fs) both.0

pub returns-in-Some-clause-room : goal.returns-in-Some-clause-room
returns-in-Some-clause-room c depths keeps roomy =
    let frames = c.args.frames.now.list in
    let f = c.in-Some.frame.now in
    let all : frames.len ≡ length frames.items = omega arith in
    let here = last_read frames.items frames.len f all c.in-Some.ensures.item.3.0 c.in-Some.ensures.item.1 in
    let g : KeptFrame = record f { next = c.args.at + 1; at = Some c.args.pos } in
    roomy_set depths keeps frames.items (frames.len - 1) f g here (record { procedure = refl; operands = omega arith; kept = omega arith }) roomy
