use Rattle.std.proofs.Common.{◌≡◌, List, length, take, reverse, sym, ap, ◌∙◌, arith}
use Rattle.std.proofs.lemmas.List.{take_all}
use Rattle.aos_code.specs.Machine.{position, position_or}
use Rattle.aos_store.specs.declared.frames.Frame.{Frame as KeptFrame}
use Rattle.aos_store.specs.Store.{list_in, frames_in}
use Rattle.aos_cpu.specs.Turns.{where_in}
use Rattle.aos_cpu.proofs.Turns.{position_alike, position_home}
use Rattle.aos_cpu.proofs.turn.position.Goals as goal

pub returns : goal.returns
returns c made fs h =
    let image = c.args.image.now in
    let frames = c.args.frames.now in
    let items = frames.list.items in
    let all : take c.loop-frame.frame-index items ≡ items = take_all c.loop-frame.frame-index items (omega (arith, c.loop-frame-test.false, ap (λ (xs : List KeptFrame). length xs) c.as_slice-frame-items.ensures.value)) in
    let here : position image (frames_in frames) ≡ where_in c.loop-frame.found =
    sym (position_home image (reverse frames.following.items) (list_in items)) ∙ ap (λ w. position_or image w (list_in items)) (sym c.beginning-found.ensures)
    ∙ ap (λ (xs : List KeptFrame). position_or image (where_in c.beginning-found.result) (list_in xs)) (sym all) ∙ c.loop-frame.invariant in
    position_alike image made fs (frames_in frames) h ∙ here
