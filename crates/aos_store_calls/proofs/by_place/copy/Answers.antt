use Rattle.std.proofs.Common.{Bool, ◌&&◌, ap, ◌∙◌}
use Rattle.std.specs.Prelude.{if◌then◌else◌}
use Rattle.aos_base.specs.Rooted.{at_root, spliced}
use Rattle.aos_code.specs.Machine.{memory_with}
use Rattle.aos_store.specs.Store.{frames_in, memory_in, rooted_in, with_frames, read_all}
use Rattle.aos_store_calls.proofs.by_place.copy.Goals as goal

pub returns-clause-frames : goal.returns-clause-frames
returns-clause-frames c =
    let to = c.args.to in
    let from = c.args.from in
    let frames = c.args.frames.now in
    let cells = read_all c.args.count from.cell (at_root from.root (rooted_in frames c.args.store.now)) in
    let there = c.copy_at.ensures.there ∙ (λ i. c.requires.source i && c.requires.target i) in
    c.copy_at.ensures.frames ∙ ap (λ (b : Bool). if b then with_frames to.root (spliced to.cell cells) frames else frames_in frames) there

pub returns-clause-memory : goal.returns-clause-memory
returns-clause-memory c =
    let to = c.args.to in
    let from = c.args.from in
    let mem = memory_in c.args.store.now in
    let cells = read_all c.args.count from.cell (at_root from.root (rooted_in c.args.frames.now c.args.store.now)) in
    let there = c.copy_at.ensures.there ∙ (λ i. c.requires.source i && c.requires.target i) in
    c.copy_at.ensures.memory ∙ ap (λ (b : Bool). if b then memory_with to.root (spliced to.cell cells) mem else mem) there
