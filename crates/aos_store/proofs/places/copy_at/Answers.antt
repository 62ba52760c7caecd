use Rattle.std.proofs.Common.{rules, ◌≡◌, List, reverse, sym, ap, ◌∙◌}
use Rattle.std.specs.Prelude.{if◌then◌else◌}
use Rattle.aos_base.specs.Rooted.{at_root, spliced}
use Rattle.aos_code.specs.Memory.{Memory}
use Rattle.aos_code.specs.Machine.{Frame, Frames}
use Rattle.aos_store.specs.declared.cells.Change.TheVariants.{Moves}
use Rattle.aos_store.specs.Store.{list_in, frames_in, memory_in, rooted_in, changed, read_all}
use Rattle.aos_store.proofs.Roots.{frames_like, memory_like}
use Rattle.aos_store.proofs.places.copy_at.Goals as goal

pub returns-then-eq-clause-frames : goal.returns-then-eq-clause-frames
returns-then-eq-clause-frames c =
    let fs = c.args.frames.now in
    let x = rooted_in fs c.args.store.now in
    let same : c.args.from ≡ c.args.to = search rules in
    c.change_at.ensures.frames
    ∙ ap (λ (l : List Frame). if c.change_at.result then (let now : Frames = record { following = reverse fs.following.items; frames = l } in now) else frames_in fs)
    (frames_like (list_in fs.list.items) (memory_in c.args.store.now) c.args.to (changed (Moves c.args.count c.args.from_cell c.args.to_cell)) (spliced c.args.to_cell (read_all c.args.count c.args.from_cell (at_root c.args.from x)))
    (λ cs p. ap (λ ys. spliced c.args.to_cell ys cs) (sym (ap (read_all c.args.count c.args.from_cell) (ap (λ r. at_root r x) same ∙ p)))))

pub returns-then-eq-clause-memory : goal.returns-then-eq-clause-memory
returns-then-eq-clause-memory c =
    let fs = c.args.frames.now in
    let x = rooted_in fs c.args.store.now in
    let same : c.args.from ≡ c.args.to = search rules in
    c.change_at.ensures.memory
    ∙ ap (λ (m : Memory). if c.change_at.result then m else memory_in c.args.store.now)
    (memory_like (list_in fs.list.items) (memory_in c.args.store.now) c.args.to (changed (Moves c.args.count c.args.from_cell c.args.to_cell)) (spliced c.args.to_cell (read_all c.args.count c.args.from_cell (at_root c.args.from x)))
    (λ cs p. ap (λ ys. spliced c.args.to_cell ys cs) (sym (ap (read_all c.args.count c.args.from_cell) (ap (λ r. at_root r x) same ∙ p)))))
