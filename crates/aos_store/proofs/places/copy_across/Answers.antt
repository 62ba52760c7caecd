use Rattle.std.proofs.Common.{◌<◌, List, reverse, refl, sym, ap, ◌∙◌, arith}
use Rattle.aos_code.specs.Machine.{Frame, Frames}
use Rattle.aos_store.specs.Store.{list_in, memory_in}
use Rattle.aos_store.proofs.Roots.{none_frames, none_memory, copied_more}
use Rattle.aos_store.proofs.places.copy_across.Goals as goal

pub loop-i-init : goal.loop-i-init
loop-i-init c =
    let fs = c.args.frames.now in
    record {
      frames = ap (λ (x : List Frame). let now : Frames = record { following = reverse fs.following.items; frames = x } in now) (sym (none_frames c.args.to c.args.to_cell (list_in fs.list.items)));
      counts = (refl, refl);
      room = λ depths keeps roomy. roomy;
      memory = sym (none_memory c.args.to c.args.to_cell (memory_in c.args.store.now));
    }

pub loop-i-preserved : goal.loop-i-preserved
loop-i-preserved c =
    let old = c.loop-i.invariant in
    let new = c.copy_one.ensures in
    let lt : c.loop-i.i < c.args.count = omega arith in
    let more =
    copied_more (list_in c.args.frames.now.list.items) (list_in c.loop-i.frames.list.items) (list_in c.copy_one.new.frames.list.items) (memory_in c.args.store.now) (memory_in c.loop-i.store) (memory_in c.copy_one.new.store)
    c.args.from c.args.to c.args.from_cell c.args.to_cell c.loop-i.i c.args.count c.requires.apart lt c.requires.source c.requires.target (ap (λ (x : Frames). x.frames) old.frames) old.memory
    (λ v p q. (ap (λ (x : Frames). x.frames) (new.frames v p q), new.memory v p q)) in
    let follow = new.following ∙ ap (λ (x : Frames). x.following) old.frames in
    record {
      frames = λ j. (let now : Frames = record { following = follow j; frames = more.0 j } in now);
      counts = (new.counts.0 ∙ old.counts.0, new.counts.1 ∙ old.counts.1);
      room = λ depths keeps roomy. new.room depths keeps (old.room depths keeps roomy);
      memory = more.1;
    }
