use Rattle.std.proofs.Common.{◌≡◌, ◌<◌, ◌+◌, ◌^◌, [], ◌∷◌, List, length, reverse, get_or, refl, sym, ap, ◌∙◌, pos, arith, w64}
use Rattle.std.specs.Prelude.{Bool, true, false, if◌then◌else◌}
use Rattle.std.proofs.lemmas.Int.{ints}
use mir.Val.{to_z}
use Rattle.aos_base.specs.declared.root.Root.{Root}
use Rattle.aos_base.specs.Rooted.{at_root, spliced}
use Rattle.aos_code.specs.declared.instr.Cell.{Cell}
use Rattle.aos_code.specs.declared.instr.Cell.TheVariants.{Num}
use Rattle.aos_code.specs.Machine.{Frame, Frames, character_cells, frames_with, memory_with}
use Rattle.aos_store.specs.declared.frames.Frames.{Frames as KeptFrames}
use Rattle.aos_store.specs.Store.{list_in, frames_in, memory_in, rooted_in, has_all, with_frames}
use Rattle.aos_store.proofs.Roots.{none_frames, none_memory}
use Rattle.aos_store.proofs.Views.{same_following}
use Rattle.aos_cpu.proofs.Characters.{count_cells, at_character}
use Rattle.aos_cpu.proofs.Storing.{stored_more}
use Rattle.aos_cpu.proofs.texts.store_characters.Goals as goal

pub loop-i-init : goal.loop-i-init
loop-i-init c =
    let fs = c.args.frames.now in
    record {
      frames = ap (λ (x : List Frame). let now : Frames = record { following = reverse fs.following.items; frames = x } in now) (sym (none_frames c.args.root c.args.cell (list_in fs.list.items)));
      counts = (refl, refl);
      room = λ depths keeps roomy. roomy;
      memory = sym (none_memory c.args.root c.args.cell (memory_in c.args.store.now));
    }

pub loop-i-preserved : goal.loop-i-preserved
loop-i-preserved c =
    let old = c.loop-i.invariant in
    let bytes = c.args.bytes.now in
    let i = c.loop-i.i in
    let vs = character_cells [] bytes in
    let lt : i < length vs = omega (arith, count_cells bytes) in
    let fits : get_or bytes i 0 < 2 ^ 8 = omega (arith, c.type_inv.bytes i) in
    let number : to_z w64 (get_or bytes i 0) ≡ pos (get_or bytes i 0) = omega (arith, ints) in
    let value : Num (to_z w64 (get_or bytes i 0)) ≡ get_or vs i (Num (pos 0)) = ap Num number ∙ sym (at_character bytes i vs refl c.loop-i-test.true) in
    let target = ap (λ n. has_all n c.args.cell (at_root c.args.root (rooted_in c.args.frames.now c.args.store.now))) (count_cells bytes) ∙ c.requires.target in
    let frames =
    c.store_at.ensures.frames ∙ ap (λ v. if c.store_at.result then with_frames c.args.root (spliced (c.args.cell + i) (v ∷ [])) c.loop-i.frames else frames_in c.loop-i.frames) value in
    let memory =
    c.store_at.ensures.memory ∙ ap (λ v. if c.store_at.result then memory_with c.args.root (spliced (c.args.cell + i) (v ∷ [])) (memory_in c.loop-i.store) else memory_in c.loop-i.store) value in
    let more =
    stored_more (list_in c.args.frames.now.list.items) (list_in c.loop-i.frames.list.items) (list_in c.store_at.new.frames.list.items) (memory_in c.args.store.now) (memory_in c.loop-i.store) (memory_in c.store_at.new.store)
    c.args.root c.args.cell i vs (Num (pos 0)) c.store_at.result lt target (ap (λ (x : Frames). x.frames) old.frames) old.memory c.store_at.ensures.there
    (ap (λ (x : Frames). x.frames) frames ∙ either c.store_at.result c.args.root (spliced (c.args.cell + i) (get_or vs i (Num (pos 0)) ∷ [])) c.loop-i.frames) memory in
    let follow = ap (λ (x : Frames). x.following) frames ∙ same_following c.loop-i.frames c.store_at.result _ _ ∙ ap (λ (x : Frames). x.following) old.frames in
    record {
      frames = λ j. (let now : Frames = record { following = follow j; frames = more.0 j } in now);
      counts = (c.store_at.ensures.counts.0 ∙ old.counts.0, c.store_at.ensures.counts.1 ∙ old.counts.1);
      room = λ depths keeps roomy. c.store_at.ensures.room depths keeps (old.room depths keeps roomy);
      memory = more.1;
    }
  where
    either : (b : Bool) (r : Root) (g : List Cell → List Cell) (fs : KeptFrames) → (if b then with_frames r g fs else frames_in fs).frames ≡ (if b then frames_with r g (list_in fs.list.items) else list_in fs.list.items)
    either true r g fs = refl
    either false r g fs = refl
