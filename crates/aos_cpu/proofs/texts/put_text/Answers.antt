use Rattle.std.proofs.Common.{rules, ◌≡◌, [], ◌∙◌, length, ap, subst, w64, ℤ}
use mir.Val.{to_z, of_z}
use Rattle.aos_base.specs.Rooted.{at_root, spliced}
use Rattle.aos_code.specs.declared.instr.Cell.TheVariants.{Num}
use Rattle.aos_code.specs.Machine.{text_at, length_in, character_cells, memory_with}
use Rattle.aos_store.specs.Store.{memory_in, rooted_in, has_all, with_frames}
use Rattle.aos_cpu.specs.Answers.{IsFitted}
use Rattle.aos_silent_steps.specs.Acts.{addr_in}
use Rattle.aos_cpu.proofs.Behind.{text_lost, text_made}
use Rattle.aos_cpu.proofs.texts.put_text.Goals as goal

pub returns-then-not-store_text-clause-ok : goal.returns-then-not-store_text-clause-ok
returns-then-not-store_text-clause-ok c out =
    let x = rooted_in c.args.frames.now c.args.store.now in
    let stored = c.if-not-store_text.ensures in
    let cs = c.read_fitted.new.bytes.items in
    let first : to_z w64 (of_z w64 c.args.number) ≡ c.args.number = search rules in
    let second : to_z w64 (of_z w64 c.args.room) ≡ c.args.room = search rules in
    let fits = subst (λ (p : ℤ × ℤ). IsFitted c.args.strict (text_at [] (addr_in c.args.from) (Num p.0) x) (length_in [] (Num p.1)) cs c.in_ok-trap.trap) (λ i. (first i, second i)) c.in_ok-trap.ensures in
    text_lost c.args.frames.now c.store_text.new.frames (memory_in c.args.store.now) (memory_in c.store_text.new.store) c.args.strict (addr_in c.args.from) (Num c.args.number) (addr_in c.args.to) (Num c.args.room) c.args.at out cs c.in_ok-trap.trap
    fits c.if-trap-ne0.false (stored.there ∙ ap (λ ys. has_all (length ys) c.args.to.cell (at_root c.args.to.root x)) c.deref.ensures.value) stored.frames stored.memory

pub returns-clause-ok : goal.returns-clause-ok
returns-clause-ok c out =
    let x = rooted_in c.args.frames.now c.args.store.now in
    let stored = c.if-not-store_text.ensures in
    let cs = c.read_fitted.new.bytes.items in
    let first : to_z w64 (of_z w64 c.args.number) ≡ c.args.number = search rules in
    let second : to_z w64 (of_z w64 c.args.room) ≡ c.args.room = search rules in
    let fits = subst (λ (p : ℤ × ℤ). IsFitted c.args.strict (text_at [] (addr_in c.args.from) (Num p.0) x) (length_in [] (Num p.1)) cs c.in_ok-trap.trap) (λ i. (first i, second i)) c.in_ok-trap.ensures in
    text_made c.args.frames.now c.store_text.new.frames c.go_behind.new.frames (memory_in c.args.store.now) (memory_in c.store_text.new.store) c.args.strict (addr_in c.args.from) (Num c.args.number) (addr_in c.args.to) (Num c.args.room) c.args.at out cs c.in_ok-trap.trap
    fits c.if-trap-ne0.false (stored.there ∙ ap (λ ys. has_all (length ys) c.args.to.cell (at_root c.args.to.root x)) c.deref.ensures.value)
    (stored.frames ∙ ap (λ ys. with_frames c.args.to.root (spliced c.args.to.cell (character_cells [] ys)) c.args.frames.now) c.deref.ensures.value)
    (stored.memory ∙ ap (λ ys. memory_with c.args.to.root (spliced c.args.to.cell (character_cells [] ys)) (memory_in c.args.store.now)) c.deref.ensures.value)
    c.go_behind.ensures.behind

pub returns-clause-room : goal.returns-clause-room
returns-clause-room c depths keeps roomy = c.go_behind.ensures.room depths keeps (c.if-not-store_text.ensures.room depths keeps roomy)
