use Rattle.std.proofs.Common.{◌≡◌, ◌-◌, ◌∷◌, [], drop, length, reverse, arith}
use Rattle.std.specs.Prelude.{Result, Ok, Err, OnErr}
use Rattle.aos_code.specs.Machine.{Frames, behind}
use Rattle.aos_store.specs.Store.{frame_in}
use Rattle.aos_silent_steps.proofs.Oks.{ok_more}
use Rattle.aos_store.proofs.Rooms.{roomy_set}
use Rattle.aos_cpu.proofs.Turns.{last_read, behind_put, same_put}
use Rattle.aos_cpu.proofs.answers.put_behind.Goals as goal

fault_more : {A B : Type 0} (r : Result A B) (P Q : Type 0) → (P → Q) → OnErr r P → OnErr r Q
fault_more (Ok a) P Q f p = p
fault_more (Err e) P Q f p = f p

pub returns-in-Some-clause-ok : goal.returns-in-Some-clause-ok
returns-in-Some-clause-ok c =
    let frames = c.args.frames.now in
    let top = c.in-Some.frame.now in
    let all : frames.list.len ≡ length frames.list.items = omega arith in
    let here = last_read frames.list.items frames.list.len top all c.in-Some.ensures.item.3.0 c.in-Some.ensures.item.1 in
    ok_more c.put_on.result (λ _. frame_in c.put_on.new.frame ≡ behind [] c.args.at (frame_in top).keeps (c.args.cell ∷ drop c.args.taken (frame_in top).stack) (frame_in top))
    _
    (λ a e f fs is. let p = behind_put c.args.at c.args.taken (c.args.cell ∷ []) frames.list.items frames.list.len top c.put_on.new.frame f fs all here is e in
    λ j. (let x : Frames = record { following = reverse frames.following.items; frames = p j } in x))
    c.put_on.ensures.ok

pub returns-in-Some-clause-err : goal.returns-in-Some-clause-err
returns-in-Some-clause-err c =
    let frames = c.args.frames.now in
    let top = c.in-Some.frame.now in
    let all : frames.list.len ≡ length frames.list.items = omega arith in
    let here = last_read frames.list.items frames.list.len top all c.in-Some.ensures.item.3.0 c.in-Some.ensures.item.1 in
    fault_more c.put_on.result _ _
    (λ same. let p = same_put frames.list.items frames.list.len top c.put_on.new.frame all here same in
    λ j. (let x : Frames = record { following = reverse frames.following.items; frames = p j } in x))
    c.put_on.ensures.err

pub returns-in-Some-clause-room : goal.returns-in-Some-clause-room
returns-in-Some-clause-room c depths keeps roomy =
    let frames = c.args.frames.now.list in
    let f = c.in-Some.frame.now in
    let all : frames.len ≡ length frames.items = omega arith in
    let here = last_read frames.items frames.len f all c.in-Some.ensures.item.3.0 c.in-Some.ensures.item.1 in
    roomy_set depths keeps frames.items (frames.len - 1) f c.put_on.new.frame here c.put_on.ensures.room roomy
