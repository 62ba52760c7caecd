use Rattle.std.proofs.Common.{rules, ◌≡◌, refl, ap, sym, subst, w64, ℤ}
use Rattle.std.specs.Prelude.{IfOk}
use mir.Val.{to_z, of_z}
use Rattle.aos_base.specs.Question.{Reads, Stores, Copies, Ends, Starts, PutsInt, PutsChar, PutsNothing, PutsLn, PutsString, PutsText, ComparesTexts}
use Rattle.aos_code.specs.declared.instr.Cell.TheVariants.{Num, Ref}
use Rattle.aos_store.specs.Store.{memory_in}
use Rattle.aos_silent_steps.specs.Acts.{addr_in, question_in, operands_of, results}
use Rattle.aos_sound.specs.FitFrames.{depth_of}
use Rattle.aos_silent_steps.specs.Room.{keeps_for}
use Rattle.aos_cpu.specs.Turns.{HasAnswered, Stands}
use Rattle.aos_cpu.specs.Answers.{IsAnswered}
use Rattle.aos_base.specs.declared.kernel.Did.TheVariants.{Enter, Leave, Await}
use Rattle.aos_silent_steps.specs.declared.act.Question.TheVariants.{Enters as AsksEnter, Leaves as AsksLeave, Awaits as AsksAwait}
use Rattle.aos_cpu.proofs.Answering.{has_answered, has_ok, left_in}
use Rattle.aos_cpu.proofs.answers.answer.Goals as goal

pub returns-in-Reads-clause-ok : goal.returns-in-Reads-clause-ok
returns-in-Reads-clause-ok c =
    has_ok c.args.image.now c.args.question (Reads c.in-Reads.kind (addr_in c.in-Reads.address)) c.args.at 1 (λ s. ap (λ x. question_in x s) c.in-Reads.is) (ap operands_of c.in-Reads.is)
    c.args.frames.now c.read.new.frames (memory_in c.args.store.now) (memory_in c.args.store.now) c.args.output.now.items c.args.output.now.items c.read.result
    (c.read.ensures.ok c.args.output.now.items)

pub returns-in-Stores-clause-ok : goal.returns-in-Stores-clause-ok
returns-in-Stores-clause-ok c =
    has_answered c.args.image.now c.args.question (Stores (addr_in c.in-Stores.address) c.in-Stores.value) c.args.at 2 (λ s. ap (λ x. question_in x s) c.in-Stores.is) (ap operands_of c.in-Stores.is)
    c.args.frames.now c.write.new.frames (memory_in c.args.store.now) (memory_in c.write.new.store) c.args.output.now.items c.args.output.now.items c.write.result
    (c.write.ensures.answered c.args.output.now.items)

pub returns-in-Copies-clause-ok : goal.returns-in-Copies-clause-ok
returns-in-Copies-clause-ok c =
    has_answered c.args.image.now c.args.question (Copies c.in-Copies.count (addr_in c.in-Copies.from) (addr_in c.in-Copies.to)) c.args.at 2 (λ s. ap (λ x. question_in x s) c.in-Copies.is) (ap operands_of c.in-Copies.is)
    c.args.frames.now c.copy.new.frames (memory_in c.args.store.now) (memory_in c.copy.new.store) c.args.output.now.items c.args.output.now.items c.copy.result
    (c.copy.ensures.answered c.args.output.now.items)

pub returns-in-Ends-clause-ok : goal.returns-in-Ends-clause-ok
returns-in-Ends-clause-ok c =
    has_ok c.args.image.now c.args.question (Ends c.in-Ends.value) c.args.at (results c.in-Ends.value) (λ s. ap (λ x. question_in x s) c.in-Ends.is) (ap operands_of c.in-Ends.is)
    c.args.frames.now c.end_frame.new.frames (memory_in c.args.store.now) (memory_in c.args.store.now) c.args.output.now.items c.args.output.now.items c.end_frame.result
    (c.end_frame.ensures.ok c.args.at (results c.in-Ends.value) (memory_in c.args.store.now) c.args.output.now.items)

pub returns-in-Makes-clause-ok : goal.returns-in-Makes-clause-ok
returns-in-Makes-clause-ok c =
    let out = c.args.output.now.items in
    subst (λ q. IfOk c.make.result (λ did. HasAnswered c.args.image.now q c.args.at c.args.frames.now c.make.new.frames (memory_in c.args.store.now) (memory_in c.make.new.store) did out out)) (sym c.in-Makes.is) (c.make.ensures.ok out)

pub returns-in-Starts-clause-ok : goal.returns-in-Starts-clause-ok
returns-in-Starts-clause-ok c =
    has_answered c.args.image.now c.args.question (Starts (Ref c.in-Starts.object)) c.args.at 1 (λ s. ap (λ x. question_in x s) c.in-Starts.is) (ap operands_of c.in-Starts.is)
    c.args.frames.now c.args.frames.now (memory_in c.args.store.now) (memory_in c.args.store.now) c.args.output.now.items c.args.output.now.items c.start.result
    (c.start.ensures c.args.at c.args.frames.now (memory_in c.args.store.now) c.args.output.now.items (λ f fs is. (let h = subst (λ q. Stands q c.args.at c.args.frames.now) c.in-Starts.is c.requires.stands f fs is in (sym h.0, h.1))))

pub returns-in-Enters-clause-ok : goal.returns-in-Enters-clause-ok
returns-in-Enters-clause-ok c =
    left_in c.args.image.now c.args.question AsksEnter Enter c.top_lock.result c.args.at c.args.frames.now (memory_in c.args.store.now) c.args.output.now.items c.in-Enters.is c.requires.stands
    (λ following f fs. refl) c.top_lock.ensures

pub returns-in-Leaves-clause-ok : goal.returns-in-Leaves-clause-ok
returns-in-Leaves-clause-ok c =
    left_in c.args.image.now c.args.question AsksLeave Leave c.top_lock-in-Leaves.result c.args.at c.args.frames.now (memory_in c.args.store.now) c.args.output.now.items c.in-Leaves.is c.requires.stands
    (λ following f fs. refl) c.top_lock-in-Leaves.ensures

pub returns-in-Awaits-clause-ok : goal.returns-in-Awaits-clause-ok
returns-in-Awaits-clause-ok c =
    let n = c.in-Awaits.condition in
    left_in c.args.image.now c.args.question (AsksAwait n) (λ l. Await l n) c.top_lock-in-Awaits.result c.args.at c.args.frames.now (memory_in c.args.store.now) c.args.output.now.items c.in-Awaits.is c.requires.stands
    (λ following f fs. refl) c.top_lock-in-Awaits.ensures

pub returns-in-PutsInt-clause-ok : goal.returns-in-PutsInt-clause-ok
returns-in-PutsInt-clause-ok c =
    has_ok c.args.image.now c.args.question (PutsInt (Num c.in-PutsInt.value) (Num c.in-PutsInt.places)) c.args.at 2 (λ s. ap (λ x. question_in x s) c.in-PutsInt.is) (ap operands_of c.in-PutsInt.is)
    c.args.frames.now c.put_int.new.frames (memory_in c.args.store.now) (memory_in c.args.store.now) c.args.output.now.items c.put_int.new.output.items c.put_int.result
    (let first : to_z w64 (of_z w64 c.in-PutsInt.value) ≡ c.in-PutsInt.value = search rules in
    let second : to_z w64 (of_z w64 c.in-PutsInt.places) ≡ c.in-PutsInt.places = search rules in
    subst (λ (x : ℤ × ℤ). IfOk c.put_int.result (λ did. IsAnswered (PutsInt (Num x.0) (Num x.1)) c.args.at 2 c.args.frames.now c.put_int.new.frames (memory_in c.args.store.now) (memory_in c.args.store.now) did c.args.output.now.items c.put_int.new.output.items))
    (λ i. (first i, second i)) (c.put_int.ensures.ok (memory_in c.args.store.now)))

pub returns-in-PutsChar-clause-ok : goal.returns-in-PutsChar-clause-ok
returns-in-PutsChar-clause-ok c =
    has_ok c.args.image.now c.args.question (PutsChar (Num c.in-PutsChar.code)) c.args.at 1 (λ s. ap (λ x. question_in x s) c.in-PutsChar.is) (ap operands_of c.in-PutsChar.is)
    c.args.frames.now c.put_char.new.frames (memory_in c.args.store.now) (memory_in c.args.store.now) c.args.output.now.items c.put_char.new.output.items c.put_char.result
    (let first : to_z w64 (of_z w64 c.in-PutsChar.code) ≡ c.in-PutsChar.code = search rules in
    subst (λ (x : ℤ). IfOk c.put_char.result (λ did. IsAnswered (PutsChar (Num x)) c.args.at 1 c.args.frames.now c.put_char.new.frames (memory_in c.args.store.now) (memory_in c.args.store.now) did c.args.output.now.items c.put_char.new.output.items)) first
    (c.put_char.ensures.ok (memory_in c.args.store.now)))

pub returns-in-PutsNothing-clause-ok : goal.returns-in-PutsNothing-clause-ok
returns-in-PutsNothing-clause-ok c =
    has_answered c.args.image.now c.args.question PutsNothing c.args.at 0 (λ s. ap (λ x. question_in x s) c.in-PutsNothing.is) (ap operands_of c.in-PutsNothing.is)
    c.args.frames.now c.put_nothing.new.frames (memory_in c.args.store.now) (memory_in c.args.store.now) c.args.output.now.items c.args.output.now.items c.put_nothing.result
    (c.put_nothing.ensures.answered (memory_in c.args.store.now) c.args.output.now.items)

pub returns-in-PutsLn-clause-ok : goal.returns-in-PutsLn-clause-ok
returns-in-PutsLn-clause-ok c =
    has_ok c.args.image.now c.args.question PutsLn c.args.at 0 (λ s. ap (λ x. question_in x s) c.in-PutsLn.is) (ap operands_of c.in-PutsLn.is)
    c.args.frames.now c.put_ln.new.frames (memory_in c.args.store.now) (memory_in c.args.store.now) c.args.output.now.items c.put_ln.new.output.items c.put_ln.result
    (c.put_ln.ensures.ok (memory_in c.args.store.now))

pub returns-in-PutsString-clause-ok : goal.returns-in-PutsString-clause-ok
returns-in-PutsString-clause-ok c =
    has_ok c.args.image.now c.args.question (PutsString (addr_in c.in-PutsString.address) (Num c.in-PutsString.len)) c.args.at 2 (λ s. ap (λ x. question_in x s) c.in-PutsString.is) (ap operands_of c.in-PutsString.is)
    c.args.frames.now c.put_string.new.frames (memory_in c.args.store.now) (memory_in c.args.store.now) c.args.output.now.items c.put_string.new.output.items c.put_string.result
    (let first : to_z w64 (of_z w64 c.in-PutsString.len) ≡ c.in-PutsString.len = search rules in
    subst (λ (x : ℤ). IfOk c.put_string.result (λ did. IsAnswered (PutsString (addr_in c.in-PutsString.address) (Num x)) c.args.at 2 c.args.frames.now c.put_string.new.frames (memory_in c.args.store.now) (memory_in c.args.store.now) did c.args.output.now.items c.put_string.new.output.items)) first
    c.put_string.ensures.ok)

pub returns-in-PutsText-clause-ok : goal.returns-in-PutsText-clause-ok
returns-in-PutsText-clause-ok c =
    let in' = c.in-PutsText in
    has_ok c.args.image.now c.args.question (PutsText in'.strict (addr_in in'.from) (Num in'.len) (addr_in in'.to) (Num in'.room)) c.args.at 4 (λ s. ap (λ x. question_in x s) in'.is) (ap operands_of in'.is)
    c.args.frames.now c.put_text.new.frames (memory_in c.args.store.now) (memory_in c.put_text.new.store) c.args.output.now.items c.args.output.now.items c.put_text.result
    (let first : to_z w64 (of_z w64 in'.len) ≡ in'.len = search rules in
    let second : to_z w64 (of_z w64 in'.room) ≡ in'.room = search rules in
    subst (λ (x : ℤ × ℤ). IfOk c.put_text.result (λ did. IsAnswered (PutsText in'.strict (addr_in in'.from) (Num x.0) (addr_in in'.to) (Num x.1)) c.args.at 4 c.args.frames.now c.put_text.new.frames (memory_in c.args.store.now) (memory_in c.put_text.new.store) did c.args.output.now.items c.args.output.now.items))
    (λ i. (first i, second i)) (c.put_text.ensures.ok c.args.output.now.items))

pub returns-in-ComparesTexts-clause-ok : goal.returns-in-ComparesTexts-clause-ok
returns-in-ComparesTexts-clause-ok c =
    let in' = c.in-ComparesTexts in
    has_ok c.args.image.now c.args.question (ComparesTexts in'.relation (addr_in in'.a) (Num in'.n) (addr_in in'.b) (Num in'.m)) c.args.at 4 (λ s. ap (λ x. question_in x s) in'.is) (ap operands_of in'.is)
    c.args.frames.now c.compare_texts.new.frames (memory_in c.args.store.now) (memory_in c.args.store.now) c.args.output.now.items c.args.output.now.items c.compare_texts.result
    (let first : to_z w64 (of_z w64 in'.n) ≡ in'.n = search rules in
    let second : to_z w64 (of_z w64 in'.m) ≡ in'.m = search rules in
    subst (λ (x : ℤ × ℤ). IfOk c.compare_texts.result (λ did. IsAnswered (ComparesTexts in'.relation (addr_in in'.a) (Num x.0) (addr_in in'.b) (Num x.1)) c.args.at 4 c.args.frames.now c.compare_texts.new.frames (memory_in c.args.store.now) (memory_in c.args.store.now) did c.args.output.now.items c.args.output.now.items))
    (λ i. (first i, second i)) (c.compare_texts.ensures.ok c.args.output.now.items))

pub returns-in-Calls-clause-ok : goal.returns-in-Calls-clause-ok
returns-in-Calls-clause-ok c =
    let out = c.args.output.now.items in
    subst (λ q. IfOk c.call.result (λ did. HasAnswered c.args.image.now q c.args.at c.args.frames.now c.call.new.frames (memory_in c.args.store.now) (memory_in c.args.store.now) did out out)) (sym c.in-Calls.is) (c.call.ensures.ok out)

-- room is kept, whatever room procedures need

pub returns-in-Reads-clause-room : goal.returns-in-Reads-clause-room
returns-in-Reads-clause-room c = c.read.ensures.room (depth_of c.args.image.now) (keeps_for c.args.image.now)

pub returns-in-Stores-clause-room : goal.returns-in-Stores-clause-room
returns-in-Stores-clause-room c = c.write.ensures.room (depth_of c.args.image.now) (keeps_for c.args.image.now)

pub returns-in-Copies-clause-room : goal.returns-in-Copies-clause-room
returns-in-Copies-clause-room c = c.copy.ensures.room (depth_of c.args.image.now) (keeps_for c.args.image.now)

pub returns-in-PutsText-clause-room : goal.returns-in-PutsText-clause-room
returns-in-PutsText-clause-room c = c.put_text.ensures.room (depth_of c.args.image.now) (keeps_for c.args.image.now)

pub returns-in-ComparesTexts-clause-room : goal.returns-in-ComparesTexts-clause-room
returns-in-ComparesTexts-clause-room c = c.compare_texts.ensures.room (depth_of c.args.image.now) (keeps_for c.args.image.now)

pub returns-in-Ends-clause-room : goal.returns-in-Ends-clause-room
returns-in-Ends-clause-room c = c.end_frame.ensures.room (depth_of c.args.image.now) (keeps_for c.args.image.now)

pub returns-in-Makes-clause-room : goal.returns-in-Makes-clause-room
returns-in-Makes-clause-room c = c.make.ensures.room (depth_of c.args.image.now) (keeps_for c.args.image.now)

pub returns-in-PutsInt-clause-room : goal.returns-in-PutsInt-clause-room
returns-in-PutsInt-clause-room c = c.put_int.ensures.room (depth_of c.args.image.now) (keeps_for c.args.image.now)

pub returns-in-PutsChar-clause-room : goal.returns-in-PutsChar-clause-room
returns-in-PutsChar-clause-room c = c.put_char.ensures.room (depth_of c.args.image.now) (keeps_for c.args.image.now)

pub returns-in-PutsString-clause-room : goal.returns-in-PutsString-clause-room
returns-in-PutsString-clause-room c = c.put_string.ensures.room (depth_of c.args.image.now) (keeps_for c.args.image.now)

pub returns-in-PutsNothing-clause-room : goal.returns-in-PutsNothing-clause-room
returns-in-PutsNothing-clause-room c = c.put_nothing.ensures.room (depth_of c.args.image.now) (keeps_for c.args.image.now)

pub returns-in-PutsLn-clause-room : goal.returns-in-PutsLn-clause-room
returns-in-PutsLn-clause-room c = c.put_ln.ensures.room (depth_of c.args.image.now) (keeps_for c.args.image.now)
