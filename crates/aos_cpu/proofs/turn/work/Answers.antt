use Rattle.std.proofs.Common.{◌≡◌, List, ◌∷◌, drop, true, sym, ap, ◌∙◌}
use Rattle.aos_base.specs.declared.kernel.Did.TheVariants.{Trapped}
use Rattle.aos_code.specs.Machine.{asker, Frame, finds, works}
use Rattle.aos_store.specs.Store.{list_in, memory_in}
use Rattle.aos_silent_steps.specs.declared.silent.Stop.TheVariants.{Work as AtWork}
use Rattle.aos_silent_steps.specs.Acts.{question_in, operands_of}
use Rattle.aos_silent_steps.specs.Known.{known}
use Rattle.aos_cpu.specs.Turns.{HasAnswered, WhereLeft, Same, IsTurned}
use Rattle.aos_silent_steps.proofs.Oks.{ok_more, ok_both}
use Rattle.aos_cpu.proofs.Fitting.{answered_stay}
use Rattle.aos_cpu.proofs.Turns.{failed_shown, shown_alike, worked, stands_at, stands_before}
use Rattle.aos_cpu.proofs.turn.work.Goals as goal

pub answer-requires-clause-stands : goal.answer-requires-clause-stands
answer-requires-clause-stands c = stands_at c.args.image.now (known c.args.store.now.objects) c.args.question c.args.at c.args.frames.now c.requires.stands

pub returns-then-finds-clause-ok : goal.returns-then-finds-clause-ok
returns-then-finds-clause-ok c =
    let image = c.args.image.now in
    let q = c.args.question in
    let old = c.args.frames.now in
    let new = c.answer.new.frames in
    let before = memory_in c.args.store.now in
    let after = memory_in c.answer.new.store in
    let out = c.args.output.now.items in
    let written = c.answer.new.output.items in
    let found : (f : Frame) (fs : List Frame) → list_in old.list.items ≡ f ∷ fs → finds image.types.items (question_in q f.stack) f before ≡ true = (λ f fs is. sym (c.finds.ensures f fs is) ∙ c.if-finds.true) in
    ok_more c.answer.result (λ did. HasAnswered image q c.args.at old new before after did out written) (λ did. IsTurned image did old new before after out written)
    (λ did answered fs h. shown_alike image old new before after fs did out written h
    (worked image q c.args.at old new before after did out written c.requires.stands found answered c.answer.ensures.counts.0))
    c.answer.ensures.ok

pub returns-then-finds-clause-before : goal.returns-then-finds-clause-before
returns-then-finds-clause-before c =
    let image = c.args.image.now in
    let old = c.args.frames.now in
    let new = c.answer.new.frames in
    let before = memory_in c.args.store.now in
    let after = memory_in c.answer.new.store in
    let out = c.args.output.now.items in
    let written = c.answer.new.output.items in
    ok_both c.answer.result (λ did. HasAnswered image c.args.question c.args.at old new before after did out written) (λ did. WhereLeft did (Same old new before after out written)) _
    (λ did answered left. stands_before image c.args.question c.args.at old new before after did out written c.requires.stands answered left)
    c.answer.ensures.ok c.answer.ensures.left

pub returns-then-finds-clause-fit : goal.returns-then-finds-clause-fit
returns-then-finds-clause-fit c =
    let answer = c.answer.ensures in
    answered_stay c.args.image.now (known c.args.store.now.objects) c.args.question c.args.at c.args.frames.now c.answer.new.frames (memory_in c.args.store.now) (memory_in c.answer.new.store) c.args.output.now.items c.answer.new.output.items
    c.answer.result c.requires.stands answer.ok answer.err answer.room

pub returns-clause-ok : goal.returns-clause-ok
returns-clause-ok c fs h =
    let image = c.args.image.now in
    let q = c.args.question in
    let old = c.args.frames.now in
    let mem = memory_in c.args.store.now in
    let out = c.args.output.now.items in
    shown_alike image old old mem mem fs (Trapped 16 0) out out h
    (failed_shown image (AtWork q c.args.at) 16 0 old mem out
    (λ following f gs is. ap (λ b. works following image.shapes.items image.types.items b (question_in q f.stack) (asker c.args.at f.keeps (drop (operands_of q) f.stack) f gs mem)) (sym (c.finds.ensures f gs is) ∙ c.if-finds.false))
    c.requires.stands)
