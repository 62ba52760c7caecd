use Rattle.std.proofs.Common.{◌≡◌, refl, ap, ◌∙◌, ◌++◌}
use Rattle.aos_base.specs.Schedule.{choices}
use Rattle.aos_kernel.specs.Run.{Run, after}
use Rattle.aos_script.specs.Listing.{choices_of}
use Rattle.aos.specs.Report.{ended_text}
use Rattle.aos.proofs.Over.{lines_along, told_whole, shows_replay}
use Rattle.aos.proofs.run.replay_all.Goals as goal

pub returns : goal.returns
returns g c =
    let k = c.args.kernel.now in
    let s = c.args.script.now in
    let r = c.replay.new.kernel in
    let same = c.in_ok-replay.ensures.same in
    let state =
    c.in_ok-replay.ensures.state
    ∙ ap (λ (x : Run). after x.image x.budget (choices x.log ++ choices_of s)) c.requires.first in
    let ended = c.in_ok-extend_from_slice.ensures.items ∙ ap (λ l. c.in_ok-answer.answer.err.items ++ l) c.deref.ensures.value in
    let lines = c.in_ok-lines.lines.items in
    shows_replay k.image s r c.in_ok-answer.answer _ c.in_ok-ended.ended.items lines _
    (ap (λ (x : Run). x.image) same) (ap (λ (x : Run). x.budget) same ∙ ap (λ (x : Run). x.budget) c.requires.first)
    state c.in_ok-answer.ensures refl refl
    (c.in_ok-extend_from_slice-2.ensures.items ∙ (λ i. ended i ++ c.deref-2.ensures.value i))
    (c.in_ok-ended.ensures ∙ (λ i. ended_text (c.outcome-outcome.ensures i) (c.steps.ensures i)))
    (lines_along _ lines _ _ c.in_ok-lines.ensures c.as_slice.ensures.value)
    (told_whole k.image s k r _ _ (ap (λ (x : Run). x.log) c.requires.first) state c.in_ok-replay.ensures.told)
