use Rattle.std.proofs.Common.{◌++◌, false, map, get_or, ap, ◌∙◌}
use Rattle.std.specs.String.{string_bytes}
use Rattle.std.proofs.lemmas.List.{get_or_default}
use Rattle.aos_base.specs.declared.kernel.LockName.TheVariants.{Module}
use Rattle.aos_code.specs.declared.report.WaitRec.{WaitRec}
use Rattle.aos_words.specs.Words.{borrowed}
use Rattle.aos_report.specs.Texts.{wait_text}
use Rattle.aos.specs.Shown.{wait_row_of}
use Rattle.aos.proofs.Pieces.{one_more_wait}
use Rattle.aos.proofs.run.wait_lines.Goals as goal

pub loop-wait-preserved : goal.loop-wait-preserved
loop-wait-preserved c =
    let ws = c.args.waits.now in
    let k = c.loop-wait.wait-index in
    let zero : WaitRec = record { activity = 0; lock = Module 0; awaits = false; «module» = 0; pos = record { line = 0; col = 0 } } in
    one_more_wait (map (λ d. string_bytes d.name) c.args.modules.now) ws k (get_or ws k zero) c.loop-wait.lines.items _ _ c.loop-wait-test.true (get_or_default ws k zero _ c.loop-wait-test.true) c.loop-wait.invariant (c.in_ok-extend_from_slice.ensures.items ∙ ap (λ l. c.loop-wait.lines.items ++ l) c.deref-in-loop-wait.ensures.value)
    (c.in_ok-wait_line.ensures ∙ ap (λ names. wait_text names (wait_row_of (get_or ws k zero))) (ap borrowed c.deref.ensures.value ∙ c.in_ok-names.ensures))
