use Rattle.std.proofs.Common.{◌++◌, map, ap, ◌∙◌}
use Rattle.std.specs.String.{string_bytes}
use Rattle.aos_words.specs.Words.{borrowed}
use Rattle.aos_report.specs.Texts.{row_text}
use Rattle.aos.specs.Shown.{row_of}
use Rattle.aos.proofs.Pieces.{one_more_trap}
use Rattle.aos.proofs.run.trap_lines.Goals as goal

pub loop-trap-preserved : goal.loop-trap-preserved
loop-trap-preserved c =
    let ts = c.args.traps.now in
    let k = c.loop-trap.trap-index in
    let t = c.trap-item.result in
    one_more_trap (map (λ d. string_bytes d.name) c.args.modules.now) ts k t c.loop-trap.lines.items _ _ c.loop-trap-test.true c.trap-item.is c.loop-trap.invariant (c.in_ok-extend_from_slice.ensures.items ∙ ap (λ l. c.loop-trap.lines.items ++ l) c.deref-in-loop-trap.ensures.value)
    (c.in_ok-trap_line.ensures ∙ ap (λ names. row_text names (row_of t)) (ap borrowed c.deref.ensures.value ∙ c.in_ok-names.ensures))
