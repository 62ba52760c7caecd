use Rattle.std.proofs.Common.{◌<◌, length, arith}
use Rattle.aos_code.specs.Lines.{seen_line}
use Rattle.aos_report.specs.Texts.{line_text}
use Rattle.aos_report.proofs.Joined.{joined_more}
use Rattle.aos_report.proofs.layout_text.Goals as goal

pub loop-line-preserved : goal.loop-line-preserved
loop-line-preserved c =
    let l = c.loop-line in
    let xs = c.args.lines.now in
    let lt : l.line-index < length xs = omega arith in
    joined_more seen_line line_text _ _ xs l.line-index c.line-item.result lt c.line-item.is l.invariant c.in_ok-put_line.ensures
