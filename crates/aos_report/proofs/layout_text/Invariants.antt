use Rattle.std.proofs.Common.{◌≡◌, take, map}
use Rattle.std.specs.List.{flat_map}
use Rattle.aos_code.specs.Lines.{seen_line}
use Rattle.aos_report.specs.Texts.{line_text}
use Rattle.aos_report.proofs.layout_text.Given as goal

-- the lines so far
abbrev pub invariant-loop-line : goal.invariant-loop-line
invariant-loop-line l = l.text.items ≡ flat_map line_text (map seen_line (take l.line-index l.lines))
