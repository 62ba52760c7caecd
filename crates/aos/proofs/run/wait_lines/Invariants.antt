use Rattle.std.proofs.Common.{◌≡◌, map, take}
use Rattle.std.specs.String.{string_bytes}
use Rattle.aos_report.specs.Texts.{waits_text}
use Rattle.aos.specs.Shown.{wait_row_of}
use Rattle.aos.proofs.run.wait_lines.Given as goal

-- the lines of those who wait so far
abbrev pub invariant-loop-wait : goal.invariant-loop-wait
invariant-loop-wait l =
    l.lines.items ≡ waits_text (map (λ d. string_bytes d.name) l.modules) (map wait_row_of (take l.wait-index l.waits))
