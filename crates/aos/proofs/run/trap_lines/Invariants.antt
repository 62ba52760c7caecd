use Rattle.std.proofs.Common.{◌≡◌, map, take}
use Rattle.std.specs.String.{string_bytes}
use Rattle.aos_report.specs.Texts.{rows_text}
use Rattle.aos.specs.Shown.{row_of}
use Rattle.aos.proofs.run.trap_lines.Given as goal

-- the lines of the traps so far
abbrev pub invariant-loop-trap : goal.invariant-loop-trap
invariant-loop-trap l =
    l.lines.items ≡ rows_text (map (λ d. string_bytes d.name) l.modules) (map row_of (take l.trap-index l.traps))
